use Rattle.std.proofs.Common.{◌≡◌, ◌<◌, ◌+◌, ◌^◌, List, length, sym, ap, ◌∙◌, arith}
use Rattle.dealer_desk.specs.declared.events.DealerEvent.{DealerEvent}
use Rattle.dealer_desk.proofs.KeptLemmas.{kept_own, own_lawful, used_below, verdict_seen}
use Rattle.dealer_desk.proofs.desks.DealerDesk.receive_judged.Goals as goal

pub take_note-requires-clause-lawful : goal.take_note-requires-clause-lawful
take_note-requires-clause-lawful c =
    let desk = c.self.inside in
    let bytes = c.args.bytes.now in
    own_lawful desk.date desk.row desk.events.items desk.sent.items desk.notes.items desk.index c.args.moment bytes c.args.settlement
    c.args.verdict c.outcome_of-outcome.result.note
    c.self.invariant
    (c.requires.judged
    ∙ sym (verdict_seen desk.date desk.row desk.events.items desk.sent.items desk.notes.items desk.index c.args.self.now c.args.moment bytes
    c.self.invariant c.self.view_is))
    c.outcome_of-outcome.ensures.note

pub take_note-requires-clause-fits : goal.take_note-requires-clause-fits
take_note-requires-clause-fits c =
    let desk = c.self.inside in
    let room = c.reserve.new.self in
    let same : length room.items ≡ length desk.events.items =
    ap (λ (es : List DealerEvent). length es) c.reserve.ensures.items in
    let few : length desk.events.items + 1 < 2 ^ 63 =
    omega (arith, room.ok.0, room.ok.1, room.small, c.in_ok-reserve.ensures.ok) in
    used_below desk.date desk.row desk.events.items desk.sent.items desk.notes.items desk.index c.self.invariant few

pub invariant_of-self-2 : goal.invariant_of-self-2
invariant_of-self-2 c =
    let desk = c.self.inside in
    let bytes = c.args.bytes.now in
    let outcome = c.outcome_of-outcome.result in
    rw (c.in_ok-push.ensures.items, c.in_ok-reserve.ensures.items, c.push_some.ensures.items, c.in_ok-reserve-2.ensures.items, c.push_some-2.ensures.items, c.in_ok-reserve-3.ensures.items, c.noted_with-noted.ensures, c.in_ok-message.ensures)
    (kept_own desk.date desk.row desk.events.items desk.sent.items desk.notes.items desk.index c.take_note.new.index
    c.args.moment bytes c.args.settlement c.args.verdict outcome.note outcome.output outcome.beside c.in_ok-sent.sent
    c.self.invariant
    (c.requires.judged
    ∙ sym (verdict_seen desk.date desk.row desk.events.items desk.sent.items desk.notes.items desk.index c.args.self.now c.args.moment bytes
    c.self.invariant c.self.view_is))
    c.outcome_of-outcome.ensures.note
    c.outcome_of-outcome.ensures.output
    c.outcome_of-outcome.ensures.beside
    (rw c.deref.ensures.value at c.in_ok-sent.ensures)
    (c.in_ok-take_note.ensures.ok c.args.moment bytes))
