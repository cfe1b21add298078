use Rattle.std.proofs.Common.{◌≡◌, ◌<◌, ◌+◌, ◌^◌, List, ℕ, length, ap, ◌∙◌, arith}
use Rattle.dealer_desk.specs.DealerOutput.{next_message}
use Rattle.dealer_desk.specs.declared.events.DealerEvent.{DealerEvent}
use Rattle.dealer_desk.proofs.KeptLemmas.{notices_below}
use Rattle.dealer_desk.proofs.NoticeLemmas.{notice_shown, kept_notice}
use Rattle.dealer_desk.proofs.desks.DealerDesk.tell_request.Goals as goal

pub tell-requires-clause-from_first : goal.tell-requires-clause-from_first
tell-requires-clause-from_first c =
    let desk = c.self.inside in
    (notice_shown desk.date desk.row desk.events.items desk.sent.items desk.notes.items desk.index c.args.number c.args.close c.in-Some.notice
    c.self.invariant c.in-Some.ensures).0

pub tell-requires-clause-to_last : goal.tell-requires-clause-to_last
tell-requires-clause-to_last c =
    let desk = c.self.inside in
    (notice_shown desk.date desk.row desk.events.items desk.sent.items desk.notes.items desk.index c.args.number c.args.close c.in-Some.notice
    c.self.invariant c.in-Some.ensures).1

pub tell-requires-clause-fits : goal.tell-requires-clause-fits
tell-requires-clause-fits c =
    let desk = c.self.inside in
    let room = c.reserve.new.self in
    let same : length room.items ≡ length desk.events.items =
    ap (λ (es : List DealerEvent). length es) c.reserve.ensures.items in
    let few : length desk.events.items + 1 < 2 ^ 63 =
    omega (arith, room.ok.0, room.ok.1, room.small, c.in_ok-reserve.ensures.ok) in
    notices_below desk.date desk.row desk.events.items desk.sent.items desk.notes.items desk.index c.self.invariant few

pub invariant_of-self-2 : goal.invariant_of-self-2
invariant_of-self-2 c =
    let desk = c.self.inside in
    rw (c.in_ok-push.ensures.items, c.in_ok-reserve.ensures.items, c.in_ok-push-2.ensures.items, c.in_ok-reserve-2.ensures.items, c.in_ok-push-3.ensures.items, c.in_ok-reserve-3.ensures.items)
    (kept_notice desk.date desk.row desk.events.items desk.sent.items desk.notes.items desk.index c.tell.new.self
    c.args.number c.args.close c.args.moment c.in-Some.notice c.notice_note-note.result c.in_ok-message.message
    c.self.invariant c.in-Some.ensures c.notice_note-note.ensures
    (c.in_ok-message.ensures
    ∙ ap (λ (ss : List (List ℕ)). next_message desk.date desk.row ss c.args.moment c.in-Some.notice) c.deref.ensures.value)
    (c.tell.ensures c.args.moment))
