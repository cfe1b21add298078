use Rattle.std.proofs.Common.{ap, ◌∙◌}
use Rattle.dealer_desk.specs.DealerFacts.{DealerBook}
use Rattle.dealer_desk.specs.DealerOutput.{further_drop}
use Rattle.dealer_desk.proofs.KeptLemmas.{kept_drop, index_sound}
use Rattle.dealer_desk.proofs.desks.DealerDesk.drop_one.Goals as goal

pub note_drop-requires : goal.note_drop-requires
note_drop-requires c =
    let desk = c.self.inside in
    index_sound desk.date desk.row desk.events.items desk.sent.items desk.notes.items desk.index c.self.invariant

pub invariant_of-self-2 : goal.invariant_of-self-2
invariant_of-self-2 c =
    let desk = c.self.inside in
    rw (c.in_ok-push.ensures.items, c.in_ok-reserve.ensures.items, c.push_some.ensures.items, c.in_ok-reserve-2.ensures.items, c.push_some-2.ensures.items, c.in_ok-reserve-3.ensures.items, c.noted_with-noted.ensures)
    (kept_drop desk.date desk.row desk.events.items desk.sent.items desk.notes.items desk.index c.note_drop.new.index
    c.args.last c.args.moment c.args.settlement c.drop_message-output.result c.drop_note.result c.in_ok-sent.sent
    c.self.invariant
    c.drop_message-output.ensures
    c.drop_note.ensures
    (rw c.deref.ensures.value at c.in_ok-sent.ensures)
    c.note_drop.ensures)

pub returns-clause-further : goal.returns-clause-further
returns-clause-further c =
    c.further_drop-further.ensures
    ∙ ap (λ (b : DealerBook). further_drop b c.args.last c.args.moment) (invariant_of-self-2 c).book_is
