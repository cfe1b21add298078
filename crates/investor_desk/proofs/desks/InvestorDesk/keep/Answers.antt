use Rattle.investor_desk.proofs.KeptLemmas.{kept_noted}
use Rattle.investor_desk.proofs.desks.InvestorDesk.keep.Goals as goal

pub invariant_of-self-2 : goal.invariant_of-self-2
invariant_of-self-2 c =
    let desk = c.self.inside in
    rw (
      c.in_ok-push.ensures.items,
      c.in_ok-reserve.ensures.items,
      c.in_ok-push_some-2.ensures.items,
      c.in_ok-push_some.ensures.items,
      c.in_ok-reserve-2.ensures.items,
      c.in_ok-push_note-2.ensures.items,
      c.in_ok-push_note.ensures.items,
      c.in_ok-reserve-3.ensures.items,
    )
    (kept_noted desk.market desk.events.items desk.sent.items desk.notes.items desk.index c.take_note.new.index c.args.self.now c.args.note c.args.sent.first c.args.sent.second c.args.beside c.args.event
    c.self.invariant c.self.view_is c.in_ok-take_note.ensures.ok c.requires.facts c.requires.sent c.requires.beside)
