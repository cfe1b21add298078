use Rattle.dealer_desk.proofs.KeptLemmas.{exposure_within}
use Rattle.dealer_desk.proofs.desks.DealerDesk.exposure.Goals as goal

pub returns-clause-within : goal.returns-clause-within
returns-clause-within c =
    let desk = c.self.inside in
    rw (c.exposure.ensures.value, ← c.self.view_is)
    (exposure_within desk.date desk.row desk.events.items desk.sent.items desk.notes.items desk.index c.self.invariant)
