use Rattle.std.proofs.Common.{sym, subst}
use Rattle.venue_steps.specs.declared.actors.Actor.{Actor}
use Rattle.venue_steps.specs.declared.arrivals.Placement.TheVariants as place
use Rattle.session_worker.specs.Comings.{MayCome}
use Rattle.session_worker.proofs.actors.Shift.to_hit.Goals as goal

-- what comes is its own actor's
pub hit-requires-clause-placed : goal.hit-requires-clause-placed
hit-requires-clause-placed g c loans within =
    subst (λ (by : Actor). MayCome g.J.Naming.config by
    (place.Hit c.args.at c.args.response c.args.word c.args.moment))
    (sym c.acting-acting.ensures.by) c.requires
