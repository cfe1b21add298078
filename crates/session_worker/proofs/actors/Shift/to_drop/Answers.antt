use Rattle.std.proofs.Common.{sym, subst}
use Rattle.venue_steps.specs.declared.actors.Actor.{Actor}
use Rattle.venue_steps.specs.declared.arrivals.Placement.TheVariants as place
use Rattle.session_worker.specs.Comings.{MayCome}
use Rattle.session_worker.proofs.actors.Shift.to_drop.Goals as goal

-- what comes is its own actor's
pub drop_next-requires-clause-placed : goal.drop_next-requires-clause-placed
drop_next-requires-clause-placed g c loans within =
    subst (λ (by : Actor). MayCome g.J.Naming.config by
    (place.Drop c.args.firm c.args.last c.args.moment))
    (sym c.acting-acting.ensures.by) c.requires
