use Rattle.std.proofs.Common.{sym, subst}
use Rattle.venue_steps.specs.declared.actors.Actor.{Actor}
use Rattle.venue_steps.specs.declared.arrivals.Placement.TheVariants as place
use Rattle.session_worker.specs.Comings.{MayCome}
use Rattle.session_worker.proofs.actors.Shift.to_investor.Goals as goal

-- what comes is its own actor's
pub bring-requires-clause-placed : goal.bring-requires-clause-placed
bring-requires-clause-placed g c =
    subst (λ (by : Actor). MayCome g.J.Naming.config by (place.Investor c.args.firm c.args.what))
    (sym c.action.ensures) c.requires
