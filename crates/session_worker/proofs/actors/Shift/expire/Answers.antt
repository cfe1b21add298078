use Rattle.std.proofs.Common.{sym, subst, ◌≡◌, Option, Some}
use Rattle.session_worker.specs.Comings.{ForSweep}
use Rattle.venue_steps.specs.Placed.{swept}
use Rattle.venue_steps.specs.declared.arrivals.Placement.{Placement}
use Rattle.venue_rows.specs.Rows.{Configuration}
use Rattle.session_worker.proofs.actors.Shift.expire.Goals as goal

-- it is the sweep of this room
pub bring-requires-after_bounds : goal.bring-requires-after_bounds
bring-requires-after_bounds g c κs within =
    ForSweep c.args.room c.args.moment (subst (λ (config : Configuration).
    swept config c.args.room c.args.moment ≡ Some c.in-Some.arrival)
    c.args.self.now.venue.now.config_is
    (subst (λ (it : Option Placement).
    swept c.args.self.now.venue.now.config c.args.room c.args.moment ≡ it) c.in-Some.is
    (sym c.swept.ensures)))
