use Rattle.std.proofs.Common.{sym, subst, ◌≡◌, Option, Some}
use Rattle.session_worker.specs.Comings.{ForDuty}
use Rattle.venue_steps.specs.Placed.{placed}
use Rattle.venue_steps.specs.declared.arrivals.Placement.{Placement}
use Rattle.venue_rows.specs.Rows.{Configuration}
use Rattle.session_worker.proofs.actors.Shift.act.Goals as goal

-- the market's table gave it for this duty
pub bring-requires-after_bounds : goal.bring-requires-after_bounds
bring-requires-after_bounds g c κs within =
    ForDuty c.args.duty (subst (λ (config : Configuration).
    placed config c.args.self.now.by c.args.duty ≡ Some c.in-Some.arrival)
    c.args.self.now.venue.now.config_is
    (subst (λ (it : Option Placement).
    placed c.args.self.now.venue.now.config c.args.self.now.by c.args.duty ≡ it) c.in-Some.is
    (sym c.placed.ensures)))
