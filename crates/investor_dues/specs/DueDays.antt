-- Of which day what was due to an investor is. `IsDayOf` is a word of public clauses.
use Rattle.std.specs.Prelude.{◌≡◌, ℕ, List}
use Rattle.venue_rows.specs.Rows.{Configuration}
use Rattle.step_replay.specs.AuditTrail.{audit_trail}
use Rattle.step_replay.specs.FirmDays.{firm_days}
use Rattle.step_replay.specs.declared.steps.Step.{Step}
use Rattle.investor_dues.specs.declared.days.DueDay.{DueDay}
use Rattle.investor_views.specs.InvestorDues.{due_to_investor}

-- the day of these steps, for the investor with this number
pub record IsDayOf (config : Configuration) (number : ℕ) (steps : List Step) (day : DueDay)
    : Type 0 where
  pub dues_are : day.dues.items ≡ due_to_investor config number steps
  pub world_is : day.world ≡ firm_days config (audit_trail config steps).facts
