-- What was due to a dealer on a day.
use Rattle.std.specs.Prelude.{◌≡◌, ℕ, List, Some, true}
use Rattle.std.specs.List.{list_all}
use Rattle.venue_rows.specs.Rows.{Configuration, dealer_numbered}
use Rattle.venue_rows.specs.declared.dealer_rows.DealerRow.{DealerRow}
use Rattle.step_replay.specs.AuditTrail.{audit_trail, due_to}
use Rattle.step_replay.specs.declared.dues.Due.{Due}
use Rattle.step_replay.specs.declared.steps.Step.{Step}
use Rattle.laws_dues.specs.SaidSteps.{has_bytes}

-- each message of these steps has a byte, and this was due after them to the dealer with this
-- number and row
pub record WasDue (config : Configuration) (dealer : ℕ) (row : DealerRow) (steps : List Step)
    (dues : List Due) : Type 0 where
  pub said : list_all has_bytes steps ≡ true
  pub row_is : dealer_numbered config dealer ≡ Some row
  pub dues_are : dues ≡ due_to dealer (audit_trail config steps)
