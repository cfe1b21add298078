-- What `blotter` prints.
use Rattle.std.specs.Prelude.{◌≡◌, ℕ, List, [], slice_get, Option, Some, None, Ok}
use Rattle.blotter.specs.BlotterText.{blotter_text}
use Rattle.venue_rows.specs.Rows.{Configuration, values_of}
use Rattle.step_replay.specs.AuditTrail.{audit_trail}
use Rattle.step_replay.specs.FirmDays.{FirmDay, firm_days}
use Rattle.step_replay.specs.declared.steps.Step.{Step}
use Rattle.venue_text.specs.AskedDays.{one_day, firm_by}

-- the blotter of a firm's day, where there is one
abbrev pub blotter_of : Option FirmDay → List ℕ
blotter_of None = []
blotter_of (Some day) = blotter_text day.lines

-- What `blotter` prints for an input: the firm's blotter, by the audit trail of the day that the
-- input spells.
pub record IsBlotter (name input text : List ℕ) : Type 0 where
  pub config : Configuration
  pub firm : ℕ
  pub steps : List Step
  pub spelled : one_day (firm_by name) input
      ≡ Ok (firm, record { config = values_of config; steps = steps })
  pub printed : text
      ≡ blotter_of (slice_get (firm_days config (audit_trail config steps).facts) firm)
