-- What `compare --live` prints: how two days that come line by line differ for one dealer.
use Rattle.std.specs.Prelude.{◌≡◌, ◌↔◌, ℕ, Bool, IsTrue, List, slice_get, Option, Ok}
use Rattle.venue_rows.specs.Rows.{Configuration, values_of}
use Rattle.step_replay.specs.AuditTrail.{due_to}
use Rattle.step_replay.specs.FirmDays.{firm_days}
use Rattle.step_replay.specs.LiveDays.{live_trail}
use Rattle.step_replay.specs.declared.dues.Due.{Due}
use Rattle.step_replay.specs.declared.steps.Step.{Step}
use Rattle.venue_text.specs.AskedDays.{dealer_by}
use Rattle.venue_text.specs.CompareText.{HaveSameRow, IsFirstDifference, Run, compare_text, sent_on}

-- what was due to the dealer of a run, and what it was sent, where each step is followed by the
-- turns of its actor that leave none
abbrev pub live_due : Run → List Due
live_due run = due_to run.dealer (live_trail run.config run.steps)

abbrev pub live_sent : Run → List (List ℕ)
live_sent run =
    sent_on (slice_get (firm_days run.config (live_trail run.config run.steps).facts) run.dealer)

-- the three lines of two runs, as `compare` has them
pub record AreCompared (one other : Run) (text : List ℕ) : Type 0 where
  pub is_same_row : Bool
  pub due : Option ℕ
  pub messages : Option ℕ
  pub row_is : IsTrue is_same_row ↔ HaveSameRow one other
  pub due_is : IsFirstDifference (live_due one) (live_due other) due
  pub messages_is : IsFirstDifference (live_sent one) (live_sent other) messages
  pub printed : text ≡ compare_text is_same_row due messages

-- a run of a dealer's number
abbrev pub run_of : Configuration → ℕ → List Step → Run
run_of config dealer steps = record { config = config; dealer = dealer; steps = steps }

-- what is printed of two days, for the dealer that has this name in each
pub record IsKeptComparison (name : List ℕ) (one : Configuration) (steps : List Step)
    (other : Configuration) (other_steps : List Step) (text : List ℕ) : Type 0 where
  pub dealer : ℕ
  pub other_dealer : ℕ
  pub named : dealer_by name (values_of one) ≡ Ok dealer
  pub other_named : dealer_by name (values_of other) ≡ Ok other_dealer
  pub compared : AreCompared (run_of one dealer steps) (run_of other other_dealer other_steps) text
