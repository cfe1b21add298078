-- Where two lists differ first.
use Rattle.std.proofs.Common.{◌≡◌, ℕ, List, sym, ap, subst, ◌∙◌, refl, Bool, Option, Some}
use Rattle.std.specs.Prelude.{slice_get, IsTrue, ◌↔◌}
use Rattle.venue_rows.specs.Rows.{Configuration, investor_numbered}
use Rattle.venue_rows.specs.declared.investor_rows.InvestorRow.{InvestorRow}
use Rattle.step_replay.specs.AuditTrail.{audit_trail}
use Rattle.step_replay.specs.FirmDays.{FirmDay, firm_days}
use Rattle.step_replay.specs.declared.steps.Step.{Step}
use Rattle.venue_text.specs.CompareText.{IsFirstDifference, sent_on}
use Rattle.investor_texts.specs.CompareCommand.{IsRunOf, Run, sent_of}

-- a run, and that it is one of these
abbrev pub run_of : (config : Configuration) (investor : ℕ) (steps : List Step)
    → (row : InvestorRow) × (investor_numbered config investor ≡ Some row) → Run
run_of config investor steps there = record {
  config = config;
  investor = investor;
  row = there.0;
  steps = steps;
  is_investor = there.1;
}

pub run_is : (config : Configuration) (investor : ℕ) (steps : List Step)
    (there : (row : InvestorRow) × (investor_numbered config investor ≡ Some row))
    → IsRunOf config investor steps (run_of config investor steps there)
run_is config investor steps there =
    record { config_is = refl; investor_is = refl; steps_are = refl }

-- where two lists differ first, by lists that are they
pub first_of : {A : Type 0} (xs ys one other : List A) (place : Option ℕ) → xs ≡ one → ys ≡ other
    → IsFirstDifference xs ys place → IsFirstDifference one other place
first_of xs ys one other place is there first =
    subst (λ l. IsFirstDifference l other place) is
    (subst (λ l. IsFirstDifference xs l place) there first)

-- the messages that the investor of a run was sent, by the world behind its day
pub sent_is : (world : List FirmDay) (number : ℕ) (run : Run) → run.investor ≡ number
    → world ≡ firm_days run.config (audit_trail run.config run.steps).facts
    → sent_on (slice_get world number) ≡ sent_of run
sent_is world number run named is =
    ap (λ (n : ℕ). sent_on (slice_get world n)) (sym named)
    ∙ ap (λ (days : List FirmDay). sent_on (slice_get days run.investor)) is
