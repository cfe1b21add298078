-- What is printed of the days of an investor.
use Rattle.std.proofs.Common.{◌≡◌, ℕ, Bool, List, Some, Ok, refl, sym, ap, subst, ◌∙◌}
use Rattle.std.specs.Prelude.{IsTrue, ◌↔◌}
use Rattle.venue_rows.specs.Rows.{Configuration, investor_numbered}
use Rattle.step_replay.specs.LiveDays.{live_steps}
use Rattle.step_replay.specs.declared.steps.Step.{Step}
use Rattle.step_replay.specs.LiveStanding.{IsAt}
use Rattle.investor_dues.specs.DueDays.{IsDayOf}
use Rattle.investor_dues.specs.declared.days.DueDay.{DueDay}
use Rattle.investor_views.specs.InvestorDues.{due_to_investor}
use Rattle.investor_views.specs.InvestorView.{seen_by}
use Rattle.investor_views.specs.declared.dues.InvestorDue.{InvestorDue}
use Rattle.venue_text.specs.LiveLines.{Taken}
use Rattle.investor_texts.specs.CompareCommand.{AreCompared, IsRunDay, IsRunOf, IsSameSeen}
use Rattle.investor_texts.specs.CompareCommand.{Run, seen_in}
use Rattle.investor_texts.specs.DueCommand.{IsTextOf, IsTextOfList}
use Rattle.investor_texts.specs.LineDays.{AreDaysCompared, IsDayText, KeepsDay}
use Rattle.investor_texts.specs.WrittenText.{investor_text}
use Rattle.investor_texts.specs.declared.line_days.InvestorDay.{InvestorDay}

-- the text of a list that is what was due
pub text_of_day : (config : Configuration) (number : ℕ) (steps : List Step)
    (dues : List InvestorDue) (text : List ℕ) → IsTextOfList config number dues text
    → dues ≡ due_to_investor config number steps → IsTextOf config number steps text
text_of_day config number steps dues text is due = record {
  row = is.row;
  is_investor = is.is_investor;
  printed = is.printed ∙ ap (investor_text (seen_by config is.row)) due;
}

-- the same of a day that comes line by line
pub text_of_kept : (name : List ℕ) (config : Configuration) (taken : Taken) (day : InvestorDay)
    (dues : List InvestorDue) (text : List ℕ) → KeepsDay name config taken day
    → IsTextOfList day.config day.investor dues text
    → ((steps : List Step) → IsAt day.config steps day.venue
    → dues ≡ due_to_investor day.config day.investor (live_steps steps))
    → IsDayText name config taken.steps text
text_of_kept name config taken day dues text keeps is due = record {
  investor = day.investor;
  named = keeps.named;
  text_is = text_of_day config day.investor (live_steps taken.steps) dues text
      (subst (λ (c : Configuration). IsTextOfList c day.investor dues text) keeps.config_is is)
      (due taken.steps (subst (λ (c : Configuration). IsAt c taken.steps day.venue)
      (sym keeps.config_is) keeps.venue_is)
      ∙ ap (λ (c : Configuration). due_to_investor c day.investor (live_steps taken.steps))
      keeps.config_is);
}

-- Two days.

-- the investor of a run
run_row : (config : Configuration) (number : ℕ) (steps : List Step) (run : Run)
    → IsRunOf config number steps run → investor_numbered config number ≡ Some run.row
run_row config number steps run is =
    ap (λ (n : ℕ). investor_numbered config n) (sym is.investor_is)
    ∙ ap (λ (c : Configuration). investor_numbered c run.investor) (sym is.config_is)
    ∙ run.is_investor

-- a run that has this day
pub run_day : (config : Configuration) (number : ℕ) (given steps : List Step) (day : DueDay)
    (run : Run) → IsRunOf config number steps run → given ≡ steps → IsDayOf config number given day
    → IsRunDay number day run
run_day config number given steps day run is same day_is = record {
  investor_is = is.investor_is;
  day_is =
      subst (λ (c : Configuration). IsDayOf c run.investor run.steps day) (sym is.config_is)
      (subst (λ (n : ℕ). IsDayOf config n run.steps day) (sym is.investor_is)
      (subst (λ (l : List Step). IsDayOf config number l day) (same ∙ sym is.steps_are) day_is));
}

-- whether the investor of two runs sees the same
pub runs_seen : (config other_config : Configuration) (number other_number : ℕ)
    (steps other_steps : List Step) (is_same : Bool) (first second : Run)
    → IsRunOf config number steps first → IsRunOf other_config other_number other_steps second
    → IsSameSeen config number other_config other_number is_same
    → IsTrue is_same ↔ (seen_in first ≡ seen_in second)
runs_seen config other_config number other_number steps other_steps is_same first second one two
    seen =
    let same = seen first.row second.row (run_row config number steps first one)
    (run_row other_config other_number other_steps second two) in
    subst (λ (c : Configuration).
    IsTrue is_same ↔ (seen_by c first.row ≡ seen_in second))
    (sym one.config_is)
    (subst (λ (c : Configuration).
    IsTrue is_same ↔ (seen_by config first.row ≡ seen_by c second.row))
    (sym two.config_is) same)

-- the run of a day that comes line by line
run_kept : (name : List ℕ) (config : Configuration) (taken : Taken) (day : InvestorDay)
    (ended : DueDay) → KeepsDay name config taken day
    → ((steps : List Step) → IsAt day.config steps day.venue
    → IsDayOf day.config day.investor (live_steps steps) ended)
    → (run : Run) × ((run.investor ≡ day.investor)
    × (IsRunOf config day.investor (live_steps taken.steps) run × IsRunDay day.investor ended run))
run_kept name config taken day ended keeps ends =
    let run : Run = record {
      config = config;
      investor = day.investor;
      row = keeps.row;
      steps = live_steps taken.steps;
      is_investor = keeps.is_investor;
    } in (
      run,
      (
        refl,
        (
          record { config_is = refl; investor_is = refl; steps_are = refl },
          record {
            investor_is = refl;
            day_is = subst (λ (c : Configuration).
                IsDayOf c day.investor (live_steps taken.steps) ended) keeps.config_is
                (ends taken.steps (subst (λ (c : Configuration). IsAt c taken.steps day.venue)
                (sym keeps.config_is) keeps.venue_is));
          },
        ),
      ),
    )

pub days_compared : (name : List ℕ) (config other_config : Configuration)
    (taken other_taken : Taken) (one other : InvestorDay) (ended other_ended : DueDay)
    (is_same : Bool) (text : List ℕ)
    → KeepsDay name config taken one → KeepsDay name other_config other_taken other
    → ((steps : List Step) → IsAt one.config steps one.venue
    → IsDayOf one.config one.investor (live_steps steps) ended)
    → ((steps : List Step) → IsAt other.config steps other.venue
    → IsDayOf other.config other.investor (live_steps steps) other_ended)
    → IsSameSeen one.config one.investor other.config other.investor is_same
    → ((first second : Run) → IsRunDay one.investor ended first
    → IsRunDay other.investor other_ended second
    → IsTrue is_same ↔ (seen_in first ≡ seen_in second)
    → AreCompared first second text)
    → AreDaysCompared name config taken.steps other_config other_taken.steps text
days_compared name config other_config taken other_taken one other ended other_ended is_same text
    keeps other_keeps ends other_ends seen lines =
    let first = run_kept name config taken one ended keeps ends in
    let second = run_kept name other_config other_taken other other_ended other_keeps other_ends in
    let steps = live_steps taken.steps in
    let other_steps = live_steps other_taken.steps in
    let both : IsSameSeen config one.investor other_config other.investor is_same =
    subst (λ (c : Configuration). IsSameSeen config one.investor c other.investor is_same)
    other_keeps.config_is
    (subst (λ (c : Configuration). IsSameSeen c one.investor other.config other.investor is_same)
    keeps.config_is seen) in
    record {
      one = first.0;
      other = second.0;
      named = keeps.named ∙ ap (λ (n : ℕ). Ok n) (sym first.1.0);
      other_named = other_keeps.named ∙ ap (λ (n : ℕ). Ok n) (sym second.1.0);
      one_is = subst (λ (n : ℕ). IsRunOf config n steps first.0) (sym first.1.0) first.1.1.0;
      other_is = subst (λ (n : ℕ). IsRunOf other_config n other_steps second.0) (sym second.1.0)
          second.1.1.0;
      compared = lines first.0 second.0 first.1.1.1 second.1.1.1
          (runs_seen config other_config one.investor other.investor steps other_steps is_same
          first.0 second.0 first.1.1.0 second.1.1.0 both);
    }
