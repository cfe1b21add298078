-- What `compare --investor` prints: how two days differ for an investor.
use Rattle.std.specs.Prelude.{◌≡◌, ◌↔◌, ℕ, Bool, IsTrue, List, Option, Some, Ok}
use Rattle.venue_rows.specs.Rows.{Configuration, investor_numbered, values_of}
use Rattle.venue_rows.specs.declared.investor_rows.InvestorRow.{InvestorRow}
use Rattle.step_replay.specs.declared.steps.Step.{Step}
use Rattle.investor_dues.specs.DueDays.{IsDayOf}
use Rattle.investor_dues.specs.declared.days.DueDay.{DueDay}
use Rattle.investor_views.specs.InvestorDues.{due_to_investor}
use Rattle.investor_views.specs.InvestorView.{SeenMarket, seen_by}
use Rattle.investor_views.specs.declared.dues.InvestorDue.{InvestorDue}
use Rattle.venue_text.specs.AskedDays.{two_days}
use Rattle.venue_text.specs.CompareText.{IsFirstDifference, compare_text, sent_in}
use Rattle.investor_texts.specs.DueCommand.{investor_by}

-- a venue, an investor of it, by its number and its row, and the steps of a day
pub record Run : Type 0 where
  pub config : Configuration
  pub investor : ℕ
  pub row : InvestorRow
  pub steps : List Step
  pub is_investor : investor_numbered config investor ≡ Some row

-- a run of these
pub record IsRunOf (config : Configuration) (investor : ℕ) (steps : List Step) (run : Run) : Type 0
  where
    pub config_is : run.config ≡ config
    pub investor_is : run.investor ≡ investor
    pub steps_are : run.steps ≡ steps

-- a run that has this day
pub record IsRunDay (investor : ℕ) (day : DueDay) (run : Run) : Type 0 where
  pub investor_is : run.investor ≡ investor
  pub day_is : IsDayOf run.config run.investor run.steps day

-- what the investor of a run sees
abbrev pub seen_in : Run → SeenMarket
seen_in run = seen_by run.config run.row

-- what was due to it
abbrev pub due_in : Run → List InvestorDue
due_in run = due_to_investor run.config run.investor run.steps

-- what it was sent
abbrev pub sent_of : Run → List (List ℕ)
sent_of run = sent_in run.config run.steps run.investor

-- whether two investors, by their numbers, see the same
abbrev pub IsSameSeen : Configuration → ℕ → Configuration → ℕ → Bool → Type 0
IsSameSeen one investor other other_investor is_same = (row there : InvestorRow)
    → investor_numbered one investor ≡ Some row
    → investor_numbered other other_investor ≡ Some there
    → IsTrue is_same ↔ (seen_by one row ≡ seen_by other there)

-- The three lines of two runs: whether the investor sees the same market; where what was due to it
-- differs first; and where the messages do.
pub record AreCompared (one other : Run) (text : List ℕ) : Type 0 where
  pub is_same_seen : Bool
  pub due : Option ℕ
  pub messages : Option ℕ
  pub seen_is : IsTrue is_same_seen ↔ (seen_in one ≡ seen_in other)
  pub due_is : IsFirstDifference (due_in one) (due_in other) due
  pub messages_is : IsFirstDifference (sent_of one) (sent_of other) messages
  pub printed : text ≡ compare_text is_same_seen due messages

-- What `compare --investor` prints for an input.
pub record IsCompared (name input text : List ℕ) : Type 0 where
  pub one : Run
  pub other : Run
  pub spelled : two_days (investor_by name) input
      ≡ Ok (
        (one.investor, record { config = values_of one.config; steps = one.steps }),
        (other.investor, record { config = values_of other.config; steps = other.steps }),
      )
  pub compared : AreCompared one other text
