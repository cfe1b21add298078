-- What `compare` prints.
use Rattle.std.specs.Prelude.{◌≡◌, ◌≢◌, ◌↔◌, ◌≤◌, ℕ, ◌-◌, Bool, IsTrue, List, [], ◌∷◌, ◌++◌, take}
use Rattle.std.specs.Prelude.{slice_get, codes, decimal, Option, Some, None, Ok, if◌then◌else◌}
use Rattle.venue_rows.specs.Rows.{Configuration, dealer_numbered, values_of}
use Rattle.step_replay.specs.AuditTrail.{audit_trail, due_to}
use Rattle.step_replay.specs.FirmDays.{FirmDay, firm_days}
use Rattle.step_replay.specs.declared.dues.Due.{Due}
use Rattle.step_replay.specs.declared.steps.Step.{Step}
use Rattle.venue_text.specs.AskedDays.{two_days, dealer_by}

-- Two lists are the same before a position, counted from 1, and not at it: one has something else
-- there, or has ended.
pub record DifferAt {A : Type 0} (one other : List A) (position : ℕ) : Type 0 where
  pub counted : 1 ≤ position
  pub before : take (position - 1) one ≡ take (position - 1) other
  pub there : slice_get one (position - 1) ≢ slice_get other (position - 1)

-- the first position at which two lists differ, or nothing where they are equal
abbrev pub IsFirstDifference : {A : Type 0} → List A → List A → Option ℕ → Type 0
IsFirstDifference one other None = one ≡ other
IsFirstDifference one other (Some position) = DifferAt one other position

-- whether the date and the dealer's row are the same
abbrev pub row_line : Bool → List ℕ
row_line is_same = if is_same then codes "row equal" ++ 10 ∷ [] else codes "row differs" ++ 10 ∷ []

-- a line: two lists are equal, or differ first at a position
abbrev pub difference_line : List ℕ → List ℕ → Option ℕ → List ℕ
difference_line equal differ None = equal ++ 10 ∷ []
difference_line equal differ (Some position) = differ ++ decimal position ++ 10 ∷ []

-- what was due
abbrev pub due_line : Option ℕ → List ℕ
due_line position = difference_line (codes "due equal") (codes "due differs at ") position

-- the messages
abbrev pub messages_line : Option ℕ → List ℕ
messages_line position =
    difference_line (codes "messages equal") (codes "messages differ at ") position

-- the three lines
abbrev pub compare_text : Bool → Option ℕ → Option ℕ → List ℕ
compare_text is_same_row due messages = row_line is_same_row ++ due_line due ++ messages_line messages

-- the messages of a firm's day, where there is one
abbrev pub sent_on : Option FirmDay → List (List ℕ)
sent_on None = []
sent_on (Some day) = day.sent

-- what a venue sent the firm with this number on the day of these steps
abbrev pub sent_in : Configuration → List Step → ℕ → List (List ℕ)
sent_in config steps firm =
    sent_on (slice_get (firm_days config (audit_trail config steps).facts) firm)

-- what was due there to the dealer with this number
abbrev pub due_in : Configuration → List Step → ℕ → List Due
due_in config steps dealer = due_to dealer (audit_trail config steps)

-- a venue, the number of the dealer in it, and the steps of a day
pub record Run : Type 0 where
  pub config : Configuration
  pub dealer : ℕ
  pub steps : List Step

-- the date and the row of the dealer are the same in two runs
abbrev pub HaveSameRow : Run → Run → Type 0
HaveSameRow one other =
    (one.config.date ≡ other.config.date)
    × (dealer_numbered one.config one.dealer ≡ dealer_numbered other.config other.dealer)

-- What `compare` prints for an input: the row, what was due and the messages of the dealer in the
-- two runs that the input spells.
pub record IsCompared (name input text : List ℕ) : Type 0 where
  pub one : Run
  pub other : Run
  pub spelled : two_days (dealer_by name) input
      ≡ Ok (
        (one.dealer, record { config = values_of one.config; steps = one.steps }),
        (other.dealer, record { config = values_of other.config; steps = other.steps }),
      )
  pub is_same_row : Bool
  pub due : Option ℕ
  pub messages : Option ℕ
  pub row_is : IsTrue is_same_row ↔ HaveSameRow one other
  pub due_is : IsFirstDifference (due_in one.config one.steps one.dealer)
      (due_in other.config other.steps other.dealer) due
  pub messages_is : IsFirstDifference (sent_in one.config one.steps one.dealer)
      (sent_in other.config other.steps other.dealer) messages
  pub printed : text ≡ compare_text is_same_row due messages
