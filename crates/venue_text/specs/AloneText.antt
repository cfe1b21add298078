-- What `alone` prints.
use Rattle.std.specs.Prelude.{◌≡◌, ◌≤◌, ℕ, Bool, List, length, nat_lt, Option, Some, None}
use Rattle.std.specs.Prelude.{Result, Ok, Err, if◌then◌else◌}
use Rattle.venue_rows.specs.Rows.{dealer_values}
use Rattle.venue_rows.specs.declared.dealer_rows.DealerRow.{DealerRow}
use Rattle.step_replay.specs.DealerView.{dealer_view}
use Rattle.step_replay.specs.NoteViews.{dealer_note_view}
use Rattle.step_replay.specs.declared.dues.Due.{Due}
use Rattle.input_lines.specs.DueText.{Spelled, due_text_of}
use Rattle.venue_text.specs.MessageLines.{messages_text}
use Rattle.venue_text.specs.NotedText.{dealer_noted_text}
use Rattle.input_lines.specs.declared.lines.TheConstants.{MOST_INPUT}
use Rattle.input_lines.specs.declared.faults.ProgramFault.{ProgramFault}
use Rattle.input_lines.specs.declared.faults.ProgramFault.TheVariants.{Input}

-- the fault of what was read, if it has one
abbrev pub fault_of_reading : Result Spelled ProgramFault → Option ProgramFault
fault_of_reading (Ok spelled) = None
fault_of_reading (Err fault) = Some fault

-- the first fault of an input, if it has one
abbrev pub first_fault : List ℕ → Option ProgramFault
first_fault input =
    if nat_lt MOST_INPUT (length input) then Some Input else fault_of_reading (due_text_of input)

-- What `alone` prints for an input: the dealer view of what the input spells, a line for each
-- message. An input has one such text at most, since what it spells is a function of its bytes.
pub record IsPrinted (with_frames : Bool) (input text : List ℕ) : Type 0 where
  pub date : List ℕ
  pub row : DealerRow
  pub dues : List Due
  pub fits : length input ≤ MOST_INPUT
  pub spelled : due_text_of input
      ≡ Ok (record { date = date; row = dealer_values row; dues = dues })
  pub printed : text ≡ messages_text with_frames row.name (dealer_view date row dues)

-- What `alone --notes` prints for an input: the same, and behind each message the line of what the
-- desk notes beside it.
pub record IsNoted (with_frames : Bool) (input text : List ℕ) : Type 0 where
  pub date : List ℕ
  pub row : DealerRow
  pub dues : List Due
  pub fits : length input ≤ MOST_INPUT
  pub spelled : due_text_of input
      ≡ Ok (record { date = date; row = dealer_values row; dues = dues })
  pub printed : text ≡ dealer_noted_text with_frames date row.name
      (dealer_note_view date row dues) (dealer_view date row dues)
