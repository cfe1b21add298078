-- What `alone` prints: the messages of the dealer or of the investor whose due text is read.
use Rattle.std.specs.Prelude.{◌≡◌, ◌≤◌, ℕ, Bool, true, false, List, length, nat_lt, Option, Some}
use Rattle.std.specs.Prelude.{None, Result, Ok, Err, if◌then◌else◌}
use Rattle.venue_rows.specs.Rows.{investor_values}
use Rattle.input_lines.specs.declared.faults.ProgramFault.{ProgramFault}
use Rattle.input_lines.specs.declared.faults.ProgramFault.TheVariants.{Input}
use Rattle.input_lines.specs.declared.lines.TheConstants.{MOST_INPUT}
use Rattle.investor_views.specs.NoteView.{note_view}
use Rattle.investor_views.specs.InvestorView.{SeenMarket, investor_view}
use Rattle.investor_views.specs.declared.dues.InvestorDue.{InvestorDue}
use Rattle.venue_text.specs.AloneText as dealers
use Rattle.venue_text.specs.MessageLines.{messages_text}
use Rattle.venue_text.specs.NotedText.{investor_noted_text}
use Rattle.investor_texts.specs.InvestorText.{Spelled, investor_text_of, is_investors}

-- What an investor's due text spells, as what it sees and what is due to it.
abbrev pub spelled_by : SeenMarket → List InvestorDue → Spelled
spelled_by seen dues = record {
  date = seen.date;
  row = investor_values seen.row;
  bonds = seen.bonds;
  dealers = seen.dealers;
  dues = dues;
}

-- What is printed for an investor's due text: the investor view of what the input spells, a line for
-- each message. An input has one such text at most, since what it spells is a function of its bytes.
pub record IsInvestorsPrinted (with_frames : Bool) (input text : List ℕ) : Type 0 where
  pub seen : SeenMarket
  pub dues : List InvestorDue
  pub spelled : investor_text_of input ≡ Ok (spelled_by seen dues)
  pub printed : text ≡ messages_text with_frames seen.row.name (investor_view seen dues)

-- What `alone` prints for an input, by whose due text it is.
abbrev pub IsPrintedBy : Bool → Bool → List ℕ → List ℕ → Type 0
IsPrintedBy true with_frames input text = IsInvestorsPrinted with_frames input text
IsPrintedBy false with_frames input text = dealers.IsPrinted with_frames input text

pub record IsPrinted (with_frames : Bool) (input text : List ℕ) : Type 0 where
  pub fits : length input ≤ MOST_INPUT
  pub printed : IsPrintedBy (is_investors input) with_frames input text

-- The same of `alone --notes`: behind each message stands the line of what the desk notes beside it.
pub record IsInvestorsNoted (with_frames : Bool) (input text : List ℕ) : Type 0 where
  pub seen : SeenMarket
  pub dues : List InvestorDue
  pub spelled : investor_text_of input ≡ Ok (spelled_by seen dues)
  pub printed : text ≡ investor_noted_text with_frames seen.date seen.row.name
      (note_view seen dues) (investor_view seen dues)

abbrev pub IsNotedBy : Bool → Bool → List ℕ → List ℕ → Type 0
IsNotedBy true with_frames input text = IsInvestorsNoted with_frames input text
IsNotedBy false with_frames input text = dealers.IsNoted with_frames input text

pub record IsNoted (with_frames : Bool) (input text : List ℕ) : Type 0 where
  pub fits : length input ≤ MOST_INPUT
  pub printed : IsNotedBy (is_investors input) with_frames input text

-- the fault of what was read, if it has one
abbrev pub fault_of_reading : Result Spelled ProgramFault → Option ProgramFault
fault_of_reading (Ok spelled) = None
fault_of_reading (Err fault) = Some fault

-- the first fault of an input that is not too long, if it has one
abbrev pub fault_by : Bool → List ℕ → Option ProgramFault
fault_by true input = fault_of_reading (investor_text_of input)
fault_by false input = dealers.first_fault input

-- the first fault of an input, if it has one
abbrev pub first_fault : List ℕ → Option ProgramFault
first_fault input =
    if nat_lt MOST_INPUT (length input) then Some Input else fault_by (is_investors input) input
