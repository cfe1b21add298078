-- Due text: what its bytes spell, or its first fault.
use Rattle.std.specs.Prelude.{ℕ, List, [], ◌∷◌, Option, Some, None, Result, Ok, Err}
use Rattle.std.specs.Prelude.{if◌then◌else◌}
use Rattle.venue_rows.specs.Rows.{DealerValues}
use Rattle.step_replay.specs.declared.dues.Due.{Due}
use Rattle.input_lines.specs.DueLines.{date_of, row_of, due_of}
use Rattle.input_lines.specs.Lines.{spoken_lines, one_past, has_divider}
use Rattle.input_lines.specs.ResultSteps.{◌>>=◌}
use Rattle.input_lines.specs.declared.faults.ProgramFault.{ProgramFault}
use Rattle.input_lines.specs.declared.faults.ProgramFault.TheVariants.{Parts, Form}

-- what a line spells, or that the line with this number is not of its form
abbrev pub at_line : {A : Type 0} → ℕ → Option A → Result A ProgramFault
at_line number None = Err (Form number)
at_line number (Some spelled) = Ok spelled

-- numbered lines
abbrev pub Lines : Type 0
Lines = List (ℕ × List ℕ)

-- the next line and those behind it; a line that is missing is named by the number past the last
abbrev pub next_line : ℕ → Lines → Result ((ℕ × List ℕ) × Lines) ProgramFault
next_line past [] = Err (Form past)
next_line past (line ∷ lines) = Ok (line, lines)

-- what lines make due, or the first that is not of its form; number is that of the next `say` line
abbrev pub dues_from : List ℕ → List ℕ → ℕ → Lines → Result (List Due) ProgramFault
dues_from date firm number [] = Ok []
dues_from date firm number (line ∷ lines) = do
  read ← at_line line.0 (due_of date firm number line.1)
  dues ← dues_from date firm read.1 lines
  Ok (read.0 ∷ dues)

-- what due text spells
pub record Spelled : Type 0 where
  pub date : List ℕ
  pub row : DealerValues
  pub dues : List Due

-- the lines of a text that no line divides
abbrev pub undivided_lines : List ℕ → Result Lines ProgramFault
undivided_lines input = if has_divider input then Err Parts else Ok (spoken_lines input)

-- What due text spells, the date's line, the dealer's and then the others, or its first fault: a
-- line that divides it, or else the first line that is not of its form.
abbrev pub due_text_of : List ℕ → Result Spelled ProgramFault
due_text_of input = do
  lines ← undivided_lines input
  first ← next_line (one_past input) lines
  date ← at_line first.0.0 (date_of first.0.1)
  second ← next_line (one_past input) first.1
  row ← at_line second.0.0 (row_of second.0.1)
  dues ← dues_from date row.name 1 second.1
  Ok (record { date = date; row = row; dues = dues })
