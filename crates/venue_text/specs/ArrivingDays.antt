-- A day of the venue on threads as lines: the messages that come from each firm, and the sweeps of
-- the clock. They are lines of steps, without turns: who does its duties when is left to the
-- threads.
use Rattle.std.specs.Prelude.{ℕ, Bool, ◌==◌, zero, suc, List, [], ◌∷◌, ◌++◌, length, codes}
use Rattle.std.specs.Prelude.{Option, Some, None, Result, Ok, Err, if◌then◌else◌}
use Rattle.std.specs.List.{filter_map}
use Rattle.venue_rows.specs.Rows.{ConfigValues}
use Rattle.venue_rows.specs.Texts.{same_text}
use Rattle.recorded_days.specs.declared.actions.Inbound.{Inbound}
use Rattle.recorded_days.specs.declared.actions.Sweep.{Sweep}
use Rattle.step_replay.specs.declared.steps.Step.{Step}
use Rattle.step_replay.specs.declared.steps.Step.TheVariants as step
use Rattle.venue_text.specs.AskedDays.{sized}
use Rattle.input_lines.specs.DueText.{Lines}
use Rattle.input_lines.specs.Lines.{first_part}
use Rattle.input_lines.specs.ResultSteps.{◌>>=◌}
use Rattle.input_lines.specs.StepLines.{Heard, Read, names_of_firms, nothing_heard, steps_of_line}
use Rattle.input_lines.specs.VenueParts.{DayParts, day_parts_of, venue_of}
use Rattle.input_lines.specs.declared.faults.ProgramFault.{ProgramFault}
use Rattle.input_lines.specs.declared.faults.ProgramFault.TheVariants.{Form}

-- whether a line gives turns
abbrev pub is_of_turns : List ℕ → Bool
is_of_turns line = same_text (first_part line) (codes "turn")

-- what a line spells: that of a line of steps, but that a line of turns is not of its form
abbrev pub arrival_of_line : ConfigValues → Heard → ℕ → List ℕ → Read
arrival_of_line config heard k line =
    if is_of_turns line then Err (Form k)
    else steps_of_line config heard k line

-- what lines spell behind what was heard, or the first fault
abbrev pub arrivals_from : ConfigValues → Heard → Lines → Result (List Step) ProgramFault
arrivals_from config heard [] = Ok []
arrivals_from config heard (line ∷ lines) = do
  read ← arrival_of_line config heard line.0 line.1
  steps ← arrivals_from config read.1 lines
  Ok (read.0 ++ steps)

-- what comes to a venue by the lines of a day on threads, or the first fault
abbrev pub arrivals_of : ConfigValues → Lines → Result (List Step) ProgramFault
arrivals_of config lines =
    arrivals_from config (nothing_heard (length (names_of_firms config))) lines

-- the message of a firm that a step brings
abbrev pub message_of : ℕ → Step → Option Inbound
message_of firm (step.In by moment message) =
    if by == firm then Some (record { moment = moment; bytes = message }) else None
message_of firm other = None

-- the messages of a firm, in the order of the lines
abbrev pub inbox_of : List Step → ℕ → List Inbound
inbox_of steps firm = filter_map (message_of firm) steps

-- the inboxes of so many firms, in the order of their numbers
abbrev pub inboxes_of : List Step → ℕ → List (List Inbound)
inboxes_of steps zero = []
inboxes_of steps (suc firms) = inboxes_of steps firms ++ inbox_of steps firms ∷ []

-- the sweep that a step is
abbrev pub sweep_of : Step → Option Sweep
sweep_of (step.Expire room moment) = Some (record { room = room; moment = moment })
sweep_of other = None

-- the sweeps of the clock, in the order of the lines
abbrev pub sweeps_of : List Step → List Sweep
sweeps_of steps = filter_map sweep_of steps

-- A venue, the inbox of each firm, and the sweeps of the clock.
pub record ArrivingDay : Type 0 where
  pub config : ConfigValues
  pub inboxes : List (List Inbound)
  pub sweeps : List Sweep

-- what these steps bring to a venue
abbrev pub arriving : ConfigValues → List Step → ArrivingDay
arriving config steps = record {
  config = config;
  inboxes = inboxes_of steps (length (names_of_firms config));
  sweeps = sweeps_of steps;
}

-- what the parts of a day on threads spell, or the first fault
abbrev pub arriving_in : DayParts → Result ArrivingDay ProgramFault
arriving_in parts = do
  config ← venue_of parts.config
  steps ← arrivals_of config parts.steps
  Ok (arriving config steps)

-- what an input that is a day on threads spells, or its first fault
abbrev pub arriving_day : List ℕ → Result ArrivingDay ProgramFault
arriving_day input = do
  read ← sized input
  parts ← day_parts_of read
  arriving_in parts
