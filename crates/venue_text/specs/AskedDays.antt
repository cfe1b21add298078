-- What a command on a venue's day reads: the venue, what its argument names there, and the steps.
use Rattle.std.specs.Prelude.{ℕ, List, length, nat_lt, Option, Some, None, Result, Ok, Err}
use Rattle.std.specs.Prelude.{if◌then◌else◌}
use Rattle.venue_rows.specs.Rows.{ConfigValues}
use Rattle.step_replay.specs.declared.steps.Step.{Step}
use Rattle.input_lines.specs.ResultSteps.{◌>>=◌}
use Rattle.input_lines.specs.StepLines.{asked, dealer_named, firm_named, steps_of}
use Rattle.input_lines.specs.VenueParts.{DayParts, day_parts_of, two_days_parts_of, venue_of}
use Rattle.input_lines.specs.declared.faults.ProgramFault.{ProgramFault}
use Rattle.input_lines.specs.declared.faults.ProgramFault.TheVariants.{Input}
use Rattle.input_lines.specs.declared.lines.TheConstants.{MOST_INPUT}

-- a venue, and the steps of its day
pub record SpelledDay : Type 0 where
  pub config : ConfigValues
  pub steps : List Step

-- What an argument names in a venue.

-- FIRM: a firm, by its number
abbrev pub firm_by : List ℕ → ConfigValues → Result ℕ ProgramFault
firm_by name config = asked (firm_named config name)

-- DEALER: a dealer, by its number
abbrev pub dealer_by : List ℕ → ConfigValues → Result ℕ ProgramFault
dealer_by name config = asked (dealer_named config name)

-- FIRM, which may be left out: one firm, or all
abbrev pub firms_by : Option (List ℕ) → ConfigValues → Result (Option ℕ) ProgramFault
firms_by None config = Ok None
firms_by (Some name) config = do
  firm ← firm_by name config
  Ok (Some firm)

-- DEALER, which may be left out: one dealer, or all
abbrev pub dealers_by : Option (List ℕ) → ConfigValues → Result (Option ℕ) ProgramFault
dealers_by None config = Ok None
dealers_by (Some name) config = do
  dealer ← dealer_by name config
  Ok (Some dealer)

-- What the parts of one day spell, and what the argument names in its venue: a fault of the
-- configuration is told first, then that of the argument, then the first of the lines of steps.
abbrev pub day_for : {A : Type 0} → (ConfigValues → Result A ProgramFault) → DayParts
    → Result (A × SpelledDay) ProgramFault
day_for names parts = do
  config ← venue_of parts.config
  named ← names config
  steps ← steps_of config parts.steps
  Ok (named, record { config = config; steps = steps })

-- an input that is not too long
abbrev pub sized : List ℕ → Result (List ℕ) ProgramFault
sized input = if nat_lt MOST_INPUT (length input) then Err Input else Ok input

-- what an input of one day spells, or its first fault
abbrev pub one_day : {A : Type 0} → (ConfigValues → Result A ProgramFault) → List ℕ
    → Result (A × SpelledDay) ProgramFault
one_day names input = do
  read ← sized input
  parts ← day_parts_of read
  day_for names parts

-- what an input of two days spells, each with what the argument names in its venue, or its first
-- fault
abbrev pub two_days : {A : Type 0} → (ConfigValues → Result A ProgramFault) → List ℕ
    → Result ((A × SpelledDay) × (A × SpelledDay)) ProgramFault
two_days names input = do
  read ← sized input
  parts ← two_days_parts_of read
  first ← day_for names parts.0
  second ← day_for names parts.1
  Ok (first, second)
