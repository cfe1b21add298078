-- A day that comes line by line, of which the due text of an investor is printed at its end: `due`
-- and `compare` with `--live` and `--investor`. `KeepsDay` and `OpensDay` are for callers, who need
-- not know what a day is made of.
use Rattle.std.specs.Prelude.{◌≡◌, ℕ, List, ◌++◌, Option, Some, Result, Ok}
use Rattle.std.specs.Option.{option_to_list}
use Rattle.venue_rows.specs.Rows.{Configuration, investor_numbered, values_of}
use Rattle.venue_rows.specs.declared.investor_rows.InvestorRow.{InvestorRow}
use Rattle.step_replay.specs.LiveDays.{live_steps}
use Rattle.step_replay.specs.LiveStanding.{IsAt}
use Rattle.step_replay.specs.declared.steps.Step.{Step}
use Rattle.input_lines.specs.ResultSteps.{◌>>=◌}
use Rattle.input_lines.specs.VenueParts.{venue_of}
use Rattle.input_lines.specs.declared.faults.ProgramFault.{ProgramFault}
use Rattle.venue_text.specs.LiveLines.{Taken, nothing_taken, with_any_line}
use Rattle.investor_texts.specs.CompareCommand.{AreCompared, IsRunOf, Run}
use Rattle.investor_texts.specs.DueCommand.{IsTextOf, investor_by}
use Rattle.investor_texts.specs.declared.line_days.InvestorDay.{InvestorDay}

-- the investor that is named in the venue that a configuration spells, or the first fault
abbrev pub asked_venue : List ℕ → List ℕ → Result ℕ ProgramFault
asked_venue name text = do
  config ← venue_of text
  investor_by name config

-- a day stands where lines have brought it
pub record KeepsDay (name : List ℕ) (config : Configuration) (taken : Taken) (day : InvestorDay)
    : Type 0 where
  pub config_is : day.config ≡ config
  pub named : investor_by name (values_of config) ≡ Ok day.investor
  pub heard_is : day.heard ≡ taken.heard
  pub row : InvestorRow
  pub is_investor : investor_numbered config day.investor ≡ Some row
  pub venue_is : IsAt config taken.steps day.venue

-- before the first line of steps
pub record OpensDay (name text : List ℕ) (day : InvestorDay) : Type 0 where
  pub config : Configuration
  pub spelled : venue_of text ≡ Ok (values_of config)
  pub keeps : KeepsDay name config (nothing_taken (values_of config)) day

-- behind a line more
pub record KeepsMore (name : List ℕ) (config : Configuration) (taken : Taken) (k : ℕ)
    (line : List ℕ) (after : InvestorDay) (fault : Option ProgramFault) : Type 0 where
  pub keeps : KeepsDay name config (with_any_line (values_of config) taken (k, line)) after
  pub told : (with_any_line (values_of config) taken (k, line)).faults
      ≡ taken.faults ++ option_to_list fault

-- What is printed of steps, where each is followed by the turns of its actor that leave none.
pub record IsDayText (name : List ℕ) (config : Configuration) (steps : List Step)
    (text : List ℕ) : Type 0 where
  pub investor : ℕ
  pub named : investor_by name (values_of config) ≡ Ok investor
  pub text_is : IsTextOf config investor (live_steps steps) text

-- what is printed of two such days
pub record AreDaysCompared (name : List ℕ) (config : Configuration) (steps : List Step)
    (other_config : Configuration) (other_steps : List Step) (text : List ℕ) : Type 0 where
  pub one : Run
  pub other : Run
  pub named : investor_by name (values_of config) ≡ Ok one.investor
  pub other_named : investor_by name (values_of other_config) ≡ Ok other.investor
  pub one_is : IsRunOf config one.investor (live_steps steps) one
  pub other_is : IsRunOf other_config other.investor (live_steps other_steps) other
  pub compared : AreCompared one other text
