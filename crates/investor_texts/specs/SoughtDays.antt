-- A day that comes line by line, and of which something is printed at its end: of firms, as
-- `KeptDays` of `venue_text` has it, or what was due to an investor. `Keeps` and `OpensSought` are
-- for callers, who need not know what a day is made of.
use Rattle.std.specs.Prelude.{◌≡◌, ℕ, List, [], ◌++◌, Option, Some, None, Result, Ok, Err}
use Rattle.std.specs.Option.{option_to_list}
use Rattle.venue_rows.specs.Rows.{ConfigValues, Configuration, investor_numbered, values_of}
use Rattle.venue_rows.specs.declared.investor_rows.InvestorRow.{InvestorRow}
use Rattle.step_replay.specs.LiveDays.{live_steps}
use Rattle.step_replay.specs.declared.steps.Step.{Step}
use Rattle.input_lines.specs.ResultSteps.{◌>>=◌}
use Rattle.input_lines.specs.VenueParts.{venue_of}
use Rattle.input_lines.specs.declared.faults.ProgramFault.{ProgramFault}
use Rattle.venue_text.specs.KeptComparison.{IsKeptComparison}
use Rattle.venue_text.specs.KeptDays as kept
use Rattle.venue_text.specs.KeptDays.{Wanted, dues}
use Rattle.venue_text.specs.LiveLines.{Taken, nothing_taken, with_any_line}
use Rattle.venue_text.specs.declared.kept_days.Asked.{Asked}
use Rattle.investor_texts.specs.DueCommand.{investor_by, text_of}
use Rattle.investor_texts.specs.LineDays.{AreDaysCompared, KeepsDay}
use Rattle.investor_texts.specs.declared.sought_days.Sought.{Sought as RustSought}
use Rattle.investor_texts.specs.declared.sought_days.Sought.TheVariants as rust
use Rattle.investor_texts.specs.declared.sought_days.SoughtDay.{SoughtDay}
use Rattle.investor_texts.specs.declared.sought_days.SoughtDay.TheVariants as day
use Rattle.investor_texts.specs.declared.sought_days.Whom.{Whom as RustWhom}
use Rattle.investor_texts.specs.declared.sought_days.Whom.TheVariants as rust_whom

-- What is asked for at the end of a day.
pub data Sought : Type 0 where
  -- the messages, the due text or the blotter of firms
  of_firms : Wanted → Sought
  -- the due text of the investor with this name
  of_investor : List ℕ → Sought

abbrev pub meant : RustSought → Sought
meant (rust.Firms wanted) = of_firms (kept.meant wanted)
meant (rust.Investor name) = of_investor name.now

-- For whom two days are compared, by its name.
pub data Whom : Type 0 where
  the_dealer : List ℕ → Whom
  the_investor : List ℕ → Whom

abbrev pub whom_meant : RustWhom → Whom
whom_meant (rust_whom.Dealer name) = the_dealer name.now
whom_meant (rust_whom.Investor name) = the_investor name.now

-- what is asked for of each of the days
abbrev pub sought_of : Whom → Sought
sought_of (the_dealer name) = of_firms (dues (Some name))
sought_of (the_investor name) = of_investor name

-- the same by the numbers of the firms
pub data AskedFor : Type 0 where
  firms : Asked → AskedFor
  investor : ℕ → AskedFor

abbrev pub asked_in : Sought → ConfigValues → Result AskedFor ProgramFault
asked_in (of_firms wanted) config = do
  asked ← kept.asked_in wanted config
  Ok (firms asked)
asked_in (of_investor name) config = do
  number ← investor_by name config
  Ok (investor number)

-- what a configuration and the name spell, or the first fault
abbrev pub asked_venue : Sought → List ℕ → Result AskedFor ProgramFault
asked_venue sought text = do
  config ← venue_of text
  asked_in sought config

-- What is printed of steps.

-- the due text of an investor, where there is one with this number
abbrev pub text_where : Configuration → ℕ → List Step → Option InvestorRow → List ℕ
text_where config number steps None = []
text_where config number steps (Some row) = text_of config number row (live_steps steps)

abbrev pub text_if : Configuration → List Step → Result ℕ ProgramFault → List ℕ
text_if config steps (Ok number) =
    text_where config number steps (investor_numbered config number)
text_if config steps (Err fault) = []

abbrev pub sought_text : Sought → Configuration → List Step → List ℕ
sought_text (of_firms wanted) config steps = kept.kept_text wanted config steps
sought_text (of_investor name) config steps =
    text_if config steps (investor_by name (values_of config))

-- a day of which this is asked for stands where lines have brought it
abbrev pub Keeps : Sought → Configuration → Taken → SoughtDay → Type 0
Keeps (of_firms wanted) config taken (day.Firms kept_day) = kept.Keeps wanted config taken kept_day
Keeps (of_firms wanted) config taken (day.Investor investors_day) = ⊥
Keeps (of_investor name) config taken (day.Firms kept_day) = ⊥
Keeps (of_investor name) config taken (day.Investor investors_day) =
    KeepsDay name config taken investors_day

-- before the first line of steps
pub record OpensSought (sought : Sought) (text : List ℕ) (opened : SoughtDay) : Type 0 where
  pub config : Configuration
  pub spelled : venue_of text ≡ Ok (values_of config)
  pub keeps : Keeps sought config (nothing_taken (values_of config)) opened

-- behind a line more
pub record KeepsMore (sought : Sought) (config : Configuration) (taken : Taken) (k : ℕ)
    (line : List ℕ) (after : SoughtDay) (fault : Option ProgramFault) : Type 0 where
  pub keeps : Keeps sought config (with_any_line (values_of config) taken (k, line)) after
  pub told : (with_any_line (values_of config) taken (k, line)).faults
      ≡ taken.faults ++ option_to_list fault

-- what is printed of two days, for whom it is asked
abbrev pub IsComparison : Whom → Configuration → List Step → Configuration → List Step → List ℕ
    → Type 0
IsComparison (the_dealer name) one steps other other_steps text =
    IsKeptComparison name one steps other other_steps text
IsComparison (the_investor name) one steps other other_steps text =
    AreDaysCompared name one steps other other_steps text
