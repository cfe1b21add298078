-- Where a day that goes on stands, and what a line gives.
use Rattle.std.specs.Prelude.{◌≡◌, ℕ, List, ◌++◌, Option, Ok}
use Rattle.std.specs.Option.{option_to_list}
use Rattle.venue_rows.specs.Rows.{Configuration, values_of}
use Rattle.step_replay.specs.LiveDays.{Sent, live_messages}
use Rattle.step_replay.specs.LiveStanding.{IsAt}
use Rattle.step_replay.specs.declared.live.LiveVenue.{LiveVenue}
use Rattle.step_replay.specs.declared.steps.Step.{Step}
use Rattle.venue_text.specs.LiveLines.{Taken, line_fault, line_text, nothing_taken, with_any_line}
use Rattle.input_lines.specs.VenueParts.{venue_of}
use Rattle.input_lines.specs.declared.faults.ProgramFault.{ProgramFault}
use Rattle.venue_text.specs.declared.live_form.LiveForm.{LiveForm}
use Rattle.venue_text.specs.declared.live_lines.LiveDay.{LiveDay}

-- what more steps bring: the venue stands behind them, and their messages were told
pub record AreTold (config : Configuration) (taken more : List Step) (after : LiveVenue)
    (told : List Sent) : Type 0 where
  pub stands : IsAt config (taken ++ more) after
  pub told_is : live_messages config (taken ++ more) ≡ live_messages config taken ++ told

-- A day of this form and configuration stands where lines have brought it. It is for callers, who
-- need not know what it is made of.
pub record Goes (form : LiveForm) (config : Configuration) (taken : Taken) (day : LiveDay)
    : Type 0 where
  pub form_is : day.form ≡ form
  pub config_is : day.config ≡ config
  pub stands : IsAt config taken.steps day.venue
  pub heard_is : day.heard ≡ taken.heard

-- what the lines of a configuration bring: a day before its first step
pub record Opens (form : LiveForm) (text : List ℕ) (day : LiveDay) : Type 0 where
  pub config : Configuration
  pub spelled : venue_of text ≡ Ok (values_of config)
  pub goes : Goes form config (nothing_taken (values_of config)) day

-- What the line with this number gives: exactly its text is printed, its fault is told, if it has
-- one, and the day stands behind it. A line that is skipped, or is at fault, leaves the day where
-- it stood.
pub record Gives (form : LiveForm) (config : Configuration) (taken : Taken) (k : ℕ)
    (line : List ℕ) (after : LiveDay) (printed : List ℕ) (fault : Option ProgramFault)
    : Type 0 where
  pub goes : Goes form config (with_any_line (values_of config) taken (k, line)) after
  pub printed_is : printed ≡ line_text form config taken k line
  pub told : (with_any_line (values_of config) taken (k, line)).faults
      ≡ taken.faults ++ option_to_list fault

-- What the line with this number brings, before it is printed.
pub record Sends (form : LiveForm) (config : Configuration) (taken : Taken) (k : ℕ)
    (line : List ℕ) (after : LiveDay) (messages : List Sent) (fault : Option ProgramFault)
    : Type 0 where
  pub goes : Goes form config (with_any_line (values_of config) taken (k, line)) after
  pub told_is : live_messages config (with_any_line (values_of config) taken (k, line)).steps
      ≡ live_messages config taken.steps ++ messages
  pub fault_is : fault ≡ line_fault (values_of config) taken (k, line)
