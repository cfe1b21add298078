-- A day that comes line by line, and of which something is printed at its end: `replay`, `due` and
-- `blotter` with `--live`.
use Rattle.std.specs.Prelude.{◌≡◌, ℕ, Bool, List, [], ◌++◌, slice_get, Option, Result, Ok}
use Rattle.std.specs.Option.{option_map, option_to_list}
use Rattle.venue_rows.specs.Rows.{ConfigValues, Configuration, values_of}
use Rattle.step_replay.specs.FirmDays.{firm_days}
use Rattle.step_replay.specs.LiveDays.{live_trail}
use Rattle.step_replay.specs.declared.steps.Step.{Step}
use Rattle.venue_text.specs.AskedDays.{dealers_by, firm_by, firms_by}
use Rattle.venue_text.specs.BlotterCommand as blotters
use Rattle.venue_text.specs.DueCommand.{due_texts}
use Rattle.venue_text.specs.LiveAnswers.{Goes}
use Rattle.venue_text.specs.LiveLines.{Taken, nothing_taken, with_any_line}
use Rattle.venue_text.specs.LiveNotes.{noted_days_text}
use Rattle.venue_text.specs.ReplayText.{days_text, named_days}
use Rattle.input_lines.specs.ResultSteps.{◌>>=◌}
use Rattle.input_lines.specs.VenueParts.{venue_of}
use Rattle.input_lines.specs.declared.faults.ProgramFault.{ProgramFault}
use Rattle.venue_text.specs.declared.kept_days.Asked.{Asked}
use Rattle.venue_text.specs.declared.kept_days.Asked.TheVariants as asked
use Rattle.venue_text.specs.declared.kept_days.KeptDay.{KeptDay}
use Rattle.venue_text.specs.declared.kept_days.Wanted.{Wanted as RustWanted}
use Rattle.venue_text.specs.declared.kept_days.Wanted.TheVariants as rust

-- What is asked for at the end of a day.
pub data Wanted : Type 0 where
  -- the messages of all firms, or of the firm with this name, as whole frames or as lines of fields
  messages : Option (List ℕ) → Bool → Wanted
  -- the same messages, each with the line of what its desk notes beside it
  noted : Option (List ℕ) → Bool → Wanted
  -- the due text of all dealers, or of the dealer with this name
  dues : Option (List ℕ) → Wanted
  -- the blotter of the firm with this name
  blotter : List ℕ → Wanted

abbrev pub meant : RustWanted → Wanted
meant (rust.Messages name frames) = messages (option_map (λ text. text.now) name) frames
meant (rust.Noted name frames) = noted (option_map (λ text. text.now) name) frames
meant (rust.Due name) = dues (option_map (λ text. text.now) name)
meant (rust.Blotter name) = blotter name.now

-- the same by the numbers of the firms, or the fault of a name
abbrev pub asked_in : Wanted → ConfigValues → Result Asked ProgramFault
asked_in (messages name frames) config = do
  only ← firms_by name config
  Ok (asked.Messages only frames)
asked_in (noted name frames) config = do
  only ← firms_by name config
  Ok (asked.Noted only frames)
asked_in (dues name) config = do
  only ← dealers_by name config
  Ok (asked.Due only)
asked_in (blotter name) config = do
  firm ← firm_by name config
  Ok (asked.Blotter firm)

-- what a configuration and the name spell, or the first fault
abbrev pub asked_venue : Wanted → List ℕ → Result Asked ProgramFault
asked_venue wanted text = do
  config ← venue_of text
  asked_in wanted config

-- What is printed of steps: what the command prints of them without `--live`, where each step is
-- followed by the turns of its actor that leave none.
abbrev pub text_of_asked : Configuration → List Step → Asked → List ℕ
text_of_asked config steps (asked.Messages only frames) =
    days_text frames only (named_days config (firm_days config (live_trail config steps).facts))
text_of_asked config steps (asked.Noted only frames) =
    noted_days_text frames config (live_trail config steps) only
text_of_asked config steps (asked.Due only) = due_texts only config (live_trail config steps)
text_of_asked config steps (asked.Blotter firm) =
    blotters.blotter_of (slice_get (firm_days config (live_trail config steps).facts) firm)

abbrev pub text_if : Configuration → List Step → Result Asked ProgramFault → List ℕ
text_if config steps (Ok asked) = text_of_asked config steps asked
text_if config steps _ = []

abbrev pub kept_text : Wanted → Configuration → List Step → List ℕ
kept_text wanted config steps = text_if config steps (asked_in wanted (values_of config))

-- A day of which this is wanted stands where lines have brought it. It is for callers, who need not
-- know what it is made of.
pub record Keeps (wanted : Wanted) (config : Configuration) (taken : Taken) (kept : KeptDay)
    : Type 0 where
  pub goes : Goes kept.day.form config taken kept.day
  pub asked_is : asked_in wanted (values_of config) ≡ Ok kept.asked

-- before the first line of steps
pub record OpensKept (wanted : Wanted) (text : List ℕ) (kept : KeptDay) : Type 0 where
  pub config : Configuration
  pub spelled : venue_of text ≡ Ok (values_of config)
  pub keeps : Keeps wanted config (nothing_taken (values_of config)) kept

-- behind a line more
pub record KeepsMore (wanted : Wanted) (config : Configuration) (taken : Taken) (k : ℕ)
    (line : List ℕ) (after : KeptDay) (fault : Option ProgramFault) : Type 0 where
  pub keeps : Keeps wanted config (with_any_line (values_of config) taken (k, line)) after
  pub told : (with_any_line (values_of config) taken (k, line)).faults
      ≡ taken.faults ++ option_to_list fault
