-- What a call of a run of `live` makes of how far it has come, and how it fails: names for private
-- functions alone.
use Rattle.std.specs.Prelude.{◌≡◌, ◌<◌, ◌≤◌, ◌⊎◌, ℕ, ◌+◌, Bool, true, false, List, [], ◌∷◌, ◌++◌}
use Rattle.std.specs.Prelude.{length, Option, Some, None, Ok, Err}
use Rattle.std.specs.Option.{option_to_list}
use Rattle.venue_rows.specs.Rows.{ConfigValues, Configuration}
use Rattle.investor_texts.specs.SoughtDays.{Keeps, KeepsMore, OpensSought, Sought, sought_of}
use Rattle.input_lines.specs.Lines.{lines_of}
use Rattle.venue_text.specs.LiveAnswers.{Opens}
use Rattle.venue_text.specs.LiveLines.{Taken}
use Rattle.input_lines.specs.VenueParts.{is_divider, venue_of}
use Rattle.input_lines.specs.declared.faults.ProgramFault.{ProgramFault}
use Rattle.input_lines.specs.declared.faults.ProgramFault.TheVariants as program
use Rattle.investor_texts.specs.declared.sought_days.SoughtDay.{SoughtDay}
use Rattle.input_lines.specs.declared.lines.TheConstants.{MOST_INPUT}
use Rattle.venue_text.specs.declared.live_form.LiveForm.{LiveForm}
use Rattle.venue_text.specs.declared.live_lines.LiveDay.{LiveDay}
use Rattle.live_runs.specs.LineForms.{LineForm, answered, compared_for, kept_for}
use Rattle.live_runs.specs.LiveRuns.{AreWithin, EndsWith, EndsDay, EndsInAnswers, GainsFaults}
use Rattle.live_runs.specs.LiveRuns.{name_fault}
use Rattle.live_runs.specs.Written.{Written}
use Rattle.live_runs.specs.declared.live.LiveRun.{LiveRun}
use Rattle.live_runs.specs.declared.stages.Stage.{Stage}
use Rattle.live_runs.specs.declared.stages.Stage.TheVariants as stage
use Rattle.live_runs.specs.LiveStages.{DayGoes, KeptGoes, StageIs, HasCome, StandsAt}

-- what the streams held at the start of a run
pub record Start : Type 0 where
  pub out : Option (List ℕ)
  pub err : Option (List ℕ)

-- what was written since then, before a call and behind it
abbrev pub out_old : Start → Written → Written
out_old start out = record { before = start.out; after = out.before }

abbrev pub out_new : Start → Written → Written
out_new start out = record { before = start.out; after = out.after }

abbrev pub err_old : Start → Written → Written
err_old start err = record { before = start.err; after = err.before }

abbrev pub err_new : Start → Written → Written
err_new start err = record { before = start.err; after = err.after }

-- A line of steps is answered, wherever the run began and whatever came before; or a fault ends the
-- day with it, whatever comes behind it.
abbrev pub DayTakes : ℕ → List ℕ → LiveDay → LiveDay → Written → Written → Type 0
DayTakes number line before after out err = (form : LiveForm) (lines : List (List ℕ))
    (start : Start) → number ≡ length lines + 1
    → DayGoes form lines before (out_old start out) (err_old start err)
    → DayGoes form (lines ++ line ∷ []) after (out_new start out) (err_new start err)

abbrev pub DayFails : ℕ → List ℕ → LiveDay → ProgramFault → Written → Written → Type 0
DayFails number line before fault out err = (form : LiveForm) (lines : List (List ℕ))
    (start : Start) → number ≡ length lines + 1
    → DayGoes form lines before (out_old start out) (err_old start err)
    → (more : List (List ℕ)) → EndsDay (answered form) fault ((lines ++ line ∷ []) ++ more)
    (out_new start out) (err_new start err)

-- what a line brings to a day that is kept, wherever it stood
abbrev pub KeepsAnywhere : ℕ → List ℕ → SoughtDay → SoughtDay → Option ProgramFault → Type 0
KeepsAnywhere number line before after fault = (config : Configuration) (sought : Sought)
    (taken : Taken) → Keeps sought config taken before
    → KeepsMore sought config taken number line after fault

-- it is taken, and its fault told, if it has one
pub record KeepsStep (number : ℕ) (line : List ℕ) (before after : SoughtDay) (err : Written)
    : Type 0 where
  pub fault : Option ProgramFault
  pub keeps : KeepsAnywhere number line before after fault
  pub told : GainsFaults (option_to_list fault) err

-- The same where the messages are kept: nothing is printed.
abbrev pub KeptTakes : ℕ → List ℕ → SoughtDay → SoughtDay → Written → Written → Type 0
KeptTakes number line before after out err = (sought : Sought) (lines : List (List ℕ))
    (start : Start) → number ≡ length lines + 1
    → KeptGoes sought lines before (out_old start out) (err_old start err)
    → KeptGoes sought (lines ++ line ∷ []) after (out_new start out) (err_new start err)

-- The same at each stage.
abbrev pub StageTakes : LineForm → ℕ → List ℕ → Stage → Stage → Written → Written → Type 0
StageTakes form number line before after out err = (lines : List (List ℕ)) (start : Start)
    → number ≡ length lines + 1
    → StageIs form lines before (out_old start out) (err_old start err)
    → StageIs form (lines ++ line ∷ []) after (out_new start out) (err_new start err)

abbrev pub StageFails : LineForm → ℕ → List ℕ → Stage → ProgramFault → Written → Written → Type 0
StageFails form number line before fault out err = (lines : List (List ℕ)) (start : Start)
    → number ≡ length lines + 1
    → StageIs form lines before (out_old start out) (err_old start err)
    → (more : List (List ℕ)) → EndsDay form fault ((lines ++ line ∷ []) ++ more)
    (out_new start out) (err_new start err)

-- The line that has begun is whole.
abbrev pub LineTakes : LiveRun → LiveRun → Written → Written → Type 0
LineTakes before after out err = (form : LineForm) (lines : List (List ℕ)) (start : Start)
    → HasCome form lines before (out_old start out) (err_old start err)
    → length before.line.items ≤ MOST_INPUT
    → HasCome form (lines ++ before.line.items ∷ []) after (out_new start out)
    (err_new start err)

abbrev pub LineFails : LiveRun → ProgramFault → Written → Written → Type 0
LineFails before fault out err = (form : LineForm) (lines : List (List ℕ)) (start : Start)
    → HasCome form lines before (out_old start out) (err_old start err)
    → (more : List (List ℕ))
    → EndsDay form fault ((lines ++ before.line.items ∷ []) ++ more) (out_new start out)
    (err_new start err)

-- Bytes are read.
abbrev pub Feeds : List ℕ → LiveRun → LiveRun → Written → Written → Type 0
Feeds bytes before after out err = (form : LineForm) (read : List ℕ) (start : Start)
    → StandsAt form read before (out_old start out) (err_old start err)
    → StandsAt form (read ++ bytes) after (out_new start out) (err_new start err)

abbrev pub FeedFails : List ℕ → LiveRun → ProgramFault → Written → Written → Type 0
FeedFails bytes before fault out err = (form : LineForm) (read : List ℕ) (start : Start)
    → StandsAt form read before (out_old start out) (err_old start err)
    → (tail : List ℕ) → EndsDay form fault (lines_of ((read ++ bytes) ++ tail))
    (out_new start out) (err_new start err)

-- The input ends.
abbrev pub Ends : LiveRun → Written → Written → Type 0
Ends before out err = (form : LineForm) (read : List ℕ) (start : Start)
    → StandsAt form read before (out_old start out) (err_old start err)
    → AreWithin form (lines_of read)
    × EndsInAnswers form (lines_of read) (out_new start out) (err_new start err)

abbrev pub EndFails : LiveRun → ProgramFault → Written → Written → Type 0
EndFails before fault out err = (form : LineForm) (read : List ℕ) (start : Start)
    → StandsAt form read before (out_old start out) (err_old start err)
    → EndsDay form fault (lines_of read) (out_new start out) (err_new start err)

-- A line before the day: the configuration goes on, or its text is whole and opens the day.
abbrev pub OpensStage : LineForm → List ℕ → Stage → Type 0
OpensStage (answered form) text (stage.Day day) = Opens form text day
OpensStage (kept_for sought) text (stage.Kept day) = OpensSought sought text day
OpensStage (compared_for whom) text (stage.First day) = OpensSought (sought_of whom) text day
OpensStage form text _ = ⊥

-- why a configuration opens none: its own fault, or that of a name
abbrev pub OpensNone : LineForm → List ℕ → ProgramFault → Type 0
OpensNone form text fault = (venue_of text ≡ Err fault)
    ⊎ ((config : ConfigValues) × (venue_of text ≡ Ok config) × (name_fault form config ≡ Some fault))

abbrev pub IsNext : LineForm → List ℕ → List ℕ → List ℕ → Option Stage → Type 0
IsNext form line before after None =
    (is_divider line ≡ false) × (after ≡ before ++ line ++ 10 ∷ [])
    × (length after ≤ MOST_INPUT)
IsNext form line before after (Some next) =
    (is_divider line ≡ true) × OpensStage form before next

-- why it is at fault
pub data IsBad (form : LineForm) (line before : List ℕ) (fault : ProgramFault) : Type 0 where
  OfMemory : fault ≡ program.Memory → IsBad form line before fault
  OfConfig : is_divider line ≡ true → venue_of before ≡ Err fault → IsBad form line before fault
  OfFirm : is_divider line ≡ true → (config : ConfigValues) → venue_of before ≡ Ok config
      → name_fault form config ≡ Some fault → IsBad form line before fault
  OfLength : fault ≡ program.Input → is_divider line ≡ false
      → MOST_INPUT < length (before ++ line ++ 10 ∷ []) → IsBad form line before fault

-- The input ends at a stage: all that is still to be printed was.
abbrev pub Closes : Stage → Written → Type 0
Closes before out = (form : LineForm) (lines : List (List ℕ)) (start : Option (List ℕ)) (err : Written)
    → StageIs form lines before (record { before = start; after = out.before }) err
    → EndsInAnswers form lines (record { before = start; after = out.after }) err

abbrev pub CloseFails : Stage → ProgramFault → Written → Type 0
CloseFails before fault out = (form : LineForm) (lines : List (List ℕ)) (start : Option (List ℕ))
    (err : Written) → StageIs form lines before (record { before = start; after = out.before }) err
    → EndsDay form fault lines (record { before = start; after = out.after }) err

-- A line `%%` behind the first of two days, or behind the configuration of the second.
abbrev pub is_turn : Stage → List ℕ → Bool
is_turn (stage.First day) line = is_divider line
is_turn (stage.Between day text) line = is_divider line
is_turn _ line = false

abbrev pub Turns : LineForm → Stage → Stage → Type 0
Turns (compared_for whom) (stage.First day) (stage.Between same text) =
    (same ≡ day) × (text.items ≡ [])
Turns (compared_for whom) (stage.Between day text) (stage.Both same other) =
    (same ≡ day) × OpensSought (sought_of whom) text.items other
Turns (compared_for whom) (stage.First day) _ = ⊥
Turns (compared_for whom) (stage.Between day text) _ = ⊥
Turns form before after = Unit {0}

-- why it opens no second day
abbrev pub TurnFails : LineForm → Stage → ProgramFault → Type 0
TurnFails (compared_for whom) (stage.First day) fault = ⊥
TurnFails (compared_for whom) (stage.Between day text) fault =
    (fault ≡ program.Memory) ⊎ OpensNone (compared_for whom) text.items fault
TurnFails form before fault = Unit {0}

-- A run that has read nothing, whatever the streams held.
abbrev pub StandsFirst : LineForm → LiveRun → Type 0
StandsFirst form run = (start : Start)
    → StandsAt form [] run (record { before = start.out; after = start.out })
    (record { before = start.err; after = start.err })

-- All of an input is answered behind what was read, or a fault ends the day.
abbrev pub AnswersAll : List ℕ → LiveRun → Written → Written → Type 0
AnswersAll all before out err = (form : LineForm) (read : List ℕ) (start : Start)
    → StandsAt form read before (out_old start out) (err_old start err)
    → AreWithin form (lines_of (read ++ all))
    × EndsInAnswers form (lines_of (read ++ all)) (out_new start out) (err_new start err)

abbrev pub FailsIn : List ℕ → Option (List ℕ) → ProgramFault → LiveRun → Written → Written → Type 0
FailsIn all left fault before out err = (form : LineForm) (read : List ℕ) (start : Start)
    → StandsAt form read before (out_old start out) (err_old start err)
    → EndsWith form fault (read ++ all) left (out_new start out) (err_new start err)
