-- How far a run of `live` has come: names for private functions alone.
use Rattle.std.specs.Prelude.{◌≡◌, ◌≤◌, ℕ, ◌+◌, ◌==◌, true, false, List, [], ◌∷◌, ◌++◌, length}
use Rattle.std.specs.Prelude.{Option, Ok, nat_lt}
use Rattle.std.specs.List.{count_by, list_any}
use Rattle.venue_rows.specs.Rows.{Configuration, values_of}
use Rattle.investor_texts.specs.SoughtDays.{Keeps, Sought, Whom, sought_of}
use Rattle.input_lines.specs.Lines.{lines_of}
use Rattle.venue_text.specs.LiveAnswers.{Goes}
use Rattle.venue_text.specs.LiveInput.{are_divided, configuration_in, taken_in, taken_of, text_in}
use Rattle.venue_text.specs.LiveLines.{Taken}
use Rattle.input_lines.specs.VenueParts.{is_divided, is_divider, part_behind, spoken_in}
use Rattle.input_lines.specs.VenueParts.{text_of_lines, venue_of}
use Rattle.investor_texts.specs.declared.sought_days.SoughtDay.{SoughtDay}
use Rattle.venue_text.specs.declared.live_form.LiveForm.{LiveForm}
use Rattle.venue_text.specs.declared.live_lines.LiveDay.{LiveDay}
use Rattle.input_lines.specs.declared.lines.TheConstants.{MOST_INPUT}
use Rattle.live_runs.specs.LineForms.{LineForm, answered, compared_for, kept_for, meant_form}
use Rattle.live_runs.specs.LiveRuns.{AnswersNothing, GainsFaults, TakesDay, behind_one}
use Rattle.live_runs.specs.Written.{Written}
use Rattle.live_runs.specs.declared.live.LiveRun.{LiveRun}
use Rattle.live_runs.specs.declared.live.TheConstants.{MOST_LINES}
use Rattle.live_runs.specs.declared.stages.Stage.{Stage}
use Rattle.live_runs.specs.declared.stages.Stage.TheVariants as stage

-- the lines so far are of a configuration, which is read on
pub record AwaitsDay (lines : List (List ℕ)) (text : List ℕ) (out err : Written) : Type 0 where
  pub nothing : AnswersNothing lines out err
  pub text_is : text ≡ text_of_lines lines
  pub short : length text ≤ MOST_INPUT

-- the lines so far are those of a day that goes on, and each was answered
pub record DayGoes (form : LiveForm) (lines : List (List ℕ)) (day : LiveDay)
    (out err : Written) : Type 0 where
  pub config : Configuration
  pub answers : TakesDay (answered form) config lines (text_in form config lines) out err
  pub goes : Goes form config (taken_in config lines) day
  pub short : length (configuration_in lines) ≤ MOST_INPUT

-- the same, and what is asked for is printed at the end
pub record KeptGoes (sought : Sought) (lines : List (List ℕ)) (day : SoughtDay)
    (out err : Written) : Type 0 where
  pub config : Configuration
  pub answers : TakesDay (kept_for sought) config lines [] out err
  pub keeps : Keeps sought config (taken_in config lines) day
  pub short : length (configuration_in lines) ≤ MOST_INPUT

-- The stages of two days.

-- the first of them goes on
pub record FirstGoes (whom : Whom) (lines : List (List ℕ)) (day : SoughtDay)
    (out err : Written) : Type 0 where
  pub goes : KeptGoes (sought_of whom) lines day out err
  pub alone : is_divided (behind_one lines) ≡ false

-- lines of which one divides the two days
pub record AreTwo (lines first : List (List ℕ)) (divider : List ℕ) (behind : List (List ℕ))
    : Type 0 where
  pub split : lines ≡ first ++ divider ∷ behind
  pub divides : is_divider divider ≡ true

-- the configuration of the second goes on, whose text this is
pub record AwaitsSecond (whom : Whom) (lines : List (List ℕ)) (day : SoughtDay)
    (text : List ℕ) (out err : Written) : Type 0 where
  pub first : List (List ℕ)
  pub divider : List ℕ
  pub behind : List (List ℕ)
  pub two : AreTwo lines first divider behind
  pub goes : FirstGoes whom first day out err
  pub undivided : are_divided behind ≡ false
  pub text_is : text ≡ text_of_lines behind
  pub short : length text ≤ MOST_INPUT

-- what lines behind a configuration have brought, where the first line has number k
abbrev pub taken_at : Configuration → ℕ → List (List ℕ) → Taken
taken_at config k lines =
    taken_of (values_of config) (spoken_in (part_behind (record { first = k; lines = lines })))

-- the second goes on
pub record SecondGoes (whom : Whom) (k : ℕ) (lines : List (List ℕ)) (day : SoughtDay)
    (err : Written) : Type 0 where
  pub config : Configuration
  pub divided : are_divided lines ≡ true
  pub spelled : venue_of (configuration_in lines) ≡ Ok (values_of config)
  pub keeps : Keeps (sought_of whom) config (taken_at config k lines) day
  pub told : GainsFaults (taken_at config k lines).faults err
  pub short : length (configuration_in lines) ≤ MOST_INPUT

pub record BothGo (whom : Whom) (lines : List (List ℕ)) (one other : SoughtDay)
    (out err : Written) : Type 0 where
  pub first : List (List ℕ)
  pub divider : List ℕ
  pub behind : List (List ℕ)
  pub two : AreTwo lines first divider behind
  pub mid : Option (List ℕ)
  pub goes : FirstGoes whom first one out (record { before = err.before; after = mid })
  pub second : SecondGoes whom (length first + 2) behind other
      (record { before = mid; after = err.after })

abbrev pub StageIs : LineForm → List (List ℕ) → Stage → Written → Written → Type 0
StageIs form lines (stage.Configuration text) out err = AwaitsDay lines text.items out err
StageIs (answered form) lines (stage.Day day) out err = DayGoes form lines day out err
StageIs (kept_for sought) lines (stage.Kept day) out err = KeptGoes sought lines day out err
StageIs (compared_for whom) lines (stage.First day) out err = FirstGoes whom lines day out err
StageIs (compared_for whom) lines (stage.Between day text) out err =
    AwaitsSecond whom lines day text.items out err
StageIs (compared_for whom) lines (stage.Both one other) out err =
    BothGo whom lines one other out err
StageIs form lines _ out err = ⊥

-- a run has answered these lines
pub record HasCome (form : LineForm) (lines : List (List ℕ)) (run : LiveRun)
    (out err : Written) : Type 0 where
  pub number_is : run.number ≡ length lines + 1
  pub form_is : meant_form run.form ≡ form
  pub stage_is : StageIs form lines run.stage out err
  pub short : list_any (λ line. nat_lt MOST_INPUT (length line)) lines ≡ false
  pub few : length lines ≤ MOST_LINES

-- bytes are these lines, each with its end, and one that has begun
pub record IsCut (read : List ℕ) (lines : List (List ℕ)) (begun : List ℕ) : Type 0 where
  pub count : length lines ≡ count_by (λ c. c == 10) read
  pub closed : (tail : List ℕ) → lines_of (read ++ tail) ≡ lines ++ lines_of (begun ++ tail)
  pub goes_on : list_any (λ c. c == 10) begun ≡ false

-- a run has read these bytes, and answered the lines in them that came whole
pub record StandsAt (form : LineForm) (read : List ℕ) (run : LiveRun) (out err : Written)
    : Type 0 where
  pub lines : List (List ℕ)
  pub cut : IsCut read lines run.line.items
  pub come : HasCome form lines run out err
  pub short : length run.line.items ≤ MOST_INPUT
