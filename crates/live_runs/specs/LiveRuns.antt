-- How a run of `live` ends, by the lines of its input alone: so what it prints does not depend on
-- how the input comes, in whatever pieces.
use Rattle.std.specs.Prelude.{◌≡◌, ◌<◌, ◌≤◌, ◌==◌, ◌⊎◌, ℕ, Bool, true, false, List, [], ◌∷◌, ◌++◌}
use Rattle.std.specs.Prelude.{length, nat_lt, take, Option, Some, None, Result, Ok, Err}
use Rattle.std.specs.List.{count_by, list_any}
use Rattle.std.specs.Option.{IfSome}
use Rattle.venue_rows.specs.Rows.{ConfigValues, Configuration, values_of}
use Rattle.input_lines.specs.Faults.{told_line}
use Rattle.investor_texts.specs.SoughtDays.{IsComparison, Whom, asked_in, sought_of, sought_text}
use Rattle.input_lines.specs.Lines.{lines_of}
use Rattle.venue_text.specs.LiveInput.{are_divided, as_part, configuration_in, taken_in, taken_of}
use Rattle.venue_text.specs.LiveInput.{text_in}
use Rattle.venue_text.specs.LiveLines.{Taken}
use Rattle.input_lines.specs.VenueParts.{InputPart, is_divided, part_before, part_behind, spoken_in}
use Rattle.input_lines.specs.VenueParts.{text_of, venue_of}
use Rattle.input_lines.specs.declared.faults.ProgramFault.{ProgramFault}
use Rattle.input_lines.specs.declared.faults.ProgramFault.TheVariants.{Read, Input, Parts, Config}
use Rattle.input_lines.specs.declared.faults.ProgramFault.TheVariants.{Firm, Memory, Write}
use Rattle.input_lines.specs.declared.lines.TheConstants.{MOST_INPUT}
use Rattle.live_runs.specs.LineForms.{LineForm, answered, compared_for, kept_for}
use Rattle.live_runs.specs.Written.{Streams, Written, Gains, GainsPart, IsUntouched}
use Rattle.live_runs.specs.declared.live.TheConstants.{MOST_LINES}

-- What is printed for lines as they come, and all that is printed behind the last of them.
abbrev pub text_so_far : LineForm → Configuration → List (List ℕ) → List ℕ
text_so_far (answered form) config lines = text_in form config lines
text_so_far (kept_for sought) config lines = []
text_so_far (compared_for whom) config lines = []

abbrev pub whole_text : LineForm → Configuration → List (List ℕ) → List ℕ
whole_text (answered form) config lines = text_in form config lines
whole_text (kept_for sought) config lines = sought_text sought config (taken_in config lines).steps
whole_text (compared_for whom) config lines = []

-- the fault of the name in what is asked for
abbrev pub fault_if : {A : Type 0} → Result A ProgramFault → Option ProgramFault
fault_if (Ok value) = None
fault_if (Err fault) = Some fault

abbrev pub name_fault : LineForm → ConfigValues → Option ProgramFault
name_fault (answered form) config = None
name_fault (kept_for sought) config = fault_if (asked_in sought config)
name_fault (compared_for whom) config = fault_if (asked_in (sought_of whom) config)

-- the lines of faults, one behind the other; of each a part from its front where it was refused
abbrev pub GainsFaults : List ProgramFault → Written → Type 0
GainsFaults [] err = IsUntouched err
GainsFaults (fault ∷ faults) err = (mid : Option (List ℕ))
    × GainsPart (told_line [] fault) (record { before = err.before; after = mid })
    × GainsFaults faults (record { before = mid; after = err.after })

-- The lines are those of a day of this configuration, and each was taken: the output has exactly
-- this text, and standard error was told the faults of the lines that have one.
pub record TakesDay (form : LineForm) (config : Configuration) (lines : List (List ℕ))
    (text : List ℕ) (out err : Written) : Type 0 where
  pub divided : are_divided lines ≡ true
  pub spelled : venue_of (configuration_in lines) ≡ Ok (values_of config)
  pub asked : name_fault form (values_of config) ≡ None
  pub printed : Gains text out
  pub told : GainsFaults (taken_in config lines).faults err

-- The same, where the output refused, and has only a part of the text from its front.
pub record AnswersPart (form : LineForm) (config : Configuration) (lines : List (List ℕ))
    (out err : Written) : Type 0 where
  pub divided : are_divided lines ≡ true
  pub spelled : venue_of (configuration_in lines) ≡ Ok (values_of config)
  pub asked : name_fault form (values_of config) ≡ None
  pub printed : GainsPart (whole_text form config lines) out
  pub told : GainsFaults (taken_in config lines).faults err

-- the lines are of a configuration that goes on, and nothing was printed
pub record AnswersNothing (lines : List (List ℕ)) (out err : Written) : Type 0 where
  pub undivided : are_divided lines ≡ false
  pub left : IsUntouched out
  pub untold : IsUntouched err

-- Two days, one behind the other: behind the steps of the first a line `%%`, and behind it the
-- configuration of the second, a line `%%` and its steps, in which a further one is at fault.

-- the lines behind the first configuration, and those of the second day
abbrev pub behind_one : List (List ℕ) → InputPart
behind_one lines = part_behind (as_part lines)

abbrev pub second_day : List (List ℕ) → InputPart
second_day lines = part_behind (behind_one lines)

-- whether the steps of the second day have begun
abbrev pub are_four : List (List ℕ) → Bool
are_four lines = is_divided (second_day lines)

abbrev pub second_configuration : List (List ℕ) → List ℕ
second_configuration lines = text_of (part_before (second_day lines))

-- what the lines of steps have brought of each day
abbrev pub first_taken : Configuration → List (List ℕ) → Taken
first_taken config lines = taken_of (values_of config) (spoken_in (part_before (behind_one lines)))

abbrev pub second_taken : Configuration → List (List ℕ) → Taken
second_taken config lines = taken_of (values_of config) (spoken_in (part_behind (second_day lines)))

-- the first day goes on, or the configuration of the second one: its faults so far were told
pub record TakesOne (whom : Whom) (config : Configuration) (lines : List (List ℕ))
    (out err : Written) : Type 0 where
  pub alone : are_four lines ≡ false
  pub spelled : venue_of (configuration_in lines) ≡ Ok (values_of config)
  pub asked : name_fault (compared_for whom) (values_of config) ≡ None
  pub left : IsUntouched out
  pub told : GainsFaults (first_taken config lines).faults err

-- both have begun, and the faults of both were told
pub record TakesBoth (whom : Whom) (one other : Configuration) (lines : List (List ℕ))
    (err : Written) : Type 0 where
  pub both : are_four lines ≡ true
  pub spelled : venue_of (configuration_in lines) ≡ Ok (values_of one)
  pub asked : name_fault (compared_for whom) (values_of one) ≡ None
  pub other_spelled : venue_of (second_configuration lines) ≡ Ok (values_of other)
  pub other_asked : name_fault (compared_for whom) (values_of other) ≡ None
  pub told : GainsFaults ((first_taken one lines).faults ++ (second_taken other lines).faults) err

-- and what differs is this text
pub record HasCompared (whom : Whom) (lines : List (List ℕ)) (text : List ℕ) (err : Written)
    : Type 0 where
  pub one : Configuration
  pub other : Configuration
  pub takes : TakesBoth whom one other lines err
  pub compared : IsComparison whom one (first_taken one lines).steps
      other (second_taken other lines).steps text

-- these lines of two days were taken, and nothing was printed
abbrev pub HasTakenDays : Whom → List (List ℕ) → Written → Written → Type 0
HasTakenDays whom lines out err =
    ((config : Configuration) × TakesOne whom config lines out err)
    ⊎ (IsUntouched out × ((one : Configuration) × (other : Configuration)
    × TakesBoth whom one other lines err))

-- these lines were answered, and nothing else
abbrev pub HasAnswered : LineForm → List (List ℕ) → Written → Written → Type 0
HasAnswered (compared_for whom) lines out err =
    AnswersNothing lines out err ⊎ HasTakenDays whom lines out err
HasAnswered form lines out err =
    AnswersNothing lines out err
    ⊎ ((config : Configuration)
    × TakesDay form config lines (text_so_far form config lines) out err)

-- a part of what was to be printed behind these lines was, from its front
abbrev pub IsCutOff : LineForm → List (List ℕ) → Written → Written → Type 0
IsCutOff (compared_for whom) lines out err =
    (text : List ℕ) × HasCompared whom lines text err × GainsPart text out
IsCutOff form lines out err = (config : Configuration) × AnswersPart form config lines out err

-- no day of these lines has begun, or the second one has not
abbrev pub HasNoDay : LineForm → List (List ℕ) → Written → Written → Type 0
HasNoDay (compared_for whom) lines out err = HasAnswered (compared_for whom) lines out err
HasNoDay form lines out err = IsUntouched out × IsUntouched err

-- what was printed where a fault ends the day behind these lines
abbrev pub Leaves : LineForm → ProgramFault → List (List ℕ) → Written → Written → Type 0
Leaves form Write lines out err = IsCutOff form lines out err
Leaves form Parts lines out err = HasNoDay form lines out err
Leaves form (Config fault) lines out err = HasNoDay form lines out err
Leaves form Firm lines out err = HasNoDay form lines out err
Leaves form fault lines out err = HasAnswered form lines out err

-- whether lines have all parts, and the text of a configuration among them
abbrev pub are_whole : LineForm → List (List ℕ) → Bool
are_whole (compared_for whom) lines = are_four lines
are_whole form lines = are_divided lines

abbrev pub IsConfigurationIn : LineForm → List (List ℕ) → List ℕ → Type 0
IsConfigurationIn (compared_for whom) lines text =
    (text ≡ configuration_in lines) ⊎ (text ≡ second_configuration lines)
IsConfigurationIn form lines text = text ≡ configuration_in lines

-- such a configuration, where a line `%%` ends it
abbrev pub IsWholeIn : LineForm → List (List ℕ) → List ℕ → Type 0
IsWholeIn (compared_for whom) lines text =
    ((are_divided lines ≡ true) × (text ≡ configuration_in lines))
    ⊎ ((are_four lines ≡ true) × (text ≡ second_configuration lines))
IsWholeIn form lines text = (are_divided lines ≡ true) × (text ≡ configuration_in lines)

-- a line is too long, or a configuration, or there are too many lines
abbrev pub ArePastLimits : LineForm → List (List ℕ) → Type 0
ArePastLimits form lines =
    (list_any (λ line. nat_lt MOST_INPUT (length line)) lines ≡ true)
    ⊎ (((text : List ℕ) × IsConfigurationIn form lines text × (MOST_INPUT < length text))
    ⊎ (MOST_LINES < length lines))

-- No line is too long, and no configuration, and there are not too many lines.
pub record AreWithin (form : LineForm) (lines : List (List ℕ)) : Type 0 where
  pub short : list_any (λ line. nat_lt MOST_INPUT (length line)) lines ≡ false
  pub texts : (text : List ℕ) → IsConfigurationIn form lines text → length text ≤ MOST_INPUT
  pub few : length lines ≤ MOST_LINES

-- what a fault of lines that ends the day says of all lines of the input
abbrev pub IsLiveFault : LineForm → ProgramFault → List (List ℕ) → Type 0
IsLiveFault form Memory lines = Unit {0}
IsLiveFault form Write lines = Unit {0}
IsLiveFault form Input lines = ArePastLimits form lines
IsLiveFault form Parts lines = are_whole form lines ≡ false
IsLiveFault form (Config fault) lines =
    (text : List ℕ) × IsWholeIn form lines text × (venue_of text ≡ Err (Config fault))
IsLiveFault form Firm lines =
    (text : List ℕ) × IsWholeIn form lines text
    × ((config : ConfigValues) × (venue_of text ≡ Ok config) × (name_fault form config ≡ Some Firm))
IsLiveFault form fault lines = ⊥

-- where a writer may refuse: behind any line where each is answered, and else at the end alone,
-- since all is printed there
abbrev pub IsPrinting : LineForm → List (List ℕ) → Type 0
IsPrinting (answered form) rest = Unit {0}
IsPrinting (kept_for sought) rest = rest ≡ []
IsPrinting (compared_for whom) rest = rest ≡ []

-- Where a fault ends the day no line before it is left out: with the next line the fault is there,
-- and `parts` is told at the end alone. Memory may be refused anywhere.
abbrev pub Reaches : LineForm → ProgramFault → List (List ℕ) → List (List ℕ) → Type 0
Reaches form Memory lines rest = Unit {0}
Reaches form Write lines rest = IsPrinting form rest
Reaches form Parts lines rest = rest ≡ []
Reaches form fault lines rest = IsLiveFault form fault (lines ++ take 1 rest)

-- A fault ends the day after whole lines, which were answered, all up to the fault.
pub record EndsDay (form : LineForm) (fault : ProgramFault) (all : List (List ℕ))
    (out err : Written) : Type 0 where
  pub is_fault : IsLiveFault form fault all
  pub lines : List (List ℕ)
  pub rest : List (List ℕ)
  pub split : all ≡ lines ++ rest
  pub reached : Reaches form fault lines rest
  pub left : Leaves form fault lines out err

-- the lines of bytes that have their line feed: as many as there are line feeds
abbrev pub ended_lines : List ℕ → List (List ℕ)
ended_lines bytes = take (count_by (λ c. c == 10) bytes) (lines_of bytes)

-- The input can't be read on: what was got of it are all of its bytes but those that are left, and
-- exactly the lines that ended in them were answered.
pub record EndsInRead (form : LineForm) (input : List ℕ) (left : Option (List ℕ))
    (out err : Written) : Type 0 where
  pub got : List ℕ
  pub rest : List ℕ
  pub split : input ≡ got ++ rest
  pub is_left : left ≡ Some rest
  pub answered : HasAnswered form (ended_lines got) out err

-- How a fault ends the day, by the bytes of the input, and by what is left of them for `read`.
abbrev pub EndsWith : LineForm → ProgramFault → List ℕ → Option (List ℕ) → Written → Written → Type 0
EndsWith form Read input left out err = EndsInRead form input left out err
EndsWith form fault input left out err = EndsDay form fault (lines_of input) out err

-- the same, and the fault was told behind the others
pub record EndsInLiveFault (form : LineForm) (argument input : List ℕ) (streams : Streams)
    : Type 0 where
  pub fault : ProgramFault
  pub mid : Option (List ℕ)
  pub ends : EndsWith form fault input streams.left streams.out
      (record { before = streams.err.before; after = mid })
  pub told : GainsPart (told_line argument fault)
      (record { before = mid; after = streams.err.after })

-- all lines of the input were answered
abbrev pub EndsInAnswers : LineForm → List (List ℕ) → Written → Written → Type 0
EndsInAnswers (compared_for whom) all out err =
    (text : List ℕ) × HasCompared whom all text err × Gains text out
EndsInAnswers form all out err =
    (config : Configuration) × TakesDay form config all (whole_text form config all) out err

-- How a run ends over an input: with status 0 and all of its answers, where no limit is passed, or
-- with status 1 behind some of them.
abbrev pub EndsOver : LineForm → List ℕ → List ℕ → ℕ → Streams → Type 0
EndsOver form argument input status streams =
    ((status ≡ 0) × AreWithin form (lines_of input)
    × EndsInAnswers form (lines_of input) streams.out streams.err)
    ⊎ ((status ≡ 1) × EndsInLiveFault form argument input streams)

-- The same where the input is known.
abbrev pub EndsInLive : LineForm → List ℕ → ℕ → Streams → Type 0
EndsInLive form argument status streams =
    ((status ≡ 0) ⊎ (status ≡ 1))
    × IfSome streams.input (λ all. EndsOver form argument all status streams)
