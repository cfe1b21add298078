-- What the worked days are written in: texts, times, steps and messages, and the parts that several
-- of them share.
use Prim.Native.String.{String}
use Rattle.std.specs.Prelude.{ℕ, zero, suc, ◌+◌, ◌*◌, ◌==◌, List, [], ◌∷◌, ◌++◌, map, take, drop}
use Rattle.std.specs.Prelude.{codes, decimal, Option, Some, None, if◌then◌else◌}
use Rattle.std.specs.Str.Parse.{digits_value}
use Rattle.fix_fields.specs.Frame.{fields_of, frame_text}
use Rattle.venue_rows.specs.Rows.{Configuration, firm_number}
use Rattle.venue_steps.specs.declared.actors.Actor.{Actor}
use Rattle.venue_steps.specs.declared.actors.Actor.TheVariants as actor
use Rattle.step_replay.specs.declared.steps.Step.{Step}
use Rattle.step_replay.specs.declared.steps.Step.TheVariants as step
use Rattle.laws_days.specs.WorkedVenue.{venue}

-- Texts. A vertical bar stands for the byte 0x01.

-- a text with these bytes
abbrev pub with_soh : List ℕ → List ℕ
with_soh text = map (λ code. if code == 124 then 1 else code) text

-- the frame of the fields of a text
abbrev pub framed : List ℕ → List ℕ
framed text = frame_text (fields_of (with_soh text))

-- two digits of a text, from a place on
abbrev pub two_digits : ℕ → List ℕ → ℕ
two_digits place text = digits_value 10 (take 2 (drop place text))

-- the moment that `HH:MM:SS` spells, in milliseconds of the day
abbrev pub moment : String → ℕ
moment time =
    (two_digits 0 (codes time) * 3600 + two_digits 3 (codes time) * 60 + two_digits 6 (codes time))
    * 1000

-- Steps.

-- a number, where there is one
abbrev pub found : Option ℕ → ℕ
found None = 99
found (Some number) = number

-- the number of a firm
abbrev pub firm : String → ℕ
firm name = found (firm_number venue (codes name))

-- the bytes of a message of a firm's trader, with this MsgSeqNum (34)
abbrev pub message : String → String → String → String → ℕ → String → List ℕ
message name trader time type number body = framed
    (codes "35=" ++ codes type ++ codes "|49=" ++ codes name ++ codes "|56=VENUE|34="
    ++ decimal number ++ codes "|52=20250314-" ++ codes time ++ codes "|50=" ++ codes trader
    ++ codes "|" ++ codes body ++ codes "|")

-- it comes at its own time
abbrev pub say : String → String → String → String → ℕ → String → Step
say name trader time type number body =
    step.In (firm name) (moment time) (message name trader time type number body)

-- so many turns of an actor
abbrev pub turns : Actor → ℕ → List Step
turns by zero = []
turns by (suc more) = step.Turn by ∷ turns by more

-- so many turns of a firm
abbrev pub turn : String → ℕ → List Step
turn name count = turns (actor.Firm (firm name)) count

-- a sweep of the room of a request
abbrev pub expire : String → ℕ → ℕ → Step
expire name number moment = step.Expire (record { investor = firm name; n = number }) moment

-- What is sent.

-- a message that a firm is sent: its time, its type, and its fields behind the header
pub record Line : Type 0 where
  pub time : String
  pub type : String
  pub body : String

abbrev pub line : String → String → String → Line
line time type body = record { time = time; type = type; body = body }

-- the bytes of messages to a firm, numbered from this number on
abbrev pub written_from : ℕ → String → List Line → List (List ℕ)
written_from number name [] = []
written_from number name (next ∷ lines) =
    framed (codes "35=" ++ codes next.type ++ codes "|49=VENUE|56=" ++ codes name ++ codes "|34="
    ++ decimal number ++ codes "|52=20250314-" ++ codes next.time ++ codes "|"
    ++ codes next.body ++ codes "|")
    ∷ written_from (number + 1) name lines

-- a day: its venue, its steps, and what each firm but the last is sent, to which nothing is sent
pub record Day : Type 0 where
  pub config : Configuration
  pub steps : List Step
  pub dlr1 : List Line
  pub dlr2 : List Line
  pub dlr3 : List Line
  pub inv1 : List Line

-- Parts of days.

-- INV1 asks two dealers to sell it 2,000,000 of the first bond until 09:05
abbrev pub asks_two : List Step
asks_two =
    say "INV1" "T8" "09:00:00" "R" 1
    "131=A|146=1|48=BONDA0000001|22=4|54=1|38=2000000|126=20250314-09:05:00|453=2|448=DLR1|447=D|452=35|448=DLR2|447=D|452=35"
    ∷ []

-- it asks all three
abbrev pub asks_three : List Step
asks_three =
    say "INV1" "T8" "09:00:00" "R" 1
    "131=A|146=1|48=BONDA0000001|22=4|54=1|38=2000000|126=20250314-09:05:00|453=3|448=DLR1|447=D|452=35|448=DLR2|447=D|452=35|448=DLR3|447=D|452=35"
    ∷ turn "INV1" 5

-- DLR1 quotes at 09:00:10, and DLR2 at 09:00:20, and each quote is posted and shown
abbrev pub first_quotes : List Step
first_quotes =
    say "DLR1" "T1" "09:00:10" "S" 1 "117=a1|131=R1|48=BONDA0000001|22=4|133=99.50390625"
    ∷ turn "DLR1" 2

abbrev pub second_quotes : List Step
second_quotes =
    say "DLR2" "T2" "09:00:20" "S" 1 "117=b1|131=R1|48=BONDA0000001|22=4|133=99.515625"
    ∷ turn "DLR2" 2

-- both dealers are asked, and both have quoted
abbrev pub both_quoted : List Step
both_quoted = asks_two ++ turn "INV1" 4 ++ first_quotes ++ second_quotes

-- what a dealer is shown
abbrev pub shown : Line
shown = line "09:00:00.000" "R"
    "131=R1|146=1|55=[N/A]|48=BONDA0000001|22=4|54=1|38=2000000|126=20250314-09:05:00.000|453=1|448=INV1|447=D|452=13"

-- how INV1's request is taken
abbrev pub taken : Line
taken = line "09:00:00.000" "AI" "131=A|297=0"

-- a quote as INV1 is shown it
abbrev pub offered_first : Line
offered_first = line "09:00:10.000" "S"
    "131=A|117=Q1|55=[N/A]|48=BONDA0000001|22=4|54=1|133=99.50390625|135=2000000|537=1|453=1|448=DLR1|447=D|452=35"

abbrev pub offered_second : Line
offered_second = line "09:00:20.000" "S"
    "131=A|117=Q2|55=[N/A]|48=BONDA0000001|22=4|54=1|133=99.515625|135=2000000|537=1|453=1|448=DLR2|447=D|452=35"

-- a dealer's quote is taken
abbrev pub quoted_first : Line
quoted_first = line "09:00:10.000" "AI" "131=R1|117=a1|297=0"

abbrev pub quoted_second : Line
quoted_second = line "09:00:20.000" "AI" "131=R1|117=b1|297=0"

-- how a dealer's first request ended for it, in these words
abbrev pub told : String → String → Line
told time words = line time "AJ" words
