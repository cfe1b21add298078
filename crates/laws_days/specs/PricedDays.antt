-- Two worked days that are one but for the price of DLR2: which of DLR1 and DLR2 is the cover.
use Prim.Native.String.{String}
use Rattle.std.specs.Prelude.{List, [], ◌∷◌, ◌++◌}
use Rattle.market_terms.specs.declared.closes.Close.{Close}
use Rattle.step_replay.specs.AuditTrail.{audit_trail, due_to}
use Rattle.step_replay.specs.declared.dues.Due.{Due}
use Rattle.step_replay.specs.declared.dues.Due.TheVariants as due
use Rattle.step_replay.specs.declared.steps.Step.{Step}
use Rattle.laws_days.specs.WorkedDays.{request_shown, quote_sent}
use Rattle.laws_days.specs.WorkedParts.{say, turn, moment, asks_three, first_quotes}
use Rattle.laws_days.specs.WorkedVenue.{venue}

-- the quote of DLR2 above that of DLR1, and below it
abbrev pub dear : String
dear = "117=b1|131=R1|48=BONDA0000001|22=4|133=99.515625"

abbrev pub cheap : String
cheap = "117=b1|131=R1|48=BONDA0000001|22=4|133=99.5"

-- the day with this quote of DLR2, on which INV1 hits the quote of DLR3
abbrev pub day_with : String → List Step
day_with quote = asks_three
    ++ say "DLR3" "T3" "09:00:05" "S" 1 "117=c1|131=R1|48=BONDA0000001|22=4|133=99.25"
    ∷ turn "DLR3" 2
    ++ first_quotes
    ++ say "DLR2" "T2" "09:00:20" "S" 1 quote
    ∷ turn "DLR2" 2
    ++ say "INV1" "T8" "09:01:00" "AJ" 2 "693=h1|117=Q1|694=1" ∷ turn "INV1" 5

-- what is due to DLR1 on it, by the definitions
abbrev pub due_with : String → List Due
due_with quote = due_to 0 (audit_trail venue (day_with quote))

-- what is written down, with how the request ended for DLR1
abbrev pub wanted_with : Close → List Due
wanted_with close = request_shown ∷ quote_sent ∷ due.Closed 1 close (moment "09:01:00") ∷ []
