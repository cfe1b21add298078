-- A worked day of a venue of its own, with a fourth dealer: a request is awarded among four quotes. What
-- each firm is sent is written down beforehand.
use Prim.Native.String.{String}
use Rattle.std.specs.Prelude.{ℕ, List, [], ◌∷◌, ◌++◌, map, codes}
use Rattle.std.proofs.Common.{arith}
use Rattle.venue_rows.specs.Rows.{Configuration, firm_number}
use Rattle.venue_rows.specs.declared.dealer_rows.DealerRow.{DealerRow}
use Rattle.venue_steps.specs.declared.actors.Actor.TheVariants as actor
use Rattle.step_replay.specs.AuditTrail.{audit_trail, sent_to}
use Rattle.step_replay.specs.declared.steps.Step.{Step}
use Rattle.step_replay.specs.declared.steps.Step.TheVariants as step
use Rattle.laws_days.specs.WorkedVenue.{bond, dlr1, dlr2, dlr3, inv1, inv2}
use Rattle.laws_days.specs.WorkedParts.{found, line, message, moment, offered_first, offered_second}
use Rattle.laws_days.specs.WorkedParts.{quoted_first, quoted_second, shown, taken, told, turns}
use Rattle.laws_days.specs.WorkedParts.{written_from}

-- the fourth dealer
abbrev pub dlr4 : DealerRow
dlr4 = record {
  name = codes "DLR4";
  traders = codes "T4" ∷ [];
  quotes = 4;
  exposure = 10000000;
  has_trader = omega arith;
  quotes_from = omega arith;
  quotes_to = omega arith;
  exposure_from = omega arith;
  exposure_to = omega arith;
}

-- four dealers, two investors, two bonds
abbrev pub venue_of_four : Configuration
venue_of_four = record {
  date = codes "20250314";
  bonds = bond "BONDA0000001" ∷ bond "BONDB0000002" ∷ [];
  dealers = dlr1 ∷ dlr2 ∷ dlr3 ∷ dlr4 ∷ [];
  investors = inv1 ∷ inv2 ∷ [];
}

-- the number of a firm, a message of its trader that comes at its own time, and turns of it
abbrev pub firm : String → ℕ
firm name = found (firm_number venue_of_four (codes name))

abbrev pub say : String → String → String → String → ℕ → String → Step
say name trader time type number body =
    step.In (firm name) (moment time) (message name trader time type number body)

abbrev pub turn : String → ℕ → List Step
turn name count = turns (actor.Firm (firm name)) count

-- INV1 asks all four to sell it 2,000,000 of the first bond. Each quotes: DLR3 and DLR4 at one price,
-- which is the best. INV1 hits the quote of DLR2, which is the worst: the cover is the earlier of the
-- best two.
abbrev pub four_quotes : List Step
four_quotes =
    say "INV1" "T8" "09:00:00" "R" 1
    "131=A|146=1|48=BONDA0000001|22=4|54=1|38=2000000|126=20250314-09:05:00|453=4|448=DLR1|447=D|452=35|448=DLR2|447=D|452=35|448=DLR3|447=D|452=35|448=DLR4|447=D|452=35"
    ∷ turn "INV1" 6
    ++ say "DLR1" "T1" "09:00:10" "S" 1 "117=a1|131=R1|48=BONDA0000001|22=4|133=99.50390625"
    ∷ turn "DLR1" 2
    ++ say "DLR2" "T2" "09:00:20" "S" 1 "117=b1|131=R1|48=BONDA0000001|22=4|133=99.515625"
    ∷ turn "DLR2" 2
    ++ say "DLR3" "T3" "09:00:30" "S" 1 "117=c1|131=R1|48=BONDA0000001|22=4|133=99.5"
    ∷ turn "DLR3" 2
    ++ say "DLR4" "T4" "09:00:40" "S" 1 "117=d1|131=R1|48=BONDA0000001|22=4|133=99.5"
    ∷ turn "DLR4" 2
    ++ say "INV1" "T8" "09:01:00" "AJ" 2 "693=h1|117=Q2|694=1" ∷ turn "INV1" 6

-- what each firm is sent by the definitions, the dealers and then the investors
abbrev pub sent_to_each : List (List (List ℕ))
sent_to_each =
    map (λ number. sent_to venue_of_four number (audit_trail venue_of_four four_quotes))
    (0 ∷ 1 ∷ 2 ∷ 3 ∷ 4 ∷ 5 ∷ [])

-- what is written down
abbrev pub wanted_by_each : List (List (List ℕ))
wanted_by_each =
    written_from 1 "DLR1" (shown ∷ quoted_first
    ∷ told "09:01:00.000" "693=N1|131=R1|694=5|55=[N/A]|48=BONDA0000001|22=4|54=1|38=2000000"
    ∷ [])
    ∷ written_from 1 "DLR2" (shown ∷ quoted_second
    ∷ told "09:01:00.000" "693=N1|131=R1|117=b1|694=1|55=[N/A]|48=BONDA0000001|22=4|54=1|38=2000000|133=99.515625"
    ∷ [])
    ∷ written_from 1 "DLR3" (shown ∷ line "09:00:30.000" "AI" "131=R1|117=c1|297=0"
    ∷ told "09:01:00.000" "693=N1|131=R1|694=4|55=[N/A]|48=BONDA0000001|22=4|54=1|38=2000000"
    ∷ [])
    ∷ written_from 1 "DLR4" (shown ∷ line "09:00:40.000" "AI" "131=R1|117=d1|297=0"
    ∷ told "09:01:00.000" "693=N1|131=R1|694=5|55=[N/A]|48=BONDA0000001|22=4|54=1|38=2000000"
    ∷ [])
    ∷ written_from 1 "INV1" (taken ∷ offered_first ∷ offered_second
    ∷ line "09:00:30.000" "S" "131=A|117=Q3|55=[N/A]|48=BONDA0000001|22=4|54=1|133=99.5|135=2000000|537=1|453=1|448=DLR3|447=D|452=35"
    ∷ line "09:00:40.000" "S" "131=A|117=Q4|55=[N/A]|48=BONDA0000001|22=4|54=1|133=99.5|135=2000000|537=1|453=1|448=DLR4|447=D|452=35"
    ∷ line "09:01:00.000" "AI" "693=h1|131=A|117=Q2|297=0"
    ∷ [])
    ∷ []
    ∷ []
