-- Worked days of a venue, each with every message that each firm is sent, written down beforehand.
use Prim.Native.String.{String}
use Rattle.std.specs.Prelude.{ℕ, List, [], ◌∷◌, ◌++◌, map, codes}
use Rattle.bond_prices.specs.Band.{whole_band}
use Rattle.market_terms.specs.declared.asks.Side.TheVariants.{Buy}
use Rattle.market_terms.specs.declared.closes.Close.TheVariants.{Hit}
use Rattle.step_replay.specs.AuditTrail.{audit_trail, sent_to, due_to}
use Rattle.step_replay.specs.declared.dues.Due.{Due}
use Rattle.step_replay.specs.declared.dues.Due.TheVariants as due
use Rattle.venue_steps.specs.declared.actors.Actor.TheVariants as actor
use Rattle.laws_days.specs.WorkedVenue.{dlr1_of_one_quote, inv1_of_one_request, venue_of, venue}
use Rattle.laws_days.specs.WorkedParts.{moment, message, say, turns, turn, expire, line}
use Rattle.laws_days.specs.WorkedParts.{written_from, Day, asks_two, asks_three, first_quotes}
use Rattle.laws_days.specs.WorkedParts.{second_quotes, both_quoted, shown, taken, offered_first}
use Rattle.laws_days.specs.WorkedParts.{offered_second, quoted_first, quoted_second, told}

-- what each firm is sent by the definitions, the dealers and then the investors
abbrev pub sent_in : Day → List (List (List ℕ))
sent_in day =
    map (λ number. sent_to day.config number (audit_trail day.config day.steps))
    (0 ∷ 1 ∷ 2 ∷ 3 ∷ 4 ∷ [])

-- what is written down
abbrev pub wanted_in : Day → List (List (List ℕ))
wanted_in day =
    written_from 1 "DLR1" day.dlr1
    ∷ written_from 1 "DLR2" day.dlr2
    ∷ written_from 1 "DLR3" day.dlr3
    ∷ written_from 1 "INV1" day.inv1
    ∷ []
    ∷ []

-- The days.

-- INV1 hits the quote of DLR1; the quote of DLR2 is the cover.
abbrev pub auction : Day
auction = record {
  config = venue;
  steps = both_quoted ++ say "INV1" "T8" "09:01:00" "AJ" 2 "693=h1|117=Q1|694=1" ∷ turn "INV1" 4;
  dlr1 = shown ∷ quoted_first
      ∷ told "09:01:00.000" "693=N1|131=R1|117=a1|694=1|55=[N/A]|48=BONDA0000001|22=4|54=1|38=2000000|133=99.50390625"
      ∷ [];
  dlr2 = shown ∷ quoted_second
      ∷ told "09:01:00.000" "693=N1|131=R1|694=4|55=[N/A]|48=BONDA0000001|22=4|54=1|38=2000000"
      ∷ [];
  dlr3 = [];
  inv1 = taken ∷ offered_first ∷ offered_second
      ∷ line "09:01:00.000" "AI" "693=h1|131=A|117=Q1|297=0" ∷ [];
}

-- Of two equal prices the one that was posted earlier is the cover.
abbrev pub tie : Day
tie = record {
  config = venue;
  steps = asks_three
      ++ say "DLR3" "T3" "09:00:10" "S" 1 "117=c1|131=R1|48=BONDA0000001|22=4|133=99.5"
      ∷ turn "DLR3" 2
      ++ say "DLR2" "T2" "09:00:20" "S" 1 "117=b1|131=R1|48=BONDA0000001|22=4|133=99.515625"
      ∷ turn "DLR2" 2
      ++ say "DLR1" "T1" "09:00:30" "S" 1 "117=a1|131=R1|48=BONDA0000001|22=4|133=99.515625"
      ∷ turn "DLR1" 2
      ++ say "INV1" "T8" "09:01:00" "AJ" 2 "693=h1|117=Q1|694=1" ∷ turn "INV1" 5;
  dlr1 = shown ∷ line "09:00:30.000" "AI" "131=R1|117=a1|297=0"
      ∷ told "09:01:00.000" "693=N1|131=R1|694=5|55=[N/A]|48=BONDA0000001|22=4|54=1|38=2000000"
      ∷ [];
  dlr2 = shown ∷ line "09:00:20.000" "AI" "131=R1|117=b1|297=0"
      ∷ told "09:01:00.000" "693=N1|131=R1|694=4|55=[N/A]|48=BONDA0000001|22=4|54=1|38=2000000"
      ∷ [];
  dlr3 = shown ∷ line "09:00:10.000" "AI" "131=R1|117=c1|297=0"
      ∷ told "09:01:00.000" "693=N1|131=R1|117=c1|694=1|55=[N/A]|48=BONDA0000001|22=4|54=1|38=2000000|133=99.5"
      ∷ [];
  inv1 = taken
      ∷ line "09:00:10.000" "S" "131=A|117=Q1|55=[N/A]|48=BONDA0000001|22=4|54=1|133=99.5|135=2000000|537=1|453=1|448=DLR3|447=D|452=35"
      ∷ line "09:00:20.000" "S" "131=A|117=Q2|55=[N/A]|48=BONDA0000001|22=4|54=1|133=99.515625|135=2000000|537=1|453=1|448=DLR2|447=D|452=35"
      ∷ line "09:00:30.000" "S" "131=A|117=Q3|55=[N/A]|48=BONDA0000001|22=4|54=1|133=99.515625|135=2000000|537=1|453=1|448=DLR1|447=D|452=35"
      ∷ line "09:01:00.000" "AI" "693=h1|131=A|117=Q1|297=0"
      ∷ [];
}

-- A dealer that did not quote is told that the request was done away, and no price.
abbrev pub done_away : Day
done_away = record {
  config = venue;
  steps = asks_three ++ first_quotes ++ second_quotes
      ++ say "INV1" "T8" "09:01:00" "AJ" 2 "693=h1|117=Q2|694=1" ∷ turn "INV1" 5;
  dlr1 = shown ∷ quoted_first
      ∷ told "09:01:00.000" "693=N1|131=R1|694=4|55=[N/A]|48=BONDA0000001|22=4|54=1|38=2000000"
      ∷ [];
  dlr2 = shown ∷ quoted_second
      ∷ told "09:01:00.000" "693=N1|131=R1|117=b1|694=1|55=[N/A]|48=BONDA0000001|22=4|54=1|38=2000000|133=99.515625"
      ∷ [];
  dlr3 = shown
      ∷ told "09:01:00.000" "693=N1|131=R1|694=5|55=[N/A]|48=BONDA0000001|22=4|54=1|38=2000000"
      ∷ [];
  inv1 = taken ∷ offered_first ∷ offered_second
      ∷ line "09:01:00.000" "AI" "693=h1|131=A|117=Q2|297=0" ∷ [];
}

-- DLR1 cancels between the exchange and its notice: its quote is lifted, and it is told so at once.
-- Its second cancel asks no word.
abbrev pub cancelled_too_late : Day
cancelled_too_late = record {
  config = venue;
  steps = both_quoted ++ say "INV1" "T8" "09:01:00" "AJ" 2 "693=h1|117=Q1|694=1" ∷ turn "INV1" 1
      ++ say "DLR1" "T1" "09:01:01" "Z" 2 "298=5|117=a1" ∷ turn "INV1" 3
      ++ say "DLR1" "T1" "09:01:02" "Z" 3 "298=5|117=a1" ∷ [];
  dlr1 = shown ∷ quoted_first
      ∷ line "09:01:01.000" "AI" "117=a1|297=5|300=4"
      ∷ told "09:01:00.000" "693=N1|131=R1|117=a1|694=1|55=[N/A]|48=BONDA0000001|22=4|54=1|38=2000000|133=99.50390625"
      ∷ line "09:01:02.000" "AI" "117=a1|297=5|300=4"
      ∷ [];
  dlr2 = shown ∷ quoted_second
      ∷ told "09:01:00.000" "693=N1|131=R1|694=4|55=[N/A]|48=BONDA0000001|22=4|54=1|38=2000000"
      ∷ [];
  dlr3 = [];
  inv1 = taken ∷ offered_first ∷ offered_second
      ∷ line "09:01:00.000" "AI" "693=h1|131=A|117=Q1|297=0" ∷ [];
}

-- DLR1 withdraws before INV1 hits its quote, and INV1 hits the other one.
abbrev pub withdrawn_before_the_hit : Day
withdrawn_before_the_hit = record {
  config = venue;
  steps = both_quoted ++ say "DLR1" "T1" "09:00:30" "Z" 2 "298=5|117=a1"
      ∷ say "INV1" "T8" "09:01:00" "AJ" 2 "693=h1|117=Q1|694=1" ∷ turn "INV1" 2 ++ turn "DLR1" 2
      ++ say "INV1" "T8" "09:01:10" "AJ" 3 "693=h2|117=Q2|694=1" ∷ turn "INV1" 4;
  dlr1 = shown ∷ quoted_first ∷ line "09:00:30.000" "AI" "117=a1|297=17"
      ∷ told "09:01:10.000" "693=N1|131=R1|694=5|55=[N/A]|48=BONDA0000001|22=4|54=1|38=2000000"
      ∷ [];
  dlr2 = shown ∷ quoted_second
      ∷ told "09:01:10.000" "693=N1|131=R1|117=b1|694=1|55=[N/A]|48=BONDA0000001|22=4|54=1|38=2000000|133=99.515625"
      ∷ [];
  dlr3 = [];
  inv1 = taken ∷ offered_first ∷ offered_second
      ∷ line "09:01:00.000" "AI" "693=h1|131=A|117=Q1|297=5|300=4|58=Withdrawn"
      ∷ line "09:00:30.000" "AI" "131=A|117=Q1|297=17"
      ∷ line "09:01:10.000" "AI" "693=h2|131=A|117=Q2|297=0"
      ∷ [];
}

-- A sweep ends no opening room, none before its deadline, and none that has ended or is vacant.
abbrev pub sweeps : Day
sweeps = record {
  config = venue;
  steps = asks_two ++ turn "INV1" 1 ++ expire "INV1" 1 32700000 ∷ turn "INV1" 3
      ++ expire "INV1" 1 32699999 ∷ expire "INV1" 1 32700000 ∷ turns actor.Clock 3
      ++ expire "INV1" 1 32760000 ∷ expire "INV1" 2 32760000 ∷ turns actor.Clock 1;
  dlr1 = shown
      ∷ told "09:05:00.000" "693=N1|131=R1|694=3|55=[N/A]|48=BONDA0000001|22=4|54=1|38=2000000"
      ∷ [];
  dlr2 = shown
      ∷ told "09:05:00.000" "693=N1|131=R1|694=3|55=[N/A]|48=BONDA0000001|22=4|54=1|38=2000000"
      ∷ [];
  dlr3 = [];
  inv1 = taken ∷ line "09:05:00.000" "AI" "131=A|297=7" ∷ [];
}

-- A hit at the deadline's own moment is too late.
abbrev pub hit_at_the_deadline : Day
hit_at_the_deadline = record {
  config = venue;
  steps = both_quoted ++ say "INV1" "T8" "09:05:00" "AJ" 2 "693=h1|117=Q1|694=1" ∷ turn "INV1" 2;
  dlr1 = shown ∷ quoted_first ∷ [];
  dlr2 = shown ∷ quoted_second ∷ [];
  dlr3 = [];
  inv1 = taken ∷ offered_first ∷ offered_second
      ∷ line "09:05:00.000" "AI" "693=h1|131=A|117=Q1|297=5|300=4|58=Deadline" ∷ [];
}

-- The quotes of a dealer's day and the requests of an investor's are used up. A turn of an actor
-- that has nothing to do does nothing.
abbrev pub used_up : Day
used_up = record {
  config = venue_of dlr1_of_one_quote inv1_of_one_request;
  steps = asks_two ++ turn "INV1" 4 ++ first_quotes
      ++ say "DLR1" "T1" "09:00:30" "S" 2 "117=a2|131=R1|48=BONDA0000001|22=4|133=99"
      ∷ say "INV1" "T8" "09:00:00" "R" 2
      "131=B|146=1|48=BONDA0000001|22=4|54=1|38=2000000|126=20250314-09:05:00|453=2|448=DLR1|447=D|452=35|448=DLR2|447=D|452=35"
      ∷ say "INV1" "T8" "09:00:00" "R" 3
      "131=A|146=1|48=BONDA0000001|22=4|54=1|38=2000000|126=20250314-09:05:00|453=2|448=DLR1|447=D|452=35|448=DLR2|447=D|452=35"
      ∷ turn "DLR2" 5;
  dlr1 = shown ∷ quoted_first ∷ line "09:00:30.000" "AI" "131=R1|117=a2|297=5|300=3" ∷ [];
  dlr2 = shown ∷ [];
  dlr3 = [];
  inv1 = taken ∷ offered_first
      ∷ line "09:00:00.000" "AG" "131=B|658=3|146=1|55=[N/A]|48=BONDA0000001|22=4"
      ∷ line "09:00:00.000" "AG" "131=A|658=99|146=1|55=[N/A]|48=BONDA0000001|22=4"
      ∷ [];
}

-- DLR2 declines, and INV1 passes.
abbrev pub passed : Day
passed = record {
  config = venue;
  steps = asks_two ++ turn "INV1" 4 ++ first_quotes
      ++ say "DLR2" "T2" "09:00:20" "AG" 1 "131=R1|658=10" ∷ turn "DLR2" 2
      ++ say "INV1" "T8" "09:01:00" "AJ" 2 "693=p1|694=6|131=A" ∷ turn "INV1" 4;
  dlr1 = shown ∷ quoted_first
      ∷ told "09:01:00.000" "693=N1|131=R1|694=6|55=[N/A]|48=BONDA0000001|22=4|54=1|38=2000000"
      ∷ [];
  dlr2 = shown ∷ line "09:00:20.000" "AI" "131=R1|297=11"
      ∷ told "09:01:00.000" "693=N1|131=R1|694=6|55=[N/A]|48=BONDA0000001|22=4|54=1|38=2000000"
      ∷ [];
  dlr3 = [];
  inv1 = taken ∷ offered_first
      ∷ line "09:00:20.000" "AI" "131=A|297=11|453=1|448=DLR2|447=D|452=35"
      ∷ line "09:01:00.000" "AI" "693=p1|131=A|297=11"
      ∷ [];
}

-- DLR1 cancels all its quotes: the one is dropped, and leaves its room.
abbrev pub cancelled_all : Day
cancelled_all = record {
  config = venue;
  steps = both_quoted ++ say "DLR1" "T1" "09:00:30" "Z" 2 "298=4" ∷ turn "DLR1" 3;
  dlr1 = shown ∷ quoted_first ∷ line "09:00:30.000" "AI" "117=a1|297=17" ∷ [];
  dlr2 = shown ∷ quoted_second ∷ [];
  dlr3 = [];
  inv1 = taken ∷ offered_first ∷ offered_second
      ∷ line "09:00:30.000" "AI" "131=A|117=Q1|297=17" ∷ [];
}

-- DLR1 cancels all its quotes, and INV1 hits the one before it is dropped: the drop finds it lifted.
-- Its report bears the moment of the cancel.
abbrev pub dropped_too_late : Day
dropped_too_late = record {
  config = venue;
  steps = both_quoted ++ say "DLR1" "T1" "09:00:30" "Z" 2 "298=4"
      ∷ say "INV1" "T8" "09:01:00" "AJ" 2 "693=h1|117=Q1|694=1" ∷ turn "INV1" 1 ++ turn "DLR1" 2
      ++ turn "INV1" 3;
  dlr1 = shown ∷ quoted_first ∷ line "09:00:30.000" "AI" "117=a1|297=5|300=4"
      ∷ told "09:01:00.000" "693=N1|131=R1|117=a1|694=1|55=[N/A]|48=BONDA0000001|22=4|54=1|38=2000000|133=99.50390625"
      ∷ [];
  dlr2 = shown ∷ quoted_second
      ∷ told "09:01:00.000" "693=N1|131=R1|694=4|55=[N/A]|48=BONDA0000001|22=4|54=1|38=2000000"
      ∷ [];
  dlr3 = [];
  inv1 = taken ∷ offered_first ∷ offered_second
      ∷ line "09:01:00.000" "AI" "693=h1|131=A|117=Q1|297=0" ∷ [];
}

-- all of them
abbrev pub worked_days : List Day
worked_days =
    auction ∷ tie ∷ done_away ∷ cancelled_too_late ∷ withdrawn_before_the_hit ∷ sweeps
    ∷ hit_at_the_deadline ∷ used_up ∷ passed ∷ cancelled_all ∷ dropped_too_late ∷ []

-- What is due to DLR1.

-- by the definitions
abbrev pub due_in : Day → List Due
due_in day = due_to 0 (audit_trail day.config day.steps)

-- the request that it is shown
abbrev pub request_shown : Due
request_shown = due.Shown
    (record {
      investor = codes "INV1";
      bond = codes "BONDA0000001";
      side = Buy;
      quantity = 2000000;
      deadline = 32700000;
      grid = 256;
      band = whole_band;
    })
    (moment "09:00:00")

-- its quote
abbrev pub quote_sent : Due
quote_sent = due.Own (moment "09:00:10")
    (message "DLR1" "T1" "09:00:10" "S" 1
    "117=a1|131=R1|48=BONDA0000001|22=4|133=99.50390625")

-- a cancel, in these words
abbrev pub cancel_sent : String → String → Due
cancel_sent time body = due.Own (moment time) (message "DLR1" "T1" time "Z" 2 body)

-- in the day on which it cancels too late, up to its second cancel
abbrev pub wanted_too_late : List Due
wanted_too_late =
    request_shown ∷ quote_sent ∷ due.Lifted 1 ∷ cancel_sent "09:01:01" "298=5|117=a1"
    ∷ due.Closed 1 Hit (moment "09:01:00")
    ∷ due.Own (moment "09:01:02") (message "DLR1" "T1" "09:01:02" "Z" 3 "298=5|117=a1")
    ∷ []

-- in the day on which it cancels all
abbrev pub wanted_cancelled_all : List Due
wanted_cancelled_all =
    request_shown ∷ quote_sent ∷ cancel_sent "09:00:30" "298=4" ∷ due.Drop 1 (moment "09:00:30") ∷ []
