-- The same of each row of the tables.
use Rattle.std.proofs.Common.{◌≡◌, ℕ, ◌≤◌, Bool, true, ◌==◌, ◌&&◌, ◌||◌, not, nat_lt, nat_le, List, Option, Some, None, arith}
use Rattle.std.proofs.lemmas.Bool.Decides.{nat_tests}
use Rattle.fix_sessions.specs.Outcomes.{stays, counted, counted_if, moved_to}
use Rattle.fix_sessions.specs.Logons.{is_off, is_today}
use Rattle.fix_sessions.specs.Rows.{again_from, heard_at, highest_left, asked_of, requested, requested_as, resets_to, missing_noted, above, is_after_sent, repeated_below, below, is_test_of, settled_by, tested, tests, fills, takes, by_kind, by_form, by_times, repeated, sent_once, expected_message, by_number, by_names, if_numbered, reset_in, unless_reset, by_version, at}
use Rattle.fix_sessions.specs.Steps.{came_as}
use Rattle.fix_sessions.specs.declared.messages.Heard.{Heard}
use Rattle.fix_sessions.specs.declared.messages.Heard.TheVariants as heard
use Rattle.fix_sessions.specs.declared.messages.Incoming.{Incoming}
use Rattle.fix_sessions.specs.declared.messages.Kind.{Kind}
use Rattle.fix_sessions.specs.declared.messages.Kind.TheVariants as kind
use Rattle.fix_sessions.specs.declared.messages.Origin.{Origin}
use Rattle.fix_sessions.specs.declared.messages.Reading.{Reading}
use Rattle.fix_sessions.specs.declared.messages.Reading.TheVariants as reading
use Rattle.fix_sessions.specs.declared.messages.TestId.{TestId}
use Rattle.fix_sessions.specs.declared.messages.TestId.TheVariants as test_id
use Rattle.fix_sessions.specs.declared.requests.Asked.{Asked}
use Rattle.fix_sessions.specs.declared.requests.Asked.TheVariants as asked
use Rattle.fix_sessions.specs.declared.state.Clock.{Clock}
use Rattle.fix_sessions.specs.declared.state.Line.{Line}
use Rattle.fix_sessions.specs.declared.state.Live.{Live}
use Rattle.fix_sessions.specs.declared.turns.Fault.{Fault}
use Rattle.fix_sessions.specs.declared.turns.Why.TheVariants as why
use Rattle.fix_sessions.specs.declared.turns.Word.TheVariants as word
use Rattle.laws_sessions.proofs.BoundedOutcomes.{Fits, answers_fit, both_counted_fit, counted_fits, counted_if_fits, denies_fit, leaves_fit, logs_out_fit, moved_fits, parts_fit, rejects_fit, stays_fit, up_to}
use Rattle.laws_sessions.proofs.Choices.{choice}
use Rattle.laws_sessions.specs.Bounds.{IsNumber, LineFits, TurnFits}
use Rattle.laws_sessions.proofs.BoundedAsked.{AskedFits, HeardFits, KindFits, MessageFits, OptionFits, ReadingFits, again_fits, asked_fit, highest_fits}

-- Rows 13 and 3.

requested_as_fit : (a : Live) (now : ℕ) (m : Origin) (wanted : Asked) → Fits a → a.day.expected ≤ 999999990
    → AskedFits wanted → TurnFits (requested_as a now m wanted)
requested_as_fit a now m (asked.Wrong fault) f low fits = rejects_fit a now m fault f low
requested_as_fit a now m (asked.Numbers first last) f low fits =
    let b = counted_if a now m.number in
    let g = counted_if_fits a now m.number f low in
    stays_fit (record b { line = again_from b.line first last })
    (record { day = g.day; line = again_fits b.line first last g.line fits.0 fits.1; room = g.room })

requested_fit : (a : Live) (now : ℕ) (m : Origin) (first last : Reading) → Fits a
    → a.day.expected ≤ 999999990 → TurnFits (requested a now m first last)
requested_fit a now m first last f low =
    requested_as_fit a now m (asked_of (highest_left a.line) first last) f low
    (asked_fit (highest_left a.line) first last (highest_fits a.line f.line))

resets_fit : (a : Live) (now : ℕ) (m : Origin) (next : Reading) → Fits a → a.day.expected ≤ 999999990
    → ReadingFits next → TurnFits (resets_to a now m next)
resets_fit a now m reading.Missing f low fits = rejects_fit a now m (at 36 1) f low
resets_fit a now m reading.Faulty f low fits = rejects_fit a now m (at 36 6) f low
resets_fit a now m (reading.Is next) f low fits =
    choice TurnFits (nat_lt a.day.expected next) _ _
    (λ h. stays_fit (moved_to a now next) (moved_fits a now next f fits))
    (λ h. choice TurnFits (next == a.day.expected) _ _ (λ h. stays_fit a f)
    (λ h. rejects_fit a now m (at 36 5) f low))

noted_fits : (a : Live) (number : ℕ) → Fits a → IsNumber number → Fits (missing_noted a number)
noted_fits a number f is = record {
  day = f.day;
  line = record {
    heartbeat = f.line.heartbeat;
    gap = choice IsNumber (nat_lt a.line.gap number) number a.line.gap (λ h. is) (λ h. f.line.gap);
    again = f.line.again;
    again_end = f.line.again_end;
    fresh = f.line.fresh;
    split = f.line.split;
    first_test = f.line.first_test;
    last_test = f.line.last_test;
    overtook = f.line.overtook;
  };
  room = f.room;
}

noted_fit : (a : Live) (number : ℕ) → Fits a → IsNumber number → TurnFits (stays (missing_noted a number))
noted_fit a number f is = stays_fit (missing_noted a number) (noted_fits a number f is)

above_fit : (a : Live) (now : ℕ) (m : Origin) (number : ℕ) (k : Kind) → Fits a → a.day.expected ≤ 999999990
    → IsNumber number → TurnFits (above a now m number k)
above_fit a now m number kind.Logon f low is = noted_fit a number f is
above_fit a now m number (kind.Heartbeat answered) f low is = noted_fit a number f is
above_fit a now m number (kind.TestRequest id) f low is = noted_fit a number f is
above_fit a now m number (kind.ResendRequest first last) f low is =
    requested_fit (missing_noted a number) now m first last (noted_fits a number f is) low
above_fit a now m number kind.Reject f low is = noted_fit a number f is
above_fit a now m number (kind.Fill next) f low is = noted_fit a number f is
above_fit a now m number (kind.Reset next) f low is = noted_fit a number f is
above_fit a now m number kind.Logout f low is = leaves_fit a why.Answered f
above_fit a now m number (kind.Denied denial) f low is = noted_fit a number f is
above_fit a now m number kind.Other f low is = noted_fit a number f is

-- Row 7.

repeated_below_fit : (a : Live) (now : ℕ) (m : Incoming) (first : Reading) → Fits a
    → a.day.expected ≤ 999999990 → TurnFits (repeated_below a now m first)
repeated_below_fit a now m reading.Missing f low = rejects_fit a now m.origin (at 122 1) f low
repeated_below_fit a now m reading.Faulty f low = stays_fit a f
repeated_below_fit a now m (reading.Is first) f low =
    choice TurnFits (is_after_sent m.sent first) _ _
    (λ h. both_counted_fit a now m.origin (at 122 10) why.Clock f low) (λ h. stays_fit a f)

below_fit : (a : Live) (now : ℕ) (m : Incoming) → Fits a → a.day.expected ≤ 999999990
    → TurnFits (below a now m)
below_fit a now m f low =
    choice TurnFits m.is_repeat _ _ (λ h. repeated_below_fit a now m m.first_sent f low)
    (λ h. logs_out_fit a now m.origin.number (word.Logout (why.TooLow a.day.expected)) f low)

-- Rows 11 to 18.

settled_fits : (l : Line) (number : ℕ) → LineFits l → LineFits (settled_by l number)
settled_fits l number f =
    choice LineFits (nat_le l.overtook number) _ _
    (λ h. record {
      heartbeat = f.heartbeat;
      gap = f.gap;
      again = f.again;
      again_end = f.again_end;
      fresh = f.fresh;
      split = f.split;
      first_test = f.first_test;
      last_test = f.last_test;
      overtook = f.overtook;
    })
    (λ h. f)

within : (l : Line) (number : ℕ) → is_test_of l number ≡ true → number ≤ l.last_test
within l number h = at_most (nat_lt 0 l.first_test) (nat_le l.first_test number) number l.last_test h
  where
    at_most : (b c : Bool) (m n : ℕ) → (b && c && nat_le m n) ≡ true → m ≤ n
    at_most b c m n h = grind (arith, nat_tests)

tested_fits : (a : Live) (answered : Option ℕ) → Fits a → Fits (tested a answered)
tested_fits a None f = f
tested_fits a (Some number) f =
    choice Fits (is_test_of a.line number) _ _
    (λ h. record {
      day = record {
        expected = f.day.expected;
        next = f.day.next;
        had = choice IsNumber (nat_lt a.day.had number) number a.day.had
            (λ k. up_to number a.line.last_test (within a.line number h) f.line.last_test) (λ k. f.day.had);
        first_given = f.day.first_given;
        last_given = f.day.last_given;
        last_kept = f.day.last_kept;
      };
      line = settled_fits a.line number f.line;
      room = f.room;
    })
    (λ h. f)

tests_fit : (a : Live) (now : ℕ) (m : Origin) (id : TestId) → Fits a → a.day.expected ≤ 999999990
    → TurnFits (tests a now m id)
tests_fit a now m test_id.Missing f low = rejects_fit a now m (at 112 1) f low
tests_fit a now m test_id.TooLong f low = rejects_fit a now m (at 112 5) f low
tests_fit a now m (test_id.Is id) f low =
    answers_fit (counted a now) now (word.Answer id) (counted_fits a now f low)

fills_fit : (a : Live) (now : ℕ) (m : Origin) (number : ℕ) (next : Reading) → Fits a
    → a.day.expected ≤ 999999990 → ReadingFits next → TurnFits (fills a now m number next)
fills_fit a now m number reading.Missing f low fits = rejects_fit a now m (at 36 1) f low
fills_fit a now m number reading.Faulty f low fits = rejects_fit a now m (at 36 6) f low
fills_fit a now m number (reading.Is next) f low fits =
    choice TurnFits (nat_lt number next) _ _
    (λ h. stays_fit (moved_to a now next) (moved_fits a now next f fits))
    (λ h. rejects_fit a now m (at 36 5) f low)

takes_fit : (a : Live) (now : ℕ) → Fits a → a.day.expected ≤ 999999990 → TurnFits (takes a now)
takes_fit a now f low =
    let g = counted_fits a now f low in
    record {
      session = record {
        day = record {
          expected = g.day.expected;
          next = g.day.next;
          had = g.day.had;
          first_given = g.day.first_given;
          last_given = g.day.last_given;
          last_kept = g.day.last_kept;
        };
        phase = g.line;
      };
      first = tt;
      second = tt;
    }

kind_fit : (a : Live) (now : ℕ) (m : Origin) (number : ℕ) (k : Kind) → Fits a → a.day.expected ≤ 999999990
    → KindFits k → TurnFits (by_kind a now m number k)
kind_fit a now m number (kind.Heartbeat answered) f low fits =
    stays_fit (tested (counted a now) answered) (tested_fits (counted a now) answered (counted_fits a now f low))
kind_fit a now m number kind.Reject f low fits =
    let g = counted_fits a now f low in
    record { session = record { day = g.day; phase = g.line }; first = tt; second = tt }
kind_fit a now m number (kind.TestRequest id) f low fits = tests_fit a now m id f low
kind_fit a now m number (kind.ResendRequest first last) f low fits = requested_fit a now m first last f low
kind_fit a now m number (kind.Fill next) f low fits = fills_fit a now m number next f low fits
kind_fit a now m number (kind.Reset next) f low fits = resets_fit a now m next f low fits
kind_fit a now m number kind.Logout f low fits =
    leaves_fit (counted a now) why.Answered (counted_fits a now f low)
kind_fit a now m number kind.Logon f low fits =
    parts_fit (counted a now) now (word.Logout why.LoggedOn) (counted_fits a now f low)
kind_fit a now m number (kind.Denied denial) f low fits = denies_fit a now m denial f low
kind_fit a now m number kind.Other f low fits = takes_fit a now f low

form_fit : (a : Live) (now : ℕ) (m : Incoming) (number : ℕ) (flaw : Option Fault) → Fits a
    → a.day.expected ≤ 999999990 → MessageFits m → TurnFits (by_form a now m number flaw)
form_fit a now m number None f low fits = kind_fit a now m.origin number m.kind f low fits.kind
form_fit a now m number (Some fault) f low fits = rejects_fit a now m.origin fault f low

times_fit : (a : Live) (clock : Clock) (m : Incoming) (number sent : ℕ) (first : Reading) → Fits a
    → a.day.expected ≤ 999999990 → MessageFits m → TurnFits (by_times a clock m number sent first)
times_fit a clock m number sent reading.Missing f low fits = rejects_fit a clock.moment m.origin (at 122 1) f low
times_fit a clock m number sent reading.Faulty f low fits = rejects_fit a clock.moment m.origin (at 122 6) f low
times_fit a clock m number sent (reading.Is first) f low fits =
    choice TurnFits (not (is_today clock first) || nat_lt first a.day.reset_at) _ _
    (λ h. rejects_fit a clock.moment m.origin (at 122 5) f low)
    (λ h. choice TurnFits (nat_lt sent first) _ _
    (λ h. both_counted_fit a clock.moment m.origin (at 122 10) why.Clock f low)
    (λ h. form_fit a clock.moment m number m.flaw f low fits))

repeated_fit : (a : Live) (clock : Clock) (m : Incoming) (number : ℕ) (sent : Reading) → Fits a
    → a.day.expected ≤ 999999990 → MessageFits m → TurnFits (repeated a clock m number sent)
repeated_fit a clock m number reading.Missing f low fits = rejects_fit a clock.moment m.origin (at 52 1) f low
repeated_fit a clock m number reading.Faulty f low fits = rejects_fit a clock.moment m.origin (at 52 6) f low
repeated_fit a clock m number (reading.Is sent) f low fits =
    times_fit a clock m number sent m.first_sent f low fits

once_fit : (a : Live) (clock : Clock) (m : Incoming) (number : ℕ) (sent : Reading) → Fits a
    → a.day.expected ≤ 999999990 → MessageFits m → TurnFits (sent_once a clock m number sent)
once_fit a clock m number reading.Missing f low fits = rejects_fit a clock.moment m.origin (at 52 1) f low
once_fit a clock m number reading.Faulty f low fits = rejects_fit a clock.moment m.origin (at 52 6) f low
once_fit a clock m number (reading.Is sent) f low fits =
    choice TurnFits (is_off clock sent) _ _
    (λ h. both_counted_fit a clock.moment m.origin (at 52 10) why.Clock f low)
    (λ h. form_fit a clock.moment m number m.flaw f low fits)

expected_fit : (a : Live) (clock : Clock) (m : Incoming) (number : ℕ) → Fits a → a.day.expected ≤ 999999990
    → MessageFits m → TurnFits (expected_message a clock m number)
expected_fit a clock m number f low fits =
    choice TurnFits m.is_repeat _ _ (λ h. repeated_fit a clock m number m.sent f low fits)
    (λ h. once_fit a clock m number m.sent f low fits)

number_fit : (a : Live) (clock : Clock) (m : Incoming) (number : ℕ) → Fits a → a.day.expected ≤ 999999990
    → MessageFits m → IsNumber number → TurnFits (by_number a clock m number)
number_fit a clock m number f low fits is =
    choice TurnFits (nat_lt a.day.expected number) _ _
    (λ h. above_fit a clock.moment m.origin number m.kind f low is)
    (λ h. choice TurnFits (nat_lt number a.day.expected) _ _ (λ h. below_fit a clock.moment m f low)
    (λ h. expected_fit a clock m number f low fits))

names_fit : (a : Live) (clock : Clock) (m : Incoming) (number : ℕ) (stranger : Option ℕ) → Fits a
    → a.day.expected ≤ 999999990 → MessageFits m → IsNumber number
    → TurnFits (by_names a clock m number stranger)
names_fit a clock m number None f low fits is = number_fit a clock m number f low fits is
names_fit a clock m number (Some tag) f low fits is =
    both_counted_fit a clock.moment m.origin (at tag 9) why.Names f low

numbered_fit : (a : Live) (clock : Clock) (m : Incoming) (number : Option ℕ) → Fits a
    → a.day.expected ≤ 999999990 → MessageFits m → OptionFits number → TurnFits (if_numbered a clock m number)
numbered_fit a clock m None f low fits is = parts_fit a clock.moment (word.Logout why.Number) f
numbered_fit a clock m (Some number) f low fits is = names_fit a clock m number m.stranger f low fits is

unless_fit : (a : Live) (clock : Clock) (m : Incoming) (k : Kind) → Fits a → a.day.expected ≤ 999999990
    → MessageFits m → KindFits k → TurnFits (unless_reset a clock m (reset_in k))
unless_fit a clock m (kind.Reset next) f low fits is = resets_fit a clock.moment m.origin next f low is
unless_fit a clock m kind.Logon f low fits is = numbered_fit a clock m m.origin.number f low fits fits.number
unless_fit a clock m (kind.Heartbeat answered) f low fits is = numbered_fit a clock m m.origin.number f low fits fits.number
unless_fit a clock m (kind.TestRequest id) f low fits is = numbered_fit a clock m m.origin.number f low fits fits.number
unless_fit a clock m (kind.ResendRequest first last) f low fits is = numbered_fit a clock m m.origin.number f low fits fits.number
unless_fit a clock m kind.Reject f low fits is = numbered_fit a clock m m.origin.number f low fits fits.number
unless_fit a clock m (kind.Fill next) f low fits is = numbered_fit a clock m m.origin.number f low fits fits.number
unless_fit a clock m kind.Logout f low fits is = numbered_fit a clock m m.origin.number f low fits fits.number
unless_fit a clock m (kind.Denied denial) f low fits is = numbered_fit a clock m m.origin.number f low fits fits.number
unless_fit a clock m kind.Other f low fits is = numbered_fit a clock m m.origin.number f low fits fits.number

heard_fits : (a : Live) (now : ℕ) → Fits a → Fits (heard_at a now)
heard_fits a now f = record {
  day = f.day;
  line = record {
    heartbeat = f.line.heartbeat;
    gap = f.line.gap;
    again = f.line.again;
    again_end = f.line.again_end;
    fresh = f.line.fresh;
    split = f.line.split;
    first_test = f.line.first_test;
    last_test = f.line.last_test;
    overtook = f.line.overtook;
  };
  room = f.room;
}

version_fit : (a : Live) (clock : Clock) (m : Incoming) (version : Option (List ℕ)) → Fits a
    → a.day.expected ≤ 999999990 → MessageFits m → TurnFits (by_version a clock m version)
version_fit a clock m None f low fits =
    unless_fit (heard_at a clock.moment) clock m m.kind (heard_fits a clock.moment f) low fits fits.kind
version_fit a clock m (Some version) f low fits =
    logs_out_fit a clock.moment m.origin.number (word.Foreign version) f low

pub live_fit : (a : Live) (clock : Clock) (said : Heard) → Fits a → a.day.expected ≤ 999999990
    → HeardFits said → TurnFits (came_as a clock said)
live_fit a clock heard.Garbled f low fits = stays_fit a f
live_fit a clock (heard.TooLong number) f low fits =
    logs_out_fit a clock.moment number (word.Logout why.TooLong) f low
live_fit a clock (heard.Message m) f low fits = version_fit a clock m m.version f low fits
