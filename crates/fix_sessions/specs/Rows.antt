-- The later messages of a connection, row by row: the first row that holds decides.
use Rattle.std.specs.Prelude.{ℕ, ◌+◌, ◌-◌, ◌≤◌, Bool, true, false, ◌&&◌, ◌||◌, ◌==◌, not, nat_le, nat_lt, List, Option, Some, None, if◌then◌else◌}
use Rattle.fix_sessions.specs.Outcomes.{stays, moved_to, counted, counted_if, answers, denies, rejects, rejects_and_logs_out, logs_out, parts, leaves, alive}
use Rattle.fix_sessions.specs.Logons.{is_off, is_today}
use Rattle.fix_sessions.specs.declared.state.Clock.{Clock}
use Rattle.fix_sessions.specs.declared.state.Line.{Line}
use Rattle.fix_sessions.specs.declared.state.Live.{Live}
use Rattle.fix_sessions.specs.declared.messages.Incoming.{Incoming}
use Rattle.fix_sessions.specs.declared.messages.Origin.{Origin}
use Rattle.fix_sessions.specs.declared.messages.Kind.{Kind}
use Rattle.fix_sessions.specs.declared.messages.Kind.TheVariants as kind
use Rattle.fix_sessions.specs.declared.messages.Reading.{Reading}
use Rattle.fix_sessions.specs.declared.messages.Reading.TheVariants as reading
use Rattle.fix_sessions.specs.declared.messages.TestId.{TestId}
use Rattle.fix_sessions.specs.declared.messages.TestId.TheVariants as test_id
use Rattle.fix_sessions.specs.declared.requests.Asked.{Asked}
use Rattle.fix_sessions.specs.declared.requests.Asked.TheVariants as asked
use Rattle.fix_sessions.specs.declared.turns.Fault.{Fault}
use Rattle.fix_sessions.specs.declared.turns.Notice.TheVariants as notice
use Rattle.fix_sessions.specs.declared.turns.Turn.{Turn}
use Rattle.fix_sessions.specs.declared.turns.Why.TheVariants as why
use Rattle.fix_sessions.specs.declared.turns.Word.TheVariants as word

-- a fault of a field
abbrev pub at : ℕ → ℕ → Fault
at tag reason = record { tag = Some tag; reason = reason }

-- the session once something came
abbrev pub heard_at : Live → ℕ → Live
heard_at a now = record a {
  line = record a.line { received = now; is_asked = false };
  waiting = alive a.waiting;
}

-- Row 13: the numbers of a ResendRequest.

-- the highest number that has left
abbrev pub highest_left : Line → ℕ
highest_left l = if nat_lt l.overtook l.fresh then l.fresh - 1 else l.overtook

abbrev pub numbers_asked : ℕ → ℕ → ℕ → Asked
numbers_asked top first last =
    if nat_lt top first then asked.Wrong (at 7 5)
    else if nat_lt 0 last && nat_lt last first then asked.Wrong (at 16 5)
    else asked.Numbers first (if (last == 0) || nat_lt top last then top else last)

abbrev pub asked_to : ℕ → ℕ → Reading → Asked
asked_to top first reading.Missing = asked.Wrong (at 16 1)
asked_to top first reading.Faulty = asked.Wrong (at 16 6)
asked_to top first (reading.Is last) = numbers_asked top (if first == 0 then 1 else first) last

abbrev pub asked_of : ℕ → Reading → Reading → Asked
asked_of top reading.Missing last = asked.Wrong (at 7 1)
asked_of top reading.Faulty last = asked.Wrong (at 7 6)
asked_of top (reading.Is first) last = asked_to top first last

-- the numbers that are asked for are at most this one
abbrev pub IsBounded : ℕ → Asked → Type 0
IsBounded top (asked.Wrong fault) = Unit {0}
IsBounded top (asked.Numbers first last) = last ≤ top

-- they are to be sent again, beside those that are already
abbrev pub again_from : Line → ℕ → ℕ → Line
again_from l first last =
    if nat_lt l.again l.again_end
    then record l {
      again = if nat_lt first l.again then first else l.again;
      again_end = if nat_lt l.again_end (last + 1) then last + 1 else l.again_end;
    }
    else record l { again = first; again_end = last + 1 }

abbrev pub requested_as : Live → ℕ → Origin → Asked → Turn
requested_as a now m (asked.Wrong fault) = rejects a now m fault
requested_as a now m (asked.Numbers first last) =
    let after = counted_if a now m.number in
    stays (record after { line = again_from after.line first last })

abbrev pub requested : Live → ℕ → Origin → Reading → Reading → Turn
requested a now m first last = requested_as a now m (asked_of (highest_left a.line) first last)

-- Row 3: a SequenceReset in reset mode, whatever its number is.
abbrev pub resets_to : Live → ℕ → Origin → Reading → Turn
resets_to a now m reading.Missing = rejects a now m (at 36 1)
resets_to a now m reading.Faulty = rejects a now m (at 36 6)
resets_to a now m (reading.Is next) =
    if nat_lt a.day.expected next then stays (moved_to a now next)
    else if next == a.day.expected then stays a
    else rejects a now m (at 36 5)

-- Row 6: above the expected number. What is missing is requested, once.
abbrev pub missing_noted : Live → ℕ → Live
missing_noted a number = record a {
  line = record a.line {
    gap = if nat_lt a.line.gap number then number else a.line.gap;
    is_request_due = (a.line.gap == 0) || a.line.is_request_due;
  };
}

abbrev pub above : Live → ℕ → Origin → ℕ → Kind → Turn
above a now m number kind.Logout = leaves a why.Answered
above a now m number (kind.ResendRequest first last) = requested (missing_noted a number) now m first last
above a now m number _ = stays (missing_noted a number)

-- Row 7: below it.

-- whether a time is after that at which a message was sent
abbrev pub is_after_sent : Reading → ℕ → Bool
is_after_sent reading.Missing first = false
is_after_sent reading.Faulty first = false
is_after_sent (reading.Is sent) first = nat_lt sent first

abbrev pub repeated_below : Live → ℕ → Incoming → Reading → Turn
repeated_below a now m reading.Missing = rejects a now m.origin (at 122 1)
repeated_below a now m reading.Faulty = stays a
repeated_below a now m (reading.Is first) =
    if is_after_sent m.sent first then rejects_and_logs_out a now m.origin (at 122 10) why.Clock else stays a

abbrev pub below : Live → ℕ → Incoming → Turn
below a now m =
    if m.is_repeat then repeated_below a now m m.first_sent
    else logs_out a now m.origin.number (word.Logout (why.TooLow a.day.expected))

-- Row 11: an answer to a TestRequest of this connection, which nothing has overtaken since.

abbrev pub is_test_of : Line → ℕ → Bool
is_test_of l number = nat_lt 0 l.first_test && nat_le l.first_test number && nat_le number l.last_test

abbrev pub settled_by : Line → ℕ → Line
settled_by l number =
    if nat_le l.overtook number
    then record l { is_settled = true; is_held = false; is_test_due = false } else l

abbrev pub tested : Live → Option ℕ → Live
tested a None = a
tested a (Some number) =
    if is_test_of a.line number
    then record a {
      day = record a.day { had = if nat_lt a.day.had number then number else a.day.had };
      line = settled_by a.line number;
    }
    else a

-- Row 12
abbrev pub tests : Live → ℕ → Origin → TestId → Turn
tests a now m test_id.Missing = rejects a now m (at 112 1)
tests a now m test_id.TooLong = rejects a now m (at 112 5)
tests a now m (test_id.Is id) = answers (counted a now) now (word.Answer id)

-- Row 14: a gap fill
abbrev pub fills : Live → ℕ → Origin → ℕ → Reading → Turn
fills a now m number reading.Missing = rejects a now m (at 36 1)
fills a now m number reading.Faulty = rejects a now m (at 36 6)
fills a now m number (reading.Is next) =
    if nat_lt number next then stays (moved_to a now next) else rejects a now m (at 36 5)

-- Row 18: the message is the venue's.
abbrev pub takes : Live → ℕ → Turn
takes a now =
    let after = counted a now in
    record (stays (record after { day = record after.day { was_taken = true } })) {
      takes = Some a.day.expected;
    }

-- Rows 11 to 18: the expected message, by what it says.
abbrev pub by_kind : Live → ℕ → Origin → ℕ → Kind → Turn
by_kind a now m number (kind.Heartbeat answered) = stays (tested (counted a now) answered)
by_kind a now m number kind.Reject = record (stays (counted a now)) { notice = Some notice.Rejected }
by_kind a now m number (kind.TestRequest id) = tests a now m id
by_kind a now m number (kind.ResendRequest first last) = requested a now m first last
by_kind a now m number (kind.Fill next) = fills a now m number next
by_kind a now m number (kind.Reset next) = resets_to a now m next
by_kind a now m number kind.Logout = leaves (counted a now) why.Answered
by_kind a now m number kind.Logon = parts (counted a now) now (word.Logout why.LoggedOn)
by_kind a now m number (kind.Denied denial) = denies a now m denial
by_kind a now m number kind.Other = takes a now

-- Row 10: what is wrong with its form
abbrev pub by_form : Live → ℕ → Incoming → ℕ → Option Fault → Turn
by_form a now m number None = by_kind a now m.origin number m.kind
by_form a now m number (Some fault) = rejects a now m.origin fault

-- Row 9: a message that is sent again

abbrev pub by_times : Live → Clock → Incoming → ℕ → ℕ → Reading → Turn
by_times a clock m number sent reading.Missing = rejects a clock.moment m.origin (at 122 1)
by_times a clock m number sent reading.Faulty = rejects a clock.moment m.origin (at 122 6)
by_times a clock m number sent (reading.Is first) =
    if not (is_today clock first) || nat_lt first a.day.reset_at then rejects a clock.moment m.origin (at 122 5)
    else if nat_lt sent first then rejects_and_logs_out a clock.moment m.origin (at 122 10) why.Clock
    else by_form a clock.moment m number m.flaw

abbrev pub repeated : Live → Clock → Incoming → ℕ → Reading → Turn
repeated a clock m number reading.Missing = rejects a clock.moment m.origin (at 52 1)
repeated a clock m number reading.Faulty = rejects a clock.moment m.origin (at 52 6)
repeated a clock m number (reading.Is sent) = by_times a clock m number sent m.first_sent

-- Row 8: one that is not
abbrev pub sent_once : Live → Clock → Incoming → ℕ → Reading → Turn
sent_once a clock m number reading.Missing = rejects a clock.moment m.origin (at 52 1)
sent_once a clock m number reading.Faulty = rejects a clock.moment m.origin (at 52 6)
sent_once a clock m number (reading.Is sent) =
    if is_off clock sent then rejects_and_logs_out a clock.moment m.origin (at 52 10) why.Clock
    else by_form a clock.moment m number m.flaw

abbrev pub expected_message : Live → Clock → Incoming → ℕ → Turn
expected_message a clock m number =
    if m.is_repeat then repeated a clock m number m.sent else sent_once a clock m number m.sent

-- by its number
abbrev pub by_number : Live → Clock → Incoming → ℕ → Turn
by_number a clock m number =
    if nat_lt a.day.expected number then above a clock.moment m.origin number m.kind
    else if nat_lt number a.day.expected then below a clock.moment m
    else expected_message a clock m number

-- Row 5: another's names
abbrev pub by_names : Live → Clock → Incoming → ℕ → Option ℕ → Turn
by_names a clock m number None = by_number a clock m number
by_names a clock m number (Some tag) = rejects_and_logs_out a clock.moment m.origin (at tag 9) why.Names

-- Row 4: no number
abbrev pub if_numbered : Live → Clock → Incoming → Option ℕ → Turn
if_numbered a clock m None = parts a clock.moment (word.Logout why.Number)
if_numbered a clock m (Some number) = by_names a clock m number m.stranger

abbrev pub reset_in : Kind → Option Reading
reset_in (kind.Reset next) = Some next
reset_in _ = None

abbrev pub unless_reset : Live → Clock → Incoming → Option Reading → Turn
unless_reset a clock m (Some next) = resets_to a clock.moment m.origin next
unless_reset a clock m None = if_numbered a clock m m.origin.number

-- Row 1: another BeginString
abbrev pub foreign : Live → ℕ → Option ℕ → Option (List ℕ) → Turn
foreign a now number None = stays a
foreign a now number (Some version) = logs_out a now number (word.Foreign version)

abbrev pub by_version : Live → Clock → Incoming → Option (List ℕ) → Turn
by_version a clock m None = unless_reset (heard_at a clock.moment) clock m (reset_in m.kind)
by_version a clock m (Some version) = foreign a clock.moment m.origin.number (Some version)

-- a message of the connection by which the firm is logged on
abbrev pub came_on : Live → Clock → Incoming → Turn
came_on a clock m = by_version a clock m m.version

-- a message that is too long
abbrev pub came_long : Live → ℕ → Option ℕ → Turn
came_long a now number = logs_out a now number (word.Logout why.TooLong)
