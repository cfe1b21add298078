-- The events of a session.
use Rattle.std.specs.Prelude.{ℕ, ◌+◌, ◌-◌, ◌*◌, Bool, true, false, ◌&&◌, ◌||◌, ◌==◌, not, nat_le, nat_lt, List, Option, Some, None, if◌then◌else◌}
use Rattle.fix_fields.specs.Frame.{Field}
use Rattle.fix_sessions.specs.Heard.{as_taken, heard_of, is_logout}
use Rattle.fix_sessions.specs.Logons.{came_first, without}
use Rattle.fix_sessions.specs.Outcomes.{quiet, ended, said, free, holder, is_free, is_spent, live, stays, disconnects, says, leaves, parts, is_clear, used}
use Rattle.fix_sessions.specs.Rows.{came_on, came_long}
use Rattle.fix_sessions.specs.Sending.{is_resending, requests, given_on, keeps_one}
use Rattle.fix_sessions.specs.declared.state.Clock.{Clock}
use Rattle.fix_sessions.specs.declared.state.Day.{Day}
use Rattle.fix_sessions.specs.declared.state.Line.{Line}
use Rattle.fix_sessions.specs.declared.state.Live.{Live}
use Rattle.fix_sessions.specs.declared.state.Phase.{Phase}
use Rattle.fix_sessions.specs.declared.state.Phase.TheVariants as phase
use Rattle.fix_sessions.specs.declared.state.Session.{Session}
use Rattle.fix_sessions.specs.declared.state.Waiting.{Waiting}
use Rattle.fix_sessions.specs.declared.state.TheConstants.{LAST_NUMBER, GAP_WAIT, TEST_WAIT, SETTLE_WAIT, LOGOUT_WAIT, LEAST_SILENCE}
use Rattle.fix_sessions.specs.declared.messages.Heard.{Heard}
use Rattle.fix_sessions.specs.declared.messages.Heard.TheVariants as heard
use Rattle.fix_sessions.specs.declared.orders.Order.{Order}
use Rattle.fix_sessions.specs.declared.orders.Order.TheVariants as order
use Rattle.fix_sessions.specs.declared.texts.Names.{Names}
use Rattle.fix_sessions.specs.declared.turns.Denial.{Denial}
use Rattle.fix_sessions.specs.declared.turns.Notice.TheVariants as notice
use Rattle.fix_sessions.specs.declared.turns.Turn.{Turn}
use Rattle.fix_sessions.specs.declared.turns.Way.TheVariants as way
use Rattle.fix_sessions.specs.declared.turns.Why.TheVariants as why
use Rattle.fix_sessions.specs.declared.turns.Word.{Word}
use Rattle.fix_sessions.specs.declared.turns.Word.TheVariants as word

-- a new day: number 1 is left for its first answer to a Logon
abbrev pub new_day : Day
new_day = record {
  expected = 1;
  next = 2;
  had = 0;
  first_given = 0;
  last_given = 0;
  last_kept = 0;
  is_one_free = true;
  was_taken = false;
  is_reset = false;
  reset_at = 0;
  is_locked = false;
  last_logon = 0;
  is_open = false;
  is_suspended = false;
}

abbrev pub new_session : Session
new_session = record { day = new_day; phase = phase.Away; waiting = None }

-- Bytes came.

-- on the connection by which the firm is logged on
abbrev pub came_as : Live → Clock → Heard → Turn
came_as a clock heard.Garbled = stays a
came_as a clock (heard.TooLong number) = came_long a clock.moment number
came_as a clock (heard.Message m) = came_on a clock m

-- the firm's own Logout, once one was sent: it alone is counted
abbrev pub is_expected : Day → Option ℕ → Bool
is_expected d None = false
is_expected d (Some number) = number == d.expected

abbrev pub last_counted : Session → Option ℕ → Session
last_counted s number =
    if is_expected s.day number then record s { day = record s.day { expected = s.day.expected + 1 } }
    else s

abbrev pub came_leaving_as : Session → ℕ → Heard → Turn
came_leaving_as s connection (heard.Message m) = ended (free (last_counted s m.origin.number)) connection
came_leaving_as s connection other = quiet s connection

abbrev pub came_leaving : Names → Session → ℕ → List ℕ → Turn
came_leaving names s connection bytes =
    if is_logout bytes then came_leaving_as s connection (heard_of names bytes) else quiet s connection

-- by whose the session is
abbrev pub came_by : Names → Session → ℕ → Clock → List ℕ → Bool → Option Denial → Phase → Turn
came_by names s connection clock bytes is_known denial phase.Away =
    came_first names s connection clock bytes is_known denial
came_by names s connection clock bytes is_known denial (phase.On line) =
    if line.connection == connection
    then came_as (live s line) clock (as_taken denial (heard_of names bytes))
    else came_first names s connection clock bytes is_known denial
came_by names s connection clock bytes is_known denial (phase.Leaving last since) =
    if last == connection then came_leaving names s connection bytes
    else came_first names s connection clock bytes is_known denial

-- whether a connection has the session
abbrev pub has : Phase → ℕ → Bool
has phase.Away connection = false
has (phase.On line) connection = line.connection == connection
has (phase.Leaving last since) connection = last == connection

-- a connection is gone
abbrev pub freed_of : Session → ℕ → Session
freed_of s connection =
    if has s.phase connection then free s
    else record s { waiting = without connection s.waiting }

unfoldable pub came : Names → Session → ℕ → Clock → List ℕ → Bool → Option Denial → Turn
came names s connection clock bytes is_known denial =
    if is_spent s then ended (freed_of s connection) connection
    else came_by names s connection clock bytes is_known denial s.phase

abbrev pub gone : Session → ℕ → Turn
gone s connection = quiet (freed_of s connection) connection

-- The venue gives a message.

-- while nobody is logged on
abbrev pub waits_away : Session → ℕ → List Field → Turn
waits_away s connection body = record (quiet (record s { day = keeps_one s.day }) connection) {
  first = said s.day.next way.Kept (word.Kept body false);
}

abbrev pub given_by : Session → ℕ → List Field → Phase → Turn
given_by s now body phase.Away = waits_away s 0 body
given_by s now body (phase.On line) =
    given_on (live s line) now body
given_by s now body (phase.Leaving connection since) = waits_away s connection body

unfoldable pub given : Session → ℕ → List Field → Turn
given s now body = if is_spent s then quiet s 0 else given_by s now body s.phase

-- Time passes.

-- a TestRequest: where one waits that it overtakes, no earlier one settles
abbrev pub tests_firm : Live → ℕ → Turn
tests_firm a now =
    let number = a.day.next in
    record (stays (record a {
      day = used a.day;
      line = record a.line {
        sent = now;
        fresh = if is_clear a then number + 1 else a.line.fresh;
        overtook = if is_clear a then a.line.overtook else number;
        first_test = if a.line.first_test == 0 then number else a.line.first_test;
        last_test = number;
        test_since = now;
        is_test_due = false;
      };
    })) { first = said number way.Leaves (word.TestRequest number) }

abbrev pub requests_missing : Live → ℕ → Turn
requests_missing a now =
    says (record a { line = record a.line { gap_since = now; is_request_due = false } }) now
    (word.ResendRequest a.day.expected)

-- a message of the session's own that is due
abbrev pub due : Live → ℕ → Turn
due a now =
    if is_resending a.line || (not a.line.is_held && not (is_clear a)) then stays a
    else if is_clear a && requests a.line then requests_missing a now
    else if a.line.is_test_due then tests_firm a now
    else if is_clear a && nat_le a.line.heartbeat (now - a.line.sent) then says a now word.Heartbeat
    else stays a

-- what time makes due: a TestRequest where nothing came, or no answer; a ResendRequest where what is
-- missing did not come
abbrev pub silence : Line → ℕ → ℕ
silence l now = now - l.received

-- whether a span is at least so many fifths of HeartBtInt
abbrev pub is_past : ℕ → ℕ → ℕ → Bool
is_past span heartbeat fifths = nat_le (heartbeat * fifths) (span * 5)

abbrev pub is_silent : Line → ℕ → Bool
is_silent l now = not l.is_asked && is_past (silence l now) l.heartbeat 6

abbrev pub is_unanswered : Line → ℕ → Bool
is_unanswered l now =
    not l.is_settled && nat_lt 0 l.last_test && not (is_resending l) && nat_le TEST_WAIT (now - l.test_since)

abbrev pub made_due : Live → ℕ → Live
made_due a now = record a {
  line = record a.line {
    is_asked = a.line.is_asked || is_silent a.line now;
    is_test_due = a.line.is_test_due || is_silent a.line now || is_unanswered a.line now;
    is_request_due = a.line.is_request_due || nat_le GAP_WAIT (now - a.line.gap_since);
  };
}

-- settling is measured from the last resend
abbrev pub still_settling : Live → ℕ → Live
still_settling a now = record a {
  line = record a.line { settling_since = if is_resending a.line then now else a.line.settling_since };
}

abbrev pub is_over : Line → ℕ → Bool
is_over l now = not l.is_settled && nat_le SETTLE_WAIT (now - l.settling_since)

abbrev pub is_dead : Line → ℕ → Bool
is_dead l now = nat_le LEAST_SILENCE (silence l now) && is_past (silence l now) l.heartbeat 12

abbrev pub tick_on : Live → ℕ → Turn
tick_on a now =
    let b = still_settling a now in
    if is_over b.line now then disconnects b
    else if is_dead b.line now then leaves b why.Silent
    else due (made_due b now) now

abbrev pub tick_by : Session → ℕ → Phase → Turn
tick_by s now phase.Away = quiet s 0
tick_by s now (phase.On line) = tick_on (live s line) now
tick_by s now (phase.Leaving connection since) =
    if nat_le LOGOUT_WAIT (now - since) then ended (free s) connection else quiet s connection

-- Row 3: nothing came on the old connection within two seconds, or something did
abbrev pub decided : Session → Waiting → Turn
decided s waiting =
    if waiting.is_alive then ended (record s { waiting = None }) waiting.connection
    else record (ended (free s) (holder s.phase)) { notice = Some notice.Dead }

abbrev pub is_decided : Phase → Waiting → ℕ → Bool
is_decided phase waiting now = not (is_free phase) && nat_le LOGOUT_WAIT (now - waiting.since)

abbrev pub tick_waiting : Session → ℕ → Option Waiting → Turn
tick_waiting s now None = tick_by s now s.phase
tick_waiting s now (Some waiting) =
    if is_decided s.phase waiting now then decided s waiting
    else tick_by s now s.phase

unfoldable pub tick : Session → ℕ → Turn
tick s now =
    if is_spent s then ended (free s) (holder s.phase)
    else tick_waiting s now s.waiting

-- An operator.

-- a firm that is logged on is logged out
abbrev pub logged_out_by : Session → ℕ → Word → Phase → Turn
logged_out_by s now logout phase.Away = quiet s 0
logged_out_by s now logout (phase.On line) = parts (live s line) now logout
logged_out_by s now logout (phase.Leaving connection since) = quiet s connection

abbrev pub logged_out : Session → ℕ → Word → Phase → Turn
logged_out s now logout of_whom =
    if is_spent s then ended (free s) (holder s.phase) else logged_out_by s now logout of_whom

-- and for a reason that the gateway gives
unfoldable pub log_out : Session → ℕ → List ℕ → Turn
log_out s now text = logged_out s now (word.LogoutFor text) s.phase

-- numbers begin at 1 again; this many messages of the venue that the firm is not known to have get
-- the numbers from 2 on
abbrev pub last_copy : ℕ → ℕ
last_copy copies = if copies == 0 then 0 else copies + 1

abbrev pub at_most : ℕ → ℕ → ℕ
at_most most n = if nat_lt most n then most else n

abbrev pub reset_day : Day → Clock → ℕ → Day
reset_day d clock copies =
    let some = at_most LAST_NUMBER copies in
    record new_day {
      next = some + 2;
      first_given = if some == 0 then 0 else 2;
      last_given = last_copy some;
      last_kept = last_copy some;
      is_reset = true;
      reset_at = clock.midnight + clock.moment;
      is_open = d.is_open;
      is_suspended = d.is_suspended;
    }

abbrev pub ordered_day : Day → Clock → Order → Day
ordered_day d clock order.Open = record d { is_open = true }
ordered_day d clock order.Close = record d { is_open = false }
ordered_day d clock order.Suspend = record d { is_suspended = true }
ordered_day d clock order.Resume = record d { is_suspended = false }
ordered_day d clock order.Release = record d { is_locked = false }
ordered_day d clock (order.Reset copies) = reset_day d clock copies

-- the connection of a session that is reset ends
abbrev pub resets : Session → Turn
resets s =
    if is_free s.phase then record (quiet s 0) { drops_rejects = true }
    else record (ended (free s) (holder s.phase)) { drops_rejects = true }

abbrev pub ordered_by : Session → ℕ → Order → Turn
ordered_by s now order.Open = quiet s 0
ordered_by s now order.Resume = quiet s 0
ordered_by s now order.Release = quiet s 0
ordered_by s now order.Close = logged_out s now (word.Logout why.Closed) s.phase
ordered_by s now order.Suspend = logged_out s now (word.Logout why.Suspended) s.phase
ordered_by s now (order.Reset copies) = resets s

unfoldable pub ordered : Session → Clock → Order → Turn
ordered s clock given =
    ordered_by (record s { day = ordered_day s.day clock given }) clock.moment given
