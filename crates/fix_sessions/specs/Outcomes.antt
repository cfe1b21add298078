-- What a session may do with an event.
use Rattle.std.specs.Prelude.{ℕ, ◌+◌, Bool, true, false, ◌&&◌, ◌||◌, ◌==◌, not, nat_le, nat_lt, Option, Some, None, if◌then◌else◌, unwrap_or}
use Rattle.fix_sessions.specs.declared.state.Day.{Day}
use Rattle.fix_sessions.specs.declared.state.Line.{Line}
use Rattle.fix_sessions.specs.declared.state.Live.{Live}
use Rattle.fix_sessions.specs.declared.state.Phase.{Phase}
use Rattle.fix_sessions.specs.declared.state.Phase.TheVariants as phase
use Rattle.fix_sessions.specs.declared.state.Session.{Session}
use Rattle.fix_sessions.specs.declared.state.Waiting.{Waiting}
use Rattle.fix_sessions.specs.declared.state.TheConstants.{LAST_NUMBER}
use Rattle.fix_sessions.specs.declared.messages.Origin.{Origin}
use Rattle.fix_sessions.specs.declared.turns.Ending.TheVariants as ending
use Rattle.fix_sessions.specs.declared.turns.Denial.{Denial}
use Rattle.fix_sessions.specs.declared.turns.Fault.{Fault}
use Rattle.fix_sessions.specs.declared.turns.Said.{Said}
use Rattle.fix_sessions.specs.declared.turns.Turn.{Turn}
use Rattle.fix_sessions.specs.declared.turns.Way.{Way}
use Rattle.fix_sessions.specs.declared.turns.Way.TheVariants as way
use Rattle.fix_sessions.specs.declared.turns.Why.{Why}
use Rattle.fix_sessions.specs.declared.turns.Word.{Word}
use Rattle.fix_sessions.specs.declared.turns.Word.TheVariants as word

-- nothing is said, and the connection stands
abbrev pub quiet : Session → ℕ → Turn
quiet s connection = record {
  session = s;
  connection = connection;
  first = None;
  second = None;
  takes = None;
  drops_rejects = false;
  ending = ending.Stands;
  notice = None;
}

-- nothing is said, and the connection ends
abbrev pub ended : Session → ℕ → Turn
ended s connection = record (quiet s connection) { ending = ending.Ends }

-- a message under a number
abbrev pub said : ℕ → Way → Word → Option Said
said number way word = Some (record { number = number; way = way; word = word })

-- something came: an older connection is not dead
abbrev pub alive : Option Waiting → Option Waiting
alive None = None
alive (Some waiting) = Some (record waiting { is_alive = true })

-- Of a session in which the firm is logged on.

abbrev pub live : Session → Line → Live
live s line = record { day = s.day; line = line; waiting = s.waiting }

abbrev pub standing : Live → Session
standing a = record { day = a.day; phase = phase.On a.line; waiting = a.waiting }

abbrev pub away : Live → Session
away a = record { day = a.day; phase = phase.Away; waiting = a.waiting }

abbrev pub leaving : Live → ℕ → Session
leaving a now = record { day = a.day; phase = phase.Leaving a.line.connection now; waiting = a.waiting }

abbrev pub stays : Live → Turn
stays a = quiet (standing a) a.line.connection

abbrev pub disconnects : Live → Turn
disconnects a = ended (away a) a.line.connection

-- the session expects another number: what was missing below it is no more
abbrev pub moved_to : Live → ℕ → ℕ → Live
moved_to a now number = record a {
  day = record a.day { expected = number };
  line = record a.line { gap = if nat_le number a.line.gap then a.line.gap else 0; gap_since = now };
}

-- a message is counted
abbrev pub counted : Live → ℕ → Live
counted a now = moved_to a now (a.day.expected + 1)

-- and it is counted if it bears the expected number
abbrev pub counted_if : Live → ℕ → Option ℕ → Live
counted_if a now None = a
counted_if a now (Some number) = if number == a.day.expected then counted a now else a

-- nothing is to be sent again, and no number waits
abbrev pub is_clear : Live → Bool
is_clear a = nat_le a.line.again_end a.line.again && (a.line.fresh == a.day.next)

-- the next number is used up
abbrev pub used : Day → Day
used d = record d { next = d.next + 1 }

-- and an answer of the session's own is kept under it
abbrev pub keeping : Day → Day
keeping d = record d { next = d.next + 1; last_kept = d.next }

-- what has left
abbrev pub sent_next : Live → ℕ → Line
sent_next a now = record a.line { sent = now; fresh = a.day.next + 1 }

-- a message of the session's own leaves
abbrev pub says : Live → ℕ → Word → Turn
says a now w = record (stays (record a { day = used a.day; line = sent_next a now })) {
  first = said a.day.next way.Leaves w;
}

-- an answer leaves; where others wait it is kept, and waits behind them
abbrev pub answers : Live → ℕ → Word → Turn
answers a now w =
    if is_clear a then says a now w
    else record (stays (record a { day = used a.day })) { first = said a.day.next way.Kept w }

-- A Reject.

abbrev pub reject_of : Origin → Fault → Word
reject_of m fault = word.Reject (unwrap_or m.number 0) m.msg_type fault

-- it leaves; while others wait, or the firm has not answered, it waits
abbrev pub rejects_now : Live → ℕ → Word → Turn
rejects_now a now w =
    if is_clear a && a.line.is_settled
    then record (stays (record a { day = keeping a.day; line = sent_next a now })) {
      first = said a.day.next way.KeptAndLeaves w;
    }
    else record (stays (record a { day = keeping a.day })) { first = said a.day.next way.Kept w }

-- a message that bears the expected number is counted with its Reject
abbrev pub rejects : Live → ℕ → Origin → Fault → Turn
rejects a now m fault = rejects_now (counted_if a now m.number) now (reject_of m fault)

-- A BusinessMessageReject.

abbrev pub denial_of : Origin → Denial → Word
denial_of m denial = word.Denied (unwrap_or m.number 0) m.msg_type denial

-- it is kept, and leaves; where others wait it waits behind them
abbrev pub denies_now : Live → ℕ → Word → Turn
denies_now a now w =
    if is_clear a
    then record (stays (record a { day = keeping a.day; line = sent_next a now })) {
      first = said a.day.next way.KeptAndLeaves w;
    }
    else record (stays (record a { day = keeping a.day })) { first = said a.day.next way.Kept w }

-- a message of the venue's that the gateway does not take is counted with it
abbrev pub denies : Live → ℕ → Origin → Denial → Turn
denies a now m denial = denies_now (counted a now) now (denial_of m denial)

-- A Logout: where others wait, or the firm has not answered, the connection ends without.

abbrev pub may_log_out : Live → Bool
may_log_out a = is_clear a && a.line.is_settled

-- the firm's own is waited for
abbrev pub parts : Live → ℕ → Word → Turn
parts a now w =
    if may_log_out a
    then record (quiet (leaving (record a { day = used a.day }) now) a.line.connection) {
      first = said a.day.next way.Leaves w;
    }
    else disconnects a

-- the connection ends at once
abbrev pub leaves : Live → Why → Turn
leaves a why =
    if may_log_out a
    then record (disconnects (record a { day = used a.day })) {
      first = said a.day.next way.Leaves (word.Logout why);
    }
    else disconnects a

-- a message that bears the expected number is counted with its Logout
abbrev pub logs_out : Live → ℕ → Option ℕ → Word → Turn
logs_out a now number w = parts (counted_if a now number) now w

-- A Reject and a Logout behind it: a Reject alone until the firm has answered.

abbrev pub reject_and_logout : Live → ℕ → Word → Why → Turn
reject_and_logout a now w why =
    if not a.line.is_settled then rejects_now a now w
    else if is_clear a
    then record (quiet (leaving (record a { day = used (keeping a.day) }) now) a.line.connection) {
      first = said a.day.next way.KeptAndLeaves w;
      second = said (a.day.next + 1) way.Leaves (word.Logout why);
    }
    else record (disconnects (record a { day = keeping a.day })) { first = said a.day.next way.Kept w }

abbrev pub rejects_and_logs_out : Live → ℕ → Origin → Fault → Why → Turn
rejects_and_logs_out a now m fault why =
    reject_and_logout (counted_if a now m.number) now (reject_of m fault) why

-- a session without its connection
abbrev pub free : Session → Session
free s = record s { phase = phase.Away }

-- the connection that has the session
abbrev pub holder : Phase → ℕ
holder phase.Away = 0
holder (phase.On line) = line.connection
holder (phase.Leaving connection since) = connection

abbrev pub is_free : Phase → Bool
is_free phase.Away = true
is_free other = false

-- whether the numbers of a connection are below the next one
abbrev pub are_bounded : Day → Phase → Bool
are_bounded d phase.Away = true
are_bounded d (phase.On line) =
    nat_le line.fresh d.next && nat_le line.again_end d.next && nat_le line.overtook d.next
are_bounded d (phase.Leaving connection since) = true

-- the session is over for the day: its numbers are used up. What a caller broke counts as that
abbrev pub is_spent : Session → Bool
is_spent s =
    nat_lt LAST_NUMBER s.day.next || nat_lt LAST_NUMBER s.day.expected
    || not (are_bounded s.day s.phase)
