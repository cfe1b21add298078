-- What leaves of what is kept: the numbers that the firm requests again, and behind them those that
-- have not left.
use Rattle.std.specs.Prelude.{ℕ, ◌+◌, Bool, true, false, ◌&&◌, ◌||◌, ◌==◌, not, nat_le, nat_lt, List, codes, Option, Some, None, if◌then◌else◌}
use Rattle.fix_fields.specs.Frame.{Field}
use Rattle.fix_sessions.specs.Texts.{has_text}
use Rattle.fix_sessions.specs.Outcomes.{quiet, ended, free, holder, is_spent, live, stays, said, is_clear}
use Rattle.fix_sessions.specs.declared.state.Day.{Day}
use Rattle.fix_sessions.specs.declared.state.Line.{Line}
use Rattle.fix_sessions.specs.declared.state.Live.{Live}
use Rattle.fix_sessions.specs.declared.state.Phase.{Phase}
use Rattle.fix_sessions.specs.declared.state.Phase.TheVariants as phase
use Rattle.fix_sessions.specs.declared.state.Session.{Session}
use Rattle.fix_sessions.specs.declared.state.Waiting.{Waiting}
use Rattle.fix_sessions.specs.declared.turns.Stored.{Stored}
use Rattle.fix_sessions.specs.declared.turns.Turn.{Turn}
use Rattle.fix_sessions.specs.declared.turns.Want.{Want}
use Rattle.fix_sessions.specs.declared.turns.Want.TheVariants as want
use Rattle.fix_sessions.specs.declared.turns.Way.TheVariants as way
use Rattle.fix_sessions.specs.declared.turns.Word.TheVariants as word

-- numbers are to be sent again
abbrev pub is_resending : Line → Bool
is_resending l = nat_lt l.again l.again_end

-- what is missing is to be requested
abbrev pub requests : Line → Bool
requests l = l.is_request_due && nat_lt 0 l.gap

-- What the session asks of its caller.

abbrev pub wants_of_its_own : Bool → Want
wants_of_its_own due = if due then want.Tick else want.Nothing

abbrev pub wants_on : Live → Want
wants_on a =
    if is_resending a.line then want.Again a.line.again
    else if a.line.is_held then wants_of_its_own a.line.is_test_due
    else if nat_lt a.line.fresh a.day.next then want.Fresh a.line.fresh
    else wants_of_its_own (a.line.is_test_due || requests a.line)

-- a connection that waited, once the session is free
abbrev pub wants_waiting : Option Waiting → Want
wants_waiting None = want.Nothing
wants_waiting (Some waiting) = want.Logon waiting.connection

abbrev pub wants_by : Session → Phase → Want
wants_by s phase.Away = wants_waiting s.waiting
wants_by s (phase.On line) = wants_on (live s line)
wants_by s (phase.Leaving connection since) = want.Nothing

unfoldable pub wants : Session → Want
wants s = wants_by s s.phase

-- What is sent again.

-- the last TestRequest was among it, so that no answer to it will come
abbrev pub covers_test : Line → ℕ → Bool
covers_test l to =
    not l.is_settled && nat_lt 0 l.last_test && nat_lt l.last_test to && nat_le l.again_end to

-- the line once all below a number was sent again
abbrev pub again_to : Line → ℕ → ℕ → Line
again_to l now to = record l {
  again = to;
  sent = now;
  fresh = if nat_lt l.fresh to then to else l.fresh;
  is_held = l.is_held && not (nat_lt l.fresh to);
  is_test_due = l.is_test_due || covers_test l to;
}

-- where a gap fill ends: before what is kept next, and before the answer to this connection's Logon.
-- From there on it has one number
abbrev pub before_kept : Line → ℕ → ℕ
before_kept l next_kept =
    if nat_le next_kept l.again then l.again + 1
    else if nat_lt next_kept l.again_end then next_kept else l.again_end

abbrev pub fill_end : Line → ℕ → ℕ
fill_end l next_kept =
    if not (nat_lt l.again l.split) then l.again + 1
    else if nat_lt l.split (before_kept l next_kept) then l.split else before_kept l next_kept

abbrev pub fills_gap : Live → ℕ → ℕ → Turn
fills_gap a now next_kept =
    let to = fill_end a.line next_kept in
    record (stays (record a { line = again_to a.line now to })) {
      first = said a.line.again way.Leaves (word.Fill to);
    }

-- an answer to a TestRequest is sent once
abbrev pub is_answer : Stored → Bool
is_answer stored = has_text 35 (codes "0") stored.body

abbrev pub again_of : Live → ℕ → ℕ → Option Stored → Turn
again_of a now next_kept None = fills_gap a now next_kept
again_of a now next_kept (Some stored) =
    if is_answer stored then fills_gap a now (a.line.again + 1)
    else record (stays (record a { line = again_to a.line now (a.line.again + 1) })) {
      first = said a.line.again way.Leaves (word.Again stored.body stored.is_copy stored.first);
    }

-- What leaves for the first time.

-- a Reject, the venue's or the session's, waits until the firm has answered a TestRequest
abbrev pub is_reject : List Field → Bool
is_reject body = has_text 35 (codes "3") body

abbrev pub passed : Line → Line
passed l = record l { fresh = l.fresh + 1 }

abbrev pub fresh_of : Live → ℕ → Option Stored → Turn
fresh_of a now None = stays (record a { line = passed a.line })
fresh_of a now (Some stored) =
    if is_reject stored.body && not a.line.is_settled
    then stays (record a { line = record a.line { is_held = true } })
    else record (stays (record a { line = record (passed a.line) { sent = now } })) {
      first = said a.line.fresh way.Leaves (word.Kept stored.body stored.is_copy);
    }

-- what is kept under the number that the session asks for
abbrev pub hands_on : Live → ℕ → ℕ → Option Stored → Turn
hands_on a now next_kept stored =
    if is_resending a.line then again_of a now next_kept stored
    else if not a.line.is_held && nat_lt a.line.fresh a.day.next then fresh_of a now stored
    else stays a

abbrev pub hands_by : Session → ℕ → ℕ → Option Stored → Phase → Turn
hands_by s now next_kept stored phase.Away = quiet s 0
hands_by s now next_kept stored (phase.On line) =
    hands_on (live s line) now next_kept stored
hands_by s now next_kept stored (phase.Leaving connection since) = quiet s connection

unfoldable pub hands : Session → ℕ → ℕ → Option Stored → Turn
hands s now next_kept stored =
    if is_spent s then ended (free s) (holder s.phase)
    else hands_by s now next_kept stored s.phase

-- The venue gives a message: it gets the next number and is kept; it leaves if the firm is logged on
-- and nothing before it is left to send.

abbrev pub keeps_one : Day → Day
keeps_one d = record d {
  next = d.next + 1;
  first_given = if d.first_given == 0 then d.next else d.first_given;
  last_given = d.next;
  last_kept = d.next;
}

abbrev pub keeps_given : Live → Live
keeps_given a = record a { day = keeps_one a.day }

abbrev pub given_on : Live → ℕ → List Field → Turn
given_on a now body =
    if is_clear a && (a.line.is_settled || not (is_reject body))
    then record (stays (record (keeps_given a) { line = record (passed a.line) { sent = now } })) {
      first = said a.day.next way.KeptAndLeaves (word.Kept body false);
    }
    else record (stays (keeps_given a)) { first = said a.day.next way.Kept (word.Kept body false) }
