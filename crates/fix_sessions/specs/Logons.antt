-- The first message of a connection, row by row.
use Rattle.std.specs.Prelude.{ℕ, ◌+◌, ◌-◌, ◌*◌, Bool, true, false, ◌&&◌, ◌||◌, ◌==◌, not, nat_le, nat_lt, List, Option, Some, None, if◌then◌else◌}
use Rattle.fix_sessions.specs.Heard.{logon_of}
use Rattle.fix_sessions.specs.Outcomes.{quiet, ended, said, alive}
use Rattle.fix_sessions.specs.declared.state.Clock.{Clock}
use Rattle.fix_sessions.specs.declared.state.Day.{Day}
use Rattle.fix_sessions.specs.declared.state.Line.{Line}
use Rattle.fix_sessions.specs.declared.state.Phase.{Phase}
use Rattle.fix_sessions.specs.declared.state.Phase.TheVariants as phase
use Rattle.fix_sessions.specs.declared.state.Session.{Session}
use Rattle.fix_sessions.specs.declared.state.Waiting.{Waiting}
use Rattle.fix_sessions.specs.declared.state.TheConstants.{CLOCK_GAP, DAY_LENGTH, LONGEST_HEARTBEAT}
use Rattle.fix_sessions.specs.declared.messages.Reading.{Reading}
use Rattle.fix_sessions.specs.declared.messages.Reading.TheVariants as reading
use Rattle.fix_sessions.specs.declared.messages.Terms.{Terms}
use Rattle.fix_sessions.specs.declared.texts.Names.{Names}
use Rattle.fix_sessions.specs.declared.turns.Denial.{Denial}
use Rattle.fix_sessions.specs.declared.turns.Ending.TheVariants as ending
use Rattle.fix_sessions.specs.declared.turns.Notice.{Notice}
use Rattle.fix_sessions.specs.declared.turns.Notice.TheVariants as notice
use Rattle.fix_sessions.specs.declared.turns.Turn.{Turn}
use Rattle.fix_sessions.specs.declared.turns.Way.TheVariants as way
use Rattle.fix_sessions.specs.declared.turns.Why.{Why}
use Rattle.fix_sessions.specs.declared.turns.Why.TheVariants as why
use Rattle.fix_sessions.specs.declared.turns.Word.{Word}
use Rattle.fix_sessions.specs.declared.turns.Word.TheVariants as word

-- Times.

-- whether a time is more than two minutes from the time of arrival
abbrev pub is_off : Clock → ℕ → Bool
is_off clock time =
    let arrival = clock.midnight + clock.moment in
    nat_lt CLOCK_GAP (time - arrival) || nat_lt CLOCK_GAP (arrival - time)

-- whether a time is of the session's day
abbrev pub is_today : Clock → ℕ → Bool
is_today clock time = nat_le clock.midnight time && nat_lt time (clock.midnight + DAY_LENGTH)

-- SendingTime (52) of a Logon
abbrev pub is_in_time : Clock → Reading → Bool
is_in_time clock reading.Missing = false
is_in_time clock reading.Faulty = false
is_in_time clock (reading.Is time) = is_today clock time && not (is_off clock time)

abbrev pub value_or_zero : Reading → ℕ
value_or_zero reading.Missing = 0
value_or_zero reading.Faulty = 0
value_or_zero (reading.Is time) = time

-- HeartBtInt (108)
abbrev pub is_heartbeat : Reading → Bool
is_heartbeat reading.Missing = false
is_heartbeat reading.Faulty = false
is_heartbeat (reading.Is seconds) = nat_le 1 seconds && nat_le seconds LONGEST_HEARTBEAT

-- A refusal.

-- whether the venue owes the firm nothing: all that is kept has left, and the firm has answered a
-- later TestRequest
abbrev pub owes_nothing : Day → Bool
owes_nothing d = nat_le d.last_kept d.had

-- the number of a Logout that refuses a Logon, and the day once it is used up
abbrev pub refusal_number : Day → ℕ
refusal_number d = if d.is_one_free then 1 else d.next

abbrev pub refusal_day : Day → Day
refusal_day d = if d.is_one_free then record d { is_one_free = false } else record d { next = d.next + 1 }

-- whether that Logout is safe: no engine can take it for a message that it misses
abbrev pub is_safe : Day → Terms → Bool
is_safe d terms = d.is_one_free || terms.resets || owes_nothing d

-- a Logout if it is safe, else the connection ends
abbrev pub refuses : Session → ℕ → Terms → Word → Notice → Turn
refuses s connection terms logout told =
    if is_safe s.day terms
    then record (quiet (record s { day = refusal_day s.day }) connection) {
      first = said (refusal_number s.day) way.Leaves logout;
      ending = ending.Parts;
      notice = Some told;
    }
    else record (ended s connection) { notice = Some told }

abbrev pub refused : Session → ℕ → Terms → Why → Turn
refused s connection terms why = refuses s connection terms (word.Logout why) (notice.Refused why)

-- A Logon that rows 4 and 5 refuse is held against row 7 first. Else the refused Logons of an engine
-- that has lost its store would climb to the expected number, and what it sent under lower ones would
-- be lost without a word.

-- the session of an engine that has lost its store: no Logon is accepted
abbrev pub locked : Session → Session
locked s = record s { day = record s.day { is_locked = true } }

-- whether the engine shows for the first time that it has lost its store: its number came before, and
-- it makes its Logon after the last one that was accepted, or by a clock that shows nothing
abbrev pub shows_loss : Day → Clock → Terms → Bool
shows_loss d clock terms =
    not d.is_locked && not terms.resets && nat_lt terms.number d.expected
    && (nat_lt d.last_logon (value_or_zero terms.sent) || not (is_in_time clock terms.sent))

-- the refusal keeps its words, and the operator is told of the store in the place of the refusal
abbrev pub refuses_early : Session → ℕ → Clock → Terms → Word → Notice → Turn
refuses_early s connection clock terms logout told =
    if shows_loss s.day clock terms
    then refuses (locked s) connection terms logout notice.LostStore
    else refuses s connection terms logout told

abbrev pub refused_early : Session → ℕ → Clock → Terms → Why → Turn
refused_early s connection clock terms why =
    refuses_early s connection clock terms (word.Logout why) (notice.Refused why)

-- in the gateway's words, where it gives some
abbrev pub logout_of : Why → Option Denial → Word
logout_of why None = word.Logout why
logout_of why (Some denial) = word.LogoutFor denial.text

abbrev pub refused_for : Session → ℕ → Clock → Terms → Why → Option Denial → Turn
refused_for s connection clock terms why denial =
    refuses_early s connection clock terms (logout_of why denial) (notice.Refused why)

-- An answer.

-- whether the answer has number 1: it is the day's first, or the Logon resets numbers
abbrev pub has_one : Day → Terms → Bool
has_one d terms = d.is_one_free || terms.resets

abbrev pub answer_number : Day → Terms → ℕ
answer_number d terms = if has_one d terms then 1 else d.next

-- the number that is expected, once numbers are reset
abbrev pub expected_by : Day → Terms → ℕ
expected_by d terms = if terms.resets then 1 else d.expected

-- whether messages before the Logon are missing
abbrev pub has_gap : Day → Terms → Bool
has_gap d terms = nat_lt (expected_by d terms) terms.number

-- the day once the Logon is accepted: it is counted if nothing before it is missing
abbrev pub accepted_day : Day → Terms → Day
accepted_day d terms = record d {
  expected = if has_gap d terms then expected_by d terms else expected_by d terms + 1;
  next = if has_one d terms then d.next else d.next + 1;
  last_kept = if terms.resets then d.last_given else d.last_kept;
  is_one_free = false;
  is_reset = false;
  last_logon = value_or_zero terms.sent;
}

-- the first number that a firm requests by NextExpectedMsgSeqNum (789), or that of the answer
abbrev pub first_wanted : Reading → ℕ → ℕ
first_wanted reading.Missing answer = answer
first_wanted reading.Faulty answer = answer
first_wanted (reading.Is number) answer = if nat_lt number answer then number else answer

abbrev pub is_missing : Reading → Bool
is_missing reading.Missing = true
is_missing reading.Faulty = false
is_missing (reading.Is number) = false

-- from which number on a gap fill has one number alone: that of the answer, or the next where the
-- answer has 1
abbrev pub split_of : Day → Day → Terms → ℕ
split_of before after terms =
    if not (has_one before terms) then before.next
    else if after.next == 2 then 1 else after.next

-- the connection once its Logon is accepted
abbrev pub accepted_line : Day → Day → ℕ → ℕ → Terms → Line
accepted_line before after connection now terms = record {
  connection = connection;
  heartbeat = value_or_zero terms.seconds * 1000;
  received = now;
  sent = now;
  gap = if has_gap before terms then terms.number else 0;
  gap_since = now;
  again = first_wanted terms.expects (answer_number before terms);
  again_end = answer_number before terms;
  fresh = after.next;
  split = split_of before after terms;
  first_test = 0;
  last_test = 0;
  test_since = now;
  overtook = 0;
  settling_since = now;
  is_settled = false;
  is_held = false;
  is_asked = false;
  is_test_due = true;
  is_request_due = has_gap before terms && is_missing terms.expects;
}

-- NextExpectedMsgSeqNum (789) of the answer, where the Logon has one
abbrev pub answered_expects : Day → Reading → Option ℕ
answered_expects after reading.Missing = None
answered_expects after reading.Faulty = None
answered_expects after (reading.Is number) = Some after.expected

-- a Logon that nothing refuses is answered, and counted
abbrev pub accepts : Session → ℕ → ℕ → Terms → Turn
accepts s connection now terms =
    let after = accepted_day s.day terms in
    record (quiet (record {
      day = after;
      phase = phase.On (accepted_line s.day after connection now terms);
      waiting = alive s.waiting;
    }) connection) {
      first = said (answer_number s.day terms) way.Leaves
          (word.Logon (value_or_zero terms.seconds) terms.resets (answered_expects after terms.expects));
      drops_rejects = terms.resets;
    }

-- whether 789 is no number from 1 to the next that the venue will send
abbrev pub is_ahead : Reading → ℕ → Bool
is_ahead reading.Missing answer = false
is_ahead reading.Faulty answer = true
is_ahead (reading.Is number) answer = (number == 0) || nat_lt answer number

abbrev pub judged_ahead : Session → ℕ → ℕ → Terms → Turn
judged_ahead s connection now terms =
    if is_ahead terms.expects (answer_number s.day terms) then refused s connection terms why.Ahead
    else accepts s connection now terms

-- a Logon whose number is too low is refused
abbrev pub too_low : Session → ℕ → Terms → Turn
too_low s connection terms =
    let low = why.TooLow s.day.expected in
    if nat_lt s.day.last_logon (value_or_zero terms.sent)
    then refuses (locked s) connection terms (word.Logout low) notice.LostStore
    else refused s connection terms low

abbrev pub judged_number : Session → ℕ → ℕ → Terms → Turn
judged_number s connection now terms =
    if s.day.is_locked then refused s connection terms why.Lost
    else if s.day.is_reset && not terms.resets && not (terms.number == 1)
    then refused s connection terms why.Begin
    else if nat_lt terms.number (expected_by s.day terms) then too_low s connection terms
    else judged_ahead s connection now terms

-- whether a Logon may reset the numbers: not once a message of the firm was given to the venue, or
-- the firm is known to have one of the venue's
abbrev pub may_reset : Day → Bool
may_reset d = not d.was_taken && not (nat_lt 0 d.first_given && nat_le d.first_given d.had)

abbrev pub judged_reset : Session → ℕ → ℕ → Terms → Turn
judged_reset s connection now terms =
    if terms.resets && not ((terms.number == 1) && may_reset s.day) then refused s connection terms why.Reset
    else judged_number s connection now terms

-- a Logon of wrong terms is refused
abbrev pub judged_terms : Session → ℕ → Clock → Terms → Turn
judged_terms s connection clock terms =
    if not terms.is_plain then refused_early s connection clock terms why.Encrypted
    else if not terms.is_fix50 then refused_early s connection clock terms why.Version
    else if not (is_heartbeat terms.seconds) then refused_early s connection clock terms why.Heartbeat
    else if not (is_in_time clock terms.sent) then refused_early s connection clock terms why.Clock
    else judged_reset s connection clock.moment terms

-- one that the gateway does not take
abbrev pub judged_denial : Session → ℕ → Clock → Terms → Option Denial → Turn
judged_denial s connection clock terms None = judged_terms s connection clock terms
judged_denial s connection clock terms (Some denial) =
    refuses_early s connection clock terms (word.LogoutFor denial.text) notice.Denied

-- and one while the venue is closed or the firm suspended
abbrev pub judged : Session → ℕ → Clock → Terms → Option Denial → Turn
judged s connection clock terms denial =
    if not s.day.is_open then refused_for s connection clock terms why.Closed denial
    else if s.day.is_suspended then refused_for s connection clock terms why.Suspended denial
    else judged_denial s connection clock terms denial

-- Where another connection has the session.

-- a TestRequest asks the old one
abbrev pub probed : Phase → Phase
probed (phase.On line) = phase.On (record line { is_asked = true; is_test_due = true })
probed other = other

-- the new one waits; of those that come meanwhile none does
abbrev pub waits_for : Session → ℕ → ℕ → Option Waiting → Turn
waits_for s connection now None =
    quiet (record s {
      phase = probed s.phase;
      waiting = Some (record { connection = connection; since = now; is_alive = false });
    }) connection
waits_for s connection now (Some waiting) =
    if waiting.connection == connection then quiet s connection else ended s connection

-- who waited waits no more
abbrev pub without : ℕ → Option Waiting → Option Waiting
without connection None = None
without connection (Some waiting) = if waiting.connection == connection then None else Some waiting

abbrev pub judged_by : Session → ℕ → Clock → Terms → Option Denial → Phase → Turn
judged_by s connection clock terms denial phase.Away =
    judged (record s { waiting = without connection s.waiting }) connection clock terms denial
judged_by s connection clock terms denial other = waits_for s connection clock.moment s.waiting

-- no Logon that can be read, or wrong credentials: the connection ends, and nothing is sent
abbrev pub first_by : Session → ℕ → Clock → Bool → Option Denial → Option Terms → Turn
first_by s connection clock is_known denial None = ended s connection
first_by s connection clock is_known denial (Some terms) =
    if is_known then judged_by s connection clock terms denial s.phase
    else record (ended s connection) { notice = Some notice.Credentials }

abbrev pub came_first : Names → Session → ℕ → Clock → List ℕ → Bool → Option Denial → Turn
came_first names s connection clock bytes is_known denial =
    first_by s connection clock is_known denial (logon_of names bytes)
