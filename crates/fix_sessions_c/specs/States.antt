-- A session as C holds it: the enum and the option of a session as numbers and marks.
use Rattle.std.specs.Prelude.{ℕ, Bool, false, ◌==◌, Option, Some, None, is_some, if◌then◌else◌}
use Rattle.fix_sessions.specs.declared.state.Day.{Day}
use Rattle.fix_sessions.specs.declared.state.Line.{Line}
use Rattle.fix_sessions.specs.declared.state.Phase.{Phase}
use Rattle.fix_sessions.specs.declared.state.Phase.TheVariants as phase
use Rattle.fix_sessions.specs.declared.state.Session.{Session}
use Rattle.fix_sessions.specs.declared.state.Waiting.{Waiting}
use Rattle.fix_sessions_c.specs.declared.states.SessionState.{SessionState}

-- whose it is
abbrev pub phase_of : ℕ → Line → ℕ → ℕ → Phase
phase_of number line connection since =
    if number == 1 then phase.On line
    else if number == 2 then phase.Leaving connection since else phase.Away

abbrev pub waiting_of : Bool → Waiting → Option Waiting
waiting_of waits waiting = if waits then Some waiting else None

-- the session that C holds
abbrev pub read : SessionState → Session
read s = record {
  day = s.day;
  phase = phase_of s.phase s.line s.connection s.since;
  waiting = waiting_of s.waits s.waiting;
}

abbrev pub no_line : Line
no_line = record {
  connection = 0;
  heartbeat = 0;
  received = 0;
  sent = 0;
  gap = 0;
  gap_since = 0;
  again = 0;
  again_end = 0;
  fresh = 0;
  split = 0;
  first_test = 0;
  last_test = 0;
  test_since = 0;
  overtook = 0;
  settling_since = 0;
  is_settled = false;
  is_held = false;
  is_asked = false;
  is_test_due = false;
  is_request_due = false;
}

abbrev pub some_waiting : Option Waiting → Waiting
some_waiting (Some waiting) = waiting
some_waiting None = record { connection = 0; since = 0; is_alive = false }

abbrev pub bare_state : Day → Option Waiting → SessionState
bare_state day waiting = record {
  day = day;
  phase = 0;
  line = no_line;
  connection = 0;
  since = 0;
  waits = is_some waiting;
  waiting = some_waiting waiting;
}

-- a session, shown to C
abbrev pub shown_by : SessionState → Phase → SessionState
shown_by bare phase.Away = bare
shown_by bare (phase.On line) = record bare { phase = 1; line = line }
shown_by bare (phase.Leaving connection since) = record bare { phase = 2; connection = connection; since = since }

abbrev pub shown : Session → SessionState
shown s = shown_by (bare_state s.day s.waiting) s.phase
