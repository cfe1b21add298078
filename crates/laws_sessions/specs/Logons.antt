-- Who is logged on: a Logon of the firm with right credentials came, and its connection has the
-- session since.
use Rattle.std.specs.Prelude.{◌≡◌, ℕ, Bool, true, false, ◌&&◌, ◌||◌, List, [], ◌∷◌, ◌++◌, Option, Some, None, is_some}
use Rattle.fix_sessions.specs.Heard.{logon_of}
use Rattle.fix_sessions.specs.Steps.{has}
use Rattle.fix_sessions.specs.declared.state.Clock.{Clock}
use Rattle.fix_sessions.specs.declared.state.Session.{Session}
use Rattle.fix_sessions.specs.declared.texts.Names.{Names}
use Rattle.fix_sessions.specs.declared.turns.Denial.{Denial}
use Rattle.fix_sessions.specs.declared.turns.Said.{Said}
use Rattle.fix_sessions.specs.declared.turns.Turn.{Turn}
use Rattle.fix_sessions.specs.declared.turns.Way.{Way}
use Rattle.fix_sessions.specs.declared.turns.Way.TheVariants as way
use Rattle.laws_sessions.specs.Days.{Event, turn, after, Came}

-- whether a message leaves
abbrev pub is_leaving : Way → Bool
is_leaving way.Leaves = true
is_leaving way.KeptAndLeaves = true
is_leaving way.Kept = false

abbrev pub leaves_of : Option Said → Bool
leaves_of None = false
leaves_of (Some said) = is_leaving said.way

-- whether something leaves in a turn
abbrev pub sends : Turn → Bool
sends t = leaves_of t.first || leaves_of t.second

-- an event is a Logon of this session's firm on this connection, whose credentials were answered
-- right
pub record IsLogon (names : Names) (connection : ℕ) (e : Event) : Type 0 where
  pub clock : Clock
  pub bytes : List ℕ
  pub denial : Option Denial
  pub came : e ≡ Came connection clock bytes true denial
  pub logon : is_some (logon_of names bytes) ≡ true

-- whether a connection has the session after each of these events
abbrev pub keeps : Names → Session → ℕ → List Event → Bool
keeps names s connection [] = true
keeps names s connection (e ∷ es) =
    has (turn names s e).session.phase connection && keeps names (turn names s e).session connection es

-- among these events is a Logon of the firm with right credentials on this connection, which has the
-- session since
pub record IsLoggedOn (names : Names) (s : Session) (events : List Event) (connection : ℕ) : Type 0 where
  pub before : List Event
  pub logon : Event
  pub behind : List Event
  pub text : events ≡ before ++ (logon ∷ behind)
  pub is_logon : IsLogon names connection logon
  pub stood : keeps names (after names s before) connection (logon ∷ behind) ≡ true

-- the bytes of an event came on this connection
pub record CameOn (connection : ℕ) (e : Event) : Type 0 where
  pub clock : Clock
  pub bytes : List ℕ
  pub is_known : Bool
  pub denial : Option Denial
  pub came : e ≡ Came connection clock bytes is_known denial
