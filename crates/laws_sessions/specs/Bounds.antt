-- The bounds of a session: it is numbers and marks, and a turn sends at most two messages.
use Rattle.std.specs.Prelude.{ℕ, ◌≤◌, List, [], ◌∷◌, ◌++◌, Option, Some, None, if◌then◌else◌}
use Rattle.fix_sessions.specs.declared.state.Day.{Day}
use Rattle.fix_sessions.specs.declared.state.Line.{Line}
use Rattle.fix_sessions.specs.declared.state.Phase.{Phase}
use Rattle.fix_sessions.specs.declared.state.Phase.TheVariants as phase
use Rattle.fix_sessions.specs.declared.state.Session.{Session}
use Rattle.fix_sessions.specs.declared.turns.Said.{Said}
use Rattle.fix_sessions.specs.declared.turns.Turn.{Turn}
use Rattle.laws_sessions.specs.Logons.{is_leaving}

-- a number of a message has at most nine digits
abbrev pub IsNumber : ℕ → Type 0
IsNumber n = n ≤ 999999999

-- the numbers of a day
pub record DayFits (d : Day) : Type 0 where
  pub expected : IsNumber d.expected
  pub next : IsNumber d.next
  pub had : IsNumber d.had
  pub first_given : IsNumber d.first_given
  pub last_given : IsNumber d.last_given
  pub last_kept : IsNumber d.last_kept

-- those of a connection, and its heartbeat: at most 300 seconds. Its moments are those of the events
pub record LineFits (l : Line) : Type 0 where
  pub heartbeat : l.heartbeat ≤ 300000
  pub gap : IsNumber l.gap
  pub again : IsNumber l.again
  pub again_end : IsNumber l.again_end
  pub fresh : IsNumber l.fresh
  pub split : IsNumber l.split
  pub first_test : IsNumber l.first_test
  pub last_test : IsNumber l.last_test
  pub overtook : l.overtook ≤ 999999990

abbrev pub PhaseFits : Phase → Type 0
PhaseFits phase.Away = Unit {0}
PhaseFits (phase.On line) = LineFits line
PhaseFits (phase.Leaving connection since) = Unit {0}

-- each number of a session is one that a message may have
pub record SessionFits (s : Session) : Type 0 where
  pub day : DayFits s.day
  pub phase : PhaseFits s.phase

-- what a turn sends
abbrev pub sent_of : Option Said → List Said
sent_of None = []
sent_of (Some said) = if is_leaving said.way then said ∷ [] else []

abbrev pub sent_by : Turn → List Said
sent_by t = sent_of t.first ++ sent_of t.second

-- what it says bears such a number
abbrev pub SaidFits : Option Said → Type 0
SaidFits None = Unit {0}
SaidFits (Some said) = IsNumber said.number

pub record TurnFits (t : Turn) : Type 0 where
  pub session : SessionFits t.session
  pub first : SaidFits t.first
  pub second : SaidFits t.second
