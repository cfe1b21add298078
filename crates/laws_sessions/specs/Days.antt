-- A day of a session: what comes to it, one event after the other, and what each does. The laws speak
-- of this.
use Rattle.std.specs.Prelude.{ℕ, Bool, true, false, ◌&&◌, not, List, [], ◌∷◌, Option}
use Rattle.fix_fields.specs.Frame.{Field}
use Rattle.fix_sessions.specs.Sending.{hands}
use Rattle.fix_sessions.specs.Steps.{came, given, gone, log_out, tick, ordered}
use Rattle.fix_sessions.specs.declared.orders.Order.{Order}
use Rattle.fix_sessions.specs.declared.orders.Order.TheVariants as order
use Rattle.fix_sessions.specs.declared.state.Clock.{Clock}
use Rattle.fix_sessions.specs.declared.state.Session.{Session}
use Rattle.fix_sessions.specs.declared.texts.Names.{Names}
use Rattle.fix_sessions.specs.declared.turns.Denial.{Denial}
use Rattle.fix_sessions.specs.declared.turns.Stored.{Stored}
use Rattle.fix_sessions.specs.declared.turns.Turn.{Turn}

-- Each event names its connection, and is one message.
pub data Event : Type 0 where
  -- on this connection, at this time, these bytes came; the credentials of a Logon are right; and what
  -- the gateway says where it does not take the message
  Came : ℕ → Clock → List ℕ → Bool → Option Denial → Event
  Gone : ℕ → Event  -- this connection is gone
  Given : ℕ → List Field → Event  -- at this moment the venue gives a message
  -- at this moment, what is kept under the number that the session asks for, and the next number
  -- under which something is kept
  Handed : ℕ → ℕ → Option Stored → Event
  Tick : ℕ → Event  -- it is this moment
  Ordered : Clock → Order → Event  -- at this time an operator orders something
  LoggedOut : ℕ → List ℕ → Event  -- at this moment the gateway logs the firm out, for this reason

-- what an event does
abbrev pub turn : Names → Session → Event → Turn
turn names s (Came connection clock bytes is_known denial) = came names s connection clock bytes is_known denial
turn names s (Gone connection) = gone s connection
turn names s (Given moment body) = given s moment body
turn names s (Handed moment next_kept stored) = hands s moment next_kept stored
turn names s (Tick moment) = tick s moment
turn names s (Ordered clock what) = ordered s clock what
turn names s (LoggedOut moment reason) = log_out s moment reason

-- the session after these events
abbrev pub after : Names → Session → List Event → Session
after names s [] = s
after names s (e ∷ es) = after names (turn names s e).session es

-- what these events do, one turn after the other
abbrev pub turns : Names → Session → List Event → List Turn
turns names s [] = []
turns names s (e ∷ es) = turn names s e ∷ turns names (turn names s e).session es

-- whether an operator resets the session
abbrev pub is_order_to_reset : Order → Bool
is_order_to_reset (order.Reset copies) = true
is_order_to_reset other = false

abbrev pub is_reset : Event → Bool
is_reset (Ordered clock what) = is_order_to_reset what
is_reset other = false

-- whether no operator resets the session
abbrev pub without_resets : List Event → Bool
without_resets [] = true
without_resets (e ∷ es) = not (is_reset e) && without_resets es
