-- What a gateway has in memory of one firm's session, and what it puts into batches, step by step.
use Rattle.std.specs.Prelude.{◌≡◌, ℕ, ◌+◌, ◌≤◌, ◌<◌, Bool, true, false, ◌&&◌, List, [], ◌∷◌, ◌++◌, length, Option, Some, None, if◌then◌else◌}
use Rattle.fix_sessions.specs.Outcomes.{are_bounded}
use Rattle.fix_sessions.specs.Sending.{hands}
use Rattle.fix_sessions.specs.Steps.{came, given, gone, log_out, new_session, ordered, tick}
use Rattle.fix_sessions.specs.Written.{kept_fields}
use Rattle.fix_sessions.specs.declared.orders.Order.TheVariants as order
use Rattle.fix_sessions.specs.declared.state.Clock.{Clock}
use Rattle.fix_sessions.specs.declared.state.Session.{Session}
use Rattle.fix_sessions.specs.declared.texts.Names.{Names}
use Rattle.fix_sessions.specs.declared.turns.Denial.{Denial}
use Rattle.fix_sessions.specs.declared.turns.Said.{Said}
use Rattle.fix_sessions.specs.declared.turns.Stored.{Stored}
use Rattle.fix_sessions.specs.declared.turns.Turn.{Turn}
use Rattle.fix_sessions.specs.declared.turns.Way.{Way}
use Rattle.fix_sessions.specs.declared.turns.Way.TheVariants as way
use Rattle.fix_sessions.specs.declared.turns.Word.{Word}
use Rattle.fix_sessions.specs.declared.turns.Word.TheVariants as word
use Rattle.session_recovery.specs.Notes.{from_nothing}
use Rattle.session_recovery.specs.Puts.{note_of, put_by, sealed_by}
use Rattle.session_recovery.specs.Recovered.{Kept, Message, Sealed, copies, without_rejects}
use Rattle.session_recovery.specs.declared.notes.Digest.{Digest}
use Rattle.session_recovery.specs.declared.notes.NoteKind.TheVariants as kind
use Rattle.session_recovery.specs.declared.puts.Standing.{Standing}

-- An event of a session, but for a message that the venue gives and an operator's reset and release.
-- Each names its connection and is one message.
pub data Event : Type 0 where
  -- on this connection, at this time, these bytes came; the credentials of a Logon are right; and what
  -- the gateway says where it does not take the message
  Came : ℕ → Clock → List ℕ → Bool → Option Denial → Event
  Gone : ℕ → Event  -- this connection is gone
  -- at this moment, what is kept under the number that the session asks for, and the next number
  -- under which something is kept
  Handed : ℕ → ℕ → Option Stored → Event
  Tick : ℕ → Event  -- it is this moment
  Opened : Clock → Event  -- the venue is open
  Closed : Clock → Event  -- or closed
  Suspended : Clock → Event  -- an operator suspends the firm
  Resumed : Clock → Event  -- or no longer
  LoggedOut : ℕ → List ℕ → Event  -- at this moment the gateway logs the firm out, for this reason

abbrev pub turn : Names → Session → Event → Turn
turn names s (Came connection clock bytes is_known denial) = came names s connection clock bytes is_known denial
turn names s (Gone connection) = gone s connection
turn names s (Handed moment next_kept stored) = hands s moment next_kept stored
turn names s (Tick moment) = tick s moment
turn names s (Opened clock) = ordered s clock order.Open
turn names s (Closed clock) = ordered s clock order.Close
turn names s (Suspended clock) = ordered s clock order.Suspend
turn names s (Resumed clock) = ordered s clock order.Resume
turn names s (LoggedOut moment reason) = log_out s moment reason

-- Memory: the session, how often it was reset, behind which place and by which act; what the venue has
-- given it, and what is kept under its numbers. (The answer to a TestRequest that waits is left out.)
pub record Memory : Type 0 where
  pub session : Session
  pub epoch : ℕ
  pub since : ℕ
  pub act : ℕ
  pub given : ℕ
  pub digest : Digest
  pub kept : List Kept

-- before the day opens
abbrev pub fresh : Memory
fresh = record {
  session = new_session;
  epoch = 0;
  since = 0;
  act = 0;
  given = 0;
  digest = from_nothing.digest;
  kept = [];
}

abbrev pub standing : Memory → ℕ → Standing
standing m moment = record { epoch = m.epoch; given = m.given; digest = m.digest; moment = moment }

-- What is done, one after the other.
pub data Step : Type 0 where
  Does : ℕ → Event → Step  -- at this time, an event
  Told : ℕ → Message → Step  -- at this moment the session is given the venue's next message
  Reset : Clock → ℕ → ℕ → Step  -- a reset is carried out, behind this place, by the act at that one
  Released : Clock → ℕ → Step  -- a release is carried out, by the act at this place
  Marked : ℕ → Step  -- at this time, a mark

-- What is kept after a turn.

abbrev pub is_refusal : Word → Bool
is_refusal (word.Reject number of_kind fault) = true
is_refusal (word.Denied number of_kind denial) = true
is_refusal other = false

abbrev pub is_kept : Way → Bool
is_kept way.Leaves = false
is_kept way.KeptAndLeaves = true
is_kept way.Kept = true

abbrev pub kept_said : ℕ → Said → List Kept
kept_said moment said =
    if is_refusal said.word && is_kept said.way
    then record {
      number = said.number;
      ordinal = 0;
      body = kept_fields said.word;
      moment = moment;
      is_copy = false;
    } ∷ []
    else []

abbrev pub kept_new : ℕ → Option Said → List Kept
kept_new moment None = []
kept_new moment (Some said) = kept_said moment said

abbrev pub kept_after : List Kept → ℕ → Turn → List Kept
kept_after kept moment t = (if t.drops_rejects then without_rejects kept else kept) ++ kept_new moment t.first

-- The venue's next message: it is kept under the number that the turn says, if there is one.

abbrev pub numbered : Memory → Message → Option Said → List Kept
numbered m message None = []
numbered m message (Some said) = record {
  number = said.number;
  ordinal = m.given + 1;
  body = message.body;
  moment = message.moment;
  is_copy = false;
} ∷ []

-- The copies of a reset: the venue's messages that the firm is not known to have.
abbrev pub copied : Memory → List Kept
copied m = copies m.session.day.had m.kept

abbrev pub memory_after : Names → Memory → Step → Memory
memory_after names m (Does moment e) =
    let t = turn names m.session e in record m { session = t.session; kept = kept_after m.kept moment t }
memory_after names m (Told moment message) =
    let t = given m.session moment message.body in
    record m {
      session = t.session;
      given = m.given + 1;
      digest = message.digest;
      kept = m.kept ++ numbered m message t.first;
    }
memory_after names m (Reset clock since act) = record m {
  session = (ordered m.session clock (order.Reset (length (copied m)))).session;
  epoch = m.epoch + 1;
  since = since;
  act = act;
  kept = copied m;
}
memory_after names m (Released clock act) = record m {
  session = (ordered m.session clock order.Release).session;
  act = act;
}
memory_after names m (Marked moment) = m

-- What each puts into the batch.
abbrev pub puts : Names → Memory → Step → List Sealed
puts names m (Does moment e) =
    let t = turn names m.session e in sealed_by (put_by (standing m moment) m.session.day t) t
puts names m (Told moment message) = []
puts names m (Reset clock since act) =
    record {
      note = note_of (standing m (clock.midnight + clock.moment)) m.session.day 0 (kind.Reset since act);
      body = [];
    } ∷ []
puts names m (Released clock act) =
    record {
      note = note_of (standing m (clock.midnight + clock.moment)) m.session.day 0 (kind.Released act);
      body = [];
    } ∷ []
puts names m (Marked moment) =
    record { note = note_of (standing m moment) m.session.day 0 kind.Mark; body = [] } ∷ []

abbrev pub tells : Step → List Message
tells (Told moment message) = message ∷ []
tells other = []

-- An act is behind those that were carried out before it, and a reset behind its act. A connection's
-- numbers are below the next where the venue's message is given: no caller broke them.
abbrev pub IsSound : Memory → Step → Type 0
IsSound m (Does moment e) = Unit {0}
IsSound m (Told moment message) = are_bounded m.session.day m.session.phase ≡ true
IsSound m (Reset clock since act) = (m.act < act) × (act ≤ since) × (m.since ≤ since)
IsSound m (Released clock act) = m.act < act
IsSound m (Marked moment) = Unit {0}

-- And all of these.

abbrev pub memory_after_all : Names → Memory → List Step → Memory
memory_after_all names m [] = m
memory_after_all names m (step ∷ steps) = memory_after_all names (memory_after names m step) steps

abbrev pub puts_all : Names → Memory → List Step → List Sealed
puts_all names m [] = []
puts_all names m (step ∷ steps) = puts names m step ++ puts_all names (memory_after names m step) steps

abbrev pub tells_all : List Step → List Message
tells_all [] = []
tells_all (step ∷ steps) = tells step ++ tells_all steps

abbrev pub AreSound : Names → Memory → List Step → Type 0
AreSound names m [] = Unit {0}
AreSound names m (step ∷ steps) = IsSound m step × AreSound names (memory_after names m step) steps
