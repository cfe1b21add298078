-- A gateway and the database, with kills, commits that fail, failovers, and restarts of the venue's
-- process.
use Rattle.std.specs.Prelude.{◌≡◌, ℕ, ◌<◌, Bool, true, false, List, [], ◌∷◌, ◌++◌, Option, Some, None, if◌then◌else◌}
use Rattle.fix_sessions.specs.Outcomes.{are_bounded}
use Rattle.fix_sessions.specs.declared.state.Phase.TheVariants as phase
use Rattle.fix_sessions.specs.declared.texts.Names.{Names}
use Rattle.laws_sessions.specs.Agrees.{Agrees}
use Rattle.laws_sessions.specs.Counts.{AreUpTo}
use Rattle.laws_sessions.specs.Memory.{Does, IsSound, Marked, Memory, Released, Reset, Step, Told, fresh, memory_after, puts, turn}
use Rattle.session_recovery.specs.Recovered.{Message, Point, Sealed, Taken, reads_all, recovered, start}

-- A part of the log. Of its entries: what the venue gives the firm for them, and which are the firm's own.
-- (What the venue gives for an entry is what it gave: the venue is a function of the entries.) And its notes.
pub record Part : Type 0 where
  pub given : List Message
  pub taken : List Taken
  pub notes : List Sealed

abbrev pub nothing : Part
nothing = record { given = []; taken = []; notes = [] }

abbrev pub joined : Part → Part → Part
joined a b = record {
  given = a.given ++ b.given;
  taken = a.taken ++ b.taken;
  notes = a.notes ++ b.notes;
}

-- The one assumption: the database commits a batch whole, at one term, or not at all. So where a gateway
-- ends, what the next one finds is what was committed, with the batch under way or without it.
abbrev pub found : Part → Part → Bool → Part
found disk batch is_there = if is_there then joined disk batch else disk

-- a gateway; what is committed, what is being committed, and the batch that is filled
pub record World : Type 0 where
  pub memory : Memory
  pub waiting : List Message  -- what the venue has given, and the session was not told
  pub disk : Part
  pub flight : Part
  pub fill : Part
  pub is_committing : Bool

-- What happens.
pub data Act : Type 0 where
  -- a step of the session's; where it puts an entry, that has this place, and the venue gives this for it
  Moves : Step → ℕ → List Message → Act
  Enters : List Message → Act  -- an entry of somebody else is put, for which the venue gives the firm this
  Tells : ℕ → Act  -- at this moment the session is told what waits first
  Begins : Act  -- the batch that is filled is being committed, and the venue has its entries
  Ends : Act  -- it is committed
  -- the gateway ends, by a kill, a commit that fails or a failover, and the batch that was being committed is
  -- there, or not; and one starts on what it finds
  Stops : Bool → Act

-- the memory of a start: it has no connection
abbrev pub remembered : Point → Memory
remembered p = record {
  session = record { day = p.session.day; phase = phase.Away; waiting = None };
  epoch = p.session.epoch;
  since = p.session.since;
  act = p.session.act;
  given = p.session.given;
  digest = p.session.digest;
  kept = p.kept;
}

abbrev pub begun : Part → Option Point → Option World
begun part None = None
begun part (Some p) = Some (record {
  memory = remembered p;
  waiting = [];
  disk = part;
  flight = nothing;
  fill = nothing;
  is_committing = false;
})

-- a start computes what is recovered, and nothing else; where something does not fit, it ends
abbrev pub starts : Part → Option World
starts part = begun part (recovered part.given part.taken part.notes)

abbrev pub taken_at : ℕ → Option ℕ → List Taken
taken_at place None = []
taken_at place (Some number) = record { place = place; number = number } ∷ []

abbrev pub given_at : List Message → Option ℕ → List Message
given_at given None = []
given_at given (Some number) = given

abbrev pub takes : Names → Memory → Step → Option ℕ
takes names m (Does moment e) = (turn names m.session e).takes
takes names m other = None

abbrev pub put_by_step : Names → Memory → Step → ℕ → List Message → Part
put_by_step names m step place given = record {
  given = given_at given (takes names m step);
  taken = taken_at place (takes names m step);
  notes = puts names m step;
}

abbrev pub told_first : Names → World → ℕ → List Message → World
told_first names w moment [] = w
told_first names w moment (x ∷ xs) =
    record w { memory = memory_after names w.memory (Told moment x); waiting = xs }

abbrev pub begins : World → World
begins w =
    if w.is_committing then w
    else record w { flight = w.fill; fill = nothing; waiting = w.waiting ++ w.fill.given; is_committing = true }

abbrev pub world_after : Names → World → Act → Option World
world_after names w (Moves step place given) = Some (record w {
  memory = memory_after names w.memory step;
  fill = joined w.fill (put_by_step names w.memory step place given);
})
world_after names w (Enters given) =
    Some (record w { fill = joined w.fill (record { given = given; taken = []; notes = [] }) })
world_after names w (Tells moment) = Some (told_first names w moment w.waiting)
world_after names w Begins = Some (begins w)
world_after names w Ends =
    Some (record w { disk = joined w.disk w.flight; flight = nothing; is_committing = false })
world_after names w (Stops is_there) = starts (found w.disk w.flight is_there)

-- and after these acts; none where a start has ended
abbrev pub world_after_all : Names → Option World → List Act → Option World
world_after_all names None acts = None
world_after_all names (Some w) [] = Some w
world_after_all names (Some w) (act ∷ acts) = world_after_all names (world_after names w act) acts

abbrev pub first_world : World
first_world = record {
  memory = fresh;
  waiting = [];
  disk = nothing;
  flight = nothing;
  fill = nothing;
  is_committing = false;
}

-- all entries of the firm that were put and are not lost
abbrev pub all_taken : World → List Taken
all_taken w = w.disk.taken ++ (w.flight.taken ++ w.fill.taken)

-- Premises: those of a step; and an entry stands behind the last reset, a reset behind all entries.

abbrev pub is_told : Step → Bool
is_told (Told moment message) = true
is_told other = false

abbrev pub IsPlaced : World → Step → ℕ → Type 0
IsPlaced w (Does moment e) place = w.memory.since < place
IsPlaced w (Told moment message) place = Unit {0}
IsPlaced w (Reset clock since act) place = AreUpTo since (all_taken w)
IsPlaced w (Released clock act) place = Unit {0}
IsPlaced w (Marked moment) place = Unit {0}

abbrev pub IsSoundAct : World → Act → Type 0
IsSoundAct w (Moves step place given) = IsSound w.memory step × (is_told step ≡ false) × IsPlaced w step place
IsSoundAct w (Enters given) = Unit {0}
IsSoundAct w (Tells moment) = are_bounded w.memory.session.day w.memory.session.phase ≡ true
IsSoundAct w Begins = Unit {0}
IsSoundAct w Ends = Unit {0}
IsSoundAct w (Stops is_there) = Unit {0}

abbrev pub AreSoundActs : Names → Option World → List Act → Type 0
AreSoundActs names None acts = Unit {0}
AreSoundActs names (Some w) [] = Unit {0}
AreSoundActs names (Some w) (act ∷ acts) =
    IsSoundAct w act × AreSoundActs names (world_after names w act) acts

-- all notes that were put and are not lost
abbrev pub all_notes : World → List Sealed
all_notes w = w.disk.notes ++ (w.flight.notes ++ w.fill.notes)

-- what is recovered of all that was put is what is in memory. The session was told what the venue gives for
-- the entries that are committed, or being committed, but for what waits
pub record IsRecovered (w : World) : Type 0 where
  pub told : List Message
  pub point : Point
  pub in_order : told ++ w.waiting ≡ w.disk.given ++ w.flight.given
  pub reads : reads_all (Some (start told)) (all_notes w) ≡ Some point
  pub agrees : Agrees point w.memory

-- a start, whenever the gateway ends, refuses no note
abbrev pub IsReadable : Part → Type 0
IsReadable part = (p : Point) × (reads_all (Some (start part.given)) part.notes ≡ Some p)
