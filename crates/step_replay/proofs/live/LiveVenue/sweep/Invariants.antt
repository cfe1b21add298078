-- The rooms so far are swept, one behind the other.
use Rattle.step_replay.proofs.Common.{List, ◌++◌, contains, Configuration, live_messages}
use Rattle.step_replay.proofs.Common.{live_trail, IsAt, room_cmp, rooms_of, sweeps_at, Step}
use Rattle.step_replay.proofs.SweptLemmas.{SweepsLeft}
use Rattle.step_replay.proofs.live.LiveVenue.sweep.Given as goal

abbrev pub invariant-loop-room : goal.invariant-loop-room
invariant-loop-room l = record {
  can_next : (goal.iterator-loop-room).can_next l.room-iterator;
  is_finite : (goal.iterator-loop-room).is_finite l.room-iterator;
  swept : (config : Configuration) (steps : List Step) → IsAt config steps l.fn.self
      → SweepsLeft config l.moment (contains room_cmp (record { keys = l.initial.room-iterator }))
      (live_trail config (steps ++ sweeps_at l.moment (rooms_of config))) l.room-iterator l.self
      (live_messages config steps ++ l.told.items);
}
