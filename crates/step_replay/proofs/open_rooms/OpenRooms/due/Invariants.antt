-- The rooms so far, and those that are due among the entries that are left, are all that are due.
use Rattle.step_replay.proofs.Common.{◌≡◌, ◌||◌, contains, IsStrictlySortedBy, RoomRef, any_due}
use Rattle.step_replay.proofs.Common.{entry_cmp, room_cmp}
use Rattle.std.specs.BTreeSet.{IsOrdered}
use Rattle.step_replay.proofs.open_rooms.OpenRooms.due.Given as goal

abbrev pub invariant-loop-deadline : goal.invariant-loop-deadline
invariant-loop-deadline l = record {
  can_next : (goal.iterator-loop-deadline).can_next l.deadline-iterator;
  is_finite : (goal.iterator-loop-deadline).is_finite l.deadline-iterator;
  ordered : IsOrdered room_cmp l.rooms;
  left_ordered : IsStrictlySortedBy entry_cmp l.deadline-iterator;
  each : (room : RoomRef)
      → (contains room_cmp l.rooms room || any_due l.moment room l.deadline-iterator)
      ≡ any_due l.moment room l.self.by_deadline.keys;
}
