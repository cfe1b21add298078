use Rattle.std.proofs.Common.{◌≡◌, ◌++◌, length}
use Rattle.market_terms.specs.declared.rooms.RoomRef.{RoomRef}
use Rattle.day_checks.specs.DayChecks.{times_for}
use Rattle.day_checks.specs.SweptRooms.{list_of}
use Rattle.day_checks.proofs.swept_rooms.times_by_room.Given as goal

abbrev pub invariant-loop-sweep : goal.invariant-loop-sweep
invariant-loop-sweep l = record {
  same : (room : RoomRef)
      → list_of l.by_room room ++ times_for room l.rest ≡ times_for room l.sweeps;
}

abbrev pub decreases-loop-sweep : goal.decreases-loop-sweep
decreases-loop-sweep l = length l.rest
