use Rattle.std.proofs.Common.{◌≡◌, ◌+◌, ◌++◌, length}
use Rattle.market_terms.specs.declared.rooms.RoomRef.{RoomRef}
use Rattle.day_checks.specs.Arrivals.{arrivals_from}
use Rattle.day_checks.specs.SweptRooms.{list_of}
use Rattle.day_checks.proofs.arrivals.arrivals_by_room.Given as goal

abbrev pub invariant-loop-investor : goal.invariant-loop-investor
invariant-loop-investor l = record {
  same : (room : RoomRef) → list_of l.by_room room ++ arrivals_from room l.firm l.rest
      ≡ arrivals_from room l.first l.investors;
  counted : l.firm + length l.rest ≡ l.first + length l.investors;
}

abbrev pub decreases-loop-investor : goal.decreases-loop-investor
decreases-loop-investor l = length l.rest
