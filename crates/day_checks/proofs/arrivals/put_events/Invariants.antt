use Rattle.std.proofs.Common.{◌≡◌, ◌++◌, length}
use Rattle.market_terms.specs.declared.rooms.RoomRef.{RoomRef}
use Rattle.day_checks.specs.Arrivals.{arrivals_at}
use Rattle.day_checks.specs.SweptRooms.{list_of}
use Rattle.day_checks.proofs.arrivals.put_events.Given as goal

abbrev pub invariant-loop-event : goal.invariant-loop-event
invariant-loop-event l = record {
  same : (room : RoomRef) → list_of l.by_room room ++ arrivals_at room l.firm l.rest
      ≡ list_of l.initial.by_room room ++ arrivals_at room l.firm l.events;
}

abbrev pub decreases-loop-event : goal.decreases-loop-event
decreases-loop-event l = length l.rest
