use Rattle.std.proofs.Common.{◌≡◌, length}
use Rattle.std.specs.BTreeMap.{get}
use Rattle.market_terms.specs.declared.asks.Ask.{Ask}
use Rattle.market_terms.specs.declared.rooms.RoomRef.{RoomRef}
use Rattle.day_checks.specs.ShownRequests.{is_shown_once}
use Rattle.day_checks.specs.ShownRooms.{is_once_with}
use Rattle.day_checks.specs.ToldRooms.{room_cmp}
use Rattle.day_checks.proofs.shown_rooms.shown_by_room.Given as goal

abbrev pub invariant-loop-event : goal.invariant-loop-event
invariant-loop-event l = record {
  same : (room : RoomRef) (ask : Ask)
      → is_once_with (get room_cmp l.by_room room) l.rest room ask
      ≡ is_shown_once l.events room ask;
}

abbrev pub decreases-loop-event : goal.decreases-loop-event
decreases-loop-event l = length l.rest
