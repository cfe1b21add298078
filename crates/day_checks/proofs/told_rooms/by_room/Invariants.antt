use Rattle.std.proofs.Common.{◌≡◌, length}
use Rattle.std.specs.BTreeMap.{get}
use Rattle.market_terms.specs.declared.closes.Close.{Close}
use Rattle.market_terms.specs.declared.rooms.RoomRef.{RoomRef}
use Rattle.day_checks.specs.DayChecks.{is_told_once}
use Rattle.day_checks.specs.ToldRooms.{is_once_with, room_cmp}
use Rattle.day_checks.proofs.told_rooms.by_room.Given as goal

abbrev pub invariant-loop-notice : goal.invariant-loop-notice
invariant-loop-notice l = record {
  same : (room : RoomRef) (close : Close)
      → is_once_with (get room_cmp l.by_room room) l.rest room close
      ≡ is_told_once l.notices room close;
}

abbrev pub decreases-loop-notice : goal.decreases-loop-notice
decreases-loop-notice l = length l.rest
