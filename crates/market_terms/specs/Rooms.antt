-- Rooms, by the number of their investor and of its request.
use Rattle.std.specs.Prelude.{Bool, ◌==◌, ◌&&◌}
use Rattle.std.specs.Ordering.{nat_cmp, ordering_then}
use Rattle.std.specs.declared.cmp.Ordering.{Ordering}
use Rattle.market_terms.specs.declared.rooms.RoomRef.{RoomRef}

-- whether two rooms are one
abbrev pub is_same_room : RoomRef → RoomRef → Bool
is_same_room one other = (one.investor == other.investor) && (one.n == other.n)

-- rooms in the order of their investors and of their requests
abbrev pub room_cmp : RoomRef → RoomRef → Ordering
room_cmp one other = ordering_then (nat_cmp one.investor other.investor) (nat_cmp one.n other.n)
