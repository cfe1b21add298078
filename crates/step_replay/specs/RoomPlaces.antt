-- Where the code keeps a room: names for private functions alone.
use Rattle.std.specs.Prelude.{ℕ, ◌-◌, ◌&&◌, nat_le, nat_lt, length, slice_get}
use Rattle.std.specs.Prelude.{Option, Some, None, if◌then◌else◌}
use Rattle.market_terms.specs.declared.rooms.RoomRef.{RoomRef}
use Rattle.step_replay.specs.declared.floor.InvestorPlace.{InvestorPlace}
use Rattle.step_replay.specs.declared.floor.Floor.{Floor}

-- the place of a room: which of the investors' it is, and which of the rooms there
abbrev pub within : ℕ → ℕ → Option InvestorPlace → Option (ℕ × ℕ)
within investor room None = None
within investor room (Some place) =
    if nat_lt room (length place.rooms.items) then Some (investor, room) else None

-- the place of a room, where there is one
abbrev pub room_place : Floor → RoomRef → Option (ℕ × ℕ)
room_place floor room =
    if nat_le (length floor.dealers.items) room.investor && nat_le 1 room.n
    then within (room.investor - length floor.dealers.items) (room.n - 1)
    (slice_get floor.investors.items (room.investor - length floor.dealers.items))
    else None
