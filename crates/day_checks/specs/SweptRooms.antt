-- Words of private contracts and invariants, which no public clause names: the moments at which the
-- clock was to sweep the rooms, put under their rooms.
use Rattle.std.specs.Prelude.{ℕ, Bool, List, [], ◌∷◌, ◌++◌, Option, Some, None, if◌then◌else◌}
use Rattle.std.specs.BTreeMap.{BTreeMap, get}
use Rattle.std.specs.Global.{Vec}
use Rattle.std.specs.Str.{bytes_eq}
use Rattle.market_terms.specs.declared.rooms.RoomRef.{RoomRef}
use Rattle.recorded_days.specs.declared.actions.Sweep.{Sweep}
use Rattle.day_checks.specs.DayChecks.{DayRoom, times_swept}
use Rattle.market_terms.specs.Rooms.{is_same_room}
use Rattle.day_checks.specs.ToldRooms.{room_cmp}

-- what is in a list, where there is one
abbrev pub list_in : {T : Type 0} → Option (Vec T) → List T
list_in None = []
list_in (Some list) = list.items

-- what stands under a room
abbrev pub list_of : {T : Type 0} → BTreeMap RoomRef (Vec T) → RoomRef → List T
list_of by_room room = list_in (get room_cmp by_room room)

-- the moments of a room, after a sweep more
abbrev pub times_after : RoomRef → Sweep → List ℕ → List ℕ
times_after room sweep times =
    if is_same_room room sweep.room then times ++ sweep.moment ∷ [] else times

-- whether a room was swept at the moments that stand under it
abbrev pub is_swept_by : BTreeMap RoomRef (Vec ℕ) → DayRoom → Bool
is_swept_by by_room room = bytes_eq (times_swept room.day.events) (list_of by_room room.at)
