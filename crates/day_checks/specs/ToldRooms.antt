-- Words of private contracts and invariants, which no public clause names: the closing notices of a
-- dealer, put under their rooms.
use Rattle.std.specs.Prelude.{Bool, true, false, ◌&&◌, ◌==◌, List, count_by, Option, Some, None}
use Rattle.std.specs.Prelude.{if◌then◌else◌}
use Rattle.market_terms.specs.Codes.{close_code}
pub use Rattle.market_terms.specs.Rooms.{room_cmp}
use Rattle.market_terms.specs.declared.closes.Close.{Close}
use Rattle.market_terms.specs.declared.rooms.RoomRef.{RoomRef}
use Rattle.day_checks.specs.DayChecks.{is_of, is_told_once}
use Rattle.day_checks.specs.declared.notices.Notice.{Notice}
use Rattle.day_checks.specs.declared.told_rooms.Told.{Told}
use Rattle.day_checks.specs.declared.told_rooms.Told.TheVariants as told

-- what was told of a room, where a notice more is of it
abbrev pub told_more : Option Told → Close → Told
told_more None close = told.Once close
told_more (Some was) close = told.Often

-- what was told of a room, after a notice more
abbrev pub told_after : RoomRef → Notice → Option Told → Option Told
told_after room notice was =
    if is_of room notice then Some (told_more was notice.close) else was

-- whether exactly one notice was of a room, and it said this
abbrev pub is_once : Option Told → Close → Bool
is_once None close = false
is_once (Some (told.Once said)) close = close_code said == close_code close
is_once (Some told.Often) close = false

-- the same where these notices are still to come
abbrev pub is_once_with : Option Told → List Notice → RoomRef → Close → Bool
is_once_with None later room close = is_told_once later room close
is_once_with (Some (told.Once said)) later room close =
    (count_by (is_of room) later == 0) && (close_code said == close_code close)
is_once_with (Some told.Often) later room close = false

-- whether a room of which this was told was told once, where it is to be told
abbrev pub is_settled_by : Option Told → Option Close → Bool
is_settled_by was None = true
is_settled_by was (Some close) = is_once was close
