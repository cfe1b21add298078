-- Words of private contracts and invariants, which no public clause names: the requests that a
-- dealer was shown, put under their rooms.
use Rattle.std.specs.Prelude.{Bool, true, false, ◌&&◌, ◌==◌, List, count_by, Option, Some, None}
use Rattle.std.specs.Prelude.{is_some, if◌then◌else◌}
use Rattle.dealer_desk.specs.declared.events.DealerEvent.{DealerEvent}
use Rattle.dealer_desk.specs.declared.events.DealerEvent.TheVariants as at_dealer
use Rattle.market_terms.specs.declared.asks.Ask.{Ask}
use Rattle.market_terms.specs.declared.rooms.RoomRef.{RoomRef}
use Rattle.market_terms.specs.Rooms.{is_same_room}
use Rattle.day_checks.specs.ShownRequests.{is_shown_once, same_ask, shows_room}
use Rattle.day_checks.specs.declared.shown_rooms.Shown.{Shown}
use Rattle.day_checks.specs.declared.shown_rooms.Shown.TheVariants as shown

-- what was shown of a room by an event that shows its request, where another did so before or not
abbrev pub shown_more : Bool → Ask → Shown
shown_more true ask = shown.Often
shown_more false ask = shown.Once ask

-- what was shown of a room, after an event more
abbrev pub shown_after : RoomRef → DealerEvent → Option Shown → Option Shown
shown_after room (at_dealer.Shown own ask moment) was =
    if is_same_room room own then Some (shown_more (is_some was) ask) else was
shown_after room other was = was

-- whether exactly one event showed the request of a room, and as one for this
abbrev pub is_once : Option Shown → Ask → Bool
is_once None ask = false
is_once (Some (shown.Once own)) ask = same_ask ask own
is_once (Some shown.Often) ask = false

-- the same where these events are still to come
abbrev pub is_once_with : Option Shown → List DealerEvent → RoomRef → Ask → Bool
is_once_with None later room ask = is_shown_once later room ask
is_once_with (Some (shown.Once own)) later room ask =
    (count_by (shows_room room) later == 0) && same_ask ask own
is_once_with (Some shown.Often) later room ask = false

-- whether the request of a room of which this was shown was shown once, where it is to be shown
abbrev pub is_shown_by : Option Shown → Option Ask → Bool
is_shown_by was None = true
is_shown_by was (Some ask) = is_once was ask
