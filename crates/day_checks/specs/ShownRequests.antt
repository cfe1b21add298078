-- What dealers are shown, however the threads of a day ran: of each room that was opened, each
-- dealer that its request names is shown the request once, as it was asked, and nothing else. A
-- request is shown before its room is open, and its dealers are named once each, so no later post,
-- drop, award or expiry changes that.
use Rattle.std.specs.Prelude.{ℕ, ◌+◌, Bool, true, false, ◌&&◌, ◌==◌, List, [], ◌∷◌, count_by}
use Rattle.std.specs.Prelude.{Option, Some, None, is_some, if◌then◌else◌}
use Rattle.std.specs.List.{list_all, list_any}
use Rattle.std.specs.Str.{bytes_eq}
use Rattle.bond_prices.specs.Band.{same_band}
use Rattle.dealer_desk.specs.declared.events.DealerEvent.{DealerEvent}
use Rattle.dealer_desk.specs.declared.events.DealerEvent.TheVariants as at_dealer
use Rattle.market_terms.specs.Codes.{side_code}
use Rattle.market_terms.specs.declared.asks.Ask.{Ask}
use Rattle.market_terms.specs.declared.rooms.RoomRef.{RoomRef}
use Rattle.request_room.specs.Book.{room_after}
use Rattle.request_room.specs.RoomFacts.{is_named, names, request_of}
use Rattle.request_room.specs.declared.requests.RoomRequest.{RoomRequest}
use Rattle.recorded_days.specs.Records.{DealerLists}
use Rattle.day_checks.specs.DayChecks.{DayRoom, is_room, room_shown}

-- Events.

-- what is asked for in the request that an event shows
abbrev pub ask_shown : DealerEvent → Option Ask
ask_shown (at_dealer.Shown room ask moment) = Some ask
ask_shown other = None

-- whether an event shows a request
abbrev pub is_showing : DealerEvent → Bool
is_showing event = is_some (room_shown event)

-- whether it shows the request of this room
abbrev pub shows_room : RoomRef → DealerEvent → Bool
shows_room room event = is_room room (room_shown event)

-- whether two requests ask for the same: the investor, the bond, the side, the quantity, the
-- deadline, the grid and the band
unfoldable pub same_ask : Ask → Ask → Bool
same_ask one other =
    bytes_eq one.investor other.investor
    && bytes_eq one.bond other.bond
    && (side_code one.side == side_code other.side)
    && (one.quantity == other.quantity)
    && (one.deadline == other.deadline)
    && (one.grid == other.grid)
    && same_band one.band other.band

-- whether this is asked for, where something is
abbrev pub is_ask : Ask → Option Ask → Bool
is_ask ask None = false
is_ask ask (Some own) = same_ask ask own

-- whether an event shows the request of this room as one for this
abbrev pub shows : RoomRef → Ask → DealerEvent → Bool
shows room ask event = shows_room room event && is_ask ask (ask_shown event)

-- whether, of some events, exactly one shows the request of this room, and it shows it so
abbrev pub is_shown_once : List DealerEvent → RoomRef → Ask → Bool
is_shown_once events room ask =
    (count_by (shows_room room) events == 1) && list_any (shows room ask) events

-- Dealers.

-- what a dealer is to be shown of a request, where there is one and it names the dealer
abbrev pub ask_for : ℕ → Option RoomRequest → Option Ask
ask_for dealer None = None
ask_for dealer (Some request) = if names (Some request) dealer then Some request.ask else None

-- what it is to be shown of a room, by the request that the room was opened for
abbrev pub ask_due : ℕ → DayRoom → Option Ask
ask_due dealer room = ask_for dealer (request_of (room_after room.day.events))

-- whether the request of a room names a dealer
abbrev pub is_asked : ℕ → DayRoom → Bool
is_asked dealer room = is_named (room_after room.day.events) dealer

-- whether these events show the request of a room once, where it is to be shown
abbrev pub is_shown_where : List DealerEvent → RoomRef → Option Ask → Bool
is_shown_where events room None = true
is_shown_where events room (Some ask) = is_shown_once events room ask

-- Whether the events at a dealer's desk show it what it is to be shown: of each room whose request
-- names it there is one that shows that request, as it was asked, and there are no others.
abbrev pub is_shown : List DayRoom → ℕ → List DealerEvent → Bool
is_shown rooms dealer events =
    (count_by is_showing events == count_by (is_asked dealer) rooms)
    && list_all (λ room. is_shown_where events room.at (ask_due dealer room)) rooms

-- the first of some dealers, numbered onward from a number, that was not shown what it is to be
-- shown
abbrev pub unshown_from : List DayRoom → ℕ → List DealerLists → Option ℕ
unshown_from rooms number [] = None
unshown_from rooms number (dealer ∷ later) =
    if is_shown rooms number dealer.events then unshown_from rooms (number + 1) later
    else Some number

-- the first dealer that was not shown what it is to be shown
abbrev pub first_unshown : List DayRoom → List DealerLists → Option ℕ
first_unshown rooms dealers = unshown_from rooms 0 dealers
