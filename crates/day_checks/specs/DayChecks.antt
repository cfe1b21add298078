-- What the events of a day keep, however its threads ran: each firm's own messages are its inbox,
-- each named dealer is told once how a request ended, and each room is swept as the clock was told.
use Rattle.std.specs.Prelude.{ℕ, ◌+◌, ◌-◌, Bool, true, false, ◌&&◌, ◌==◌, not, nat_lt, List, []}
use Rattle.std.specs.Prelude.{◌∷◌, length, count_by, find, slice_get, Option, Some, None, is_some}
use Rattle.std.specs.Prelude.{if◌then◌else◌}
use Rattle.std.specs.List.{filter_map, list_all, list_any}
use Rattle.std.specs.Option.{option_map}
use Rattle.std.specs.Str.{bytes_eq}
use Rattle.dealer_desk.specs.declared.events.DealerEvent.{DealerEvent}
use Rattle.dealer_desk.specs.declared.events.DealerEvent.TheVariants as at_dealer
use Rattle.investor_desk.specs.declared.events.InvestorEvent.{InvestorEvent}
use Rattle.investor_desk.specs.declared.events.InvestorEvent.TheVariants as at_investor
use Rattle.market_terms.specs.Codes.{close_code}
use Rattle.market_terms.specs.Rooms.{is_same_room}
use Rattle.market_terms.specs.declared.closes.Close.{Close}
use Rattle.market_terms.specs.declared.rooms.RoomRef.{RoomRef}
use Rattle.request_room.specs.Book.{room_after}
use Rattle.request_room.specs.RoomFacts.{end_of, is_named}
use Rattle.request_room.specs.declared.events.RoomEvent.{RoomEvent}
use Rattle.request_room.specs.declared.events.RoomEvent.TheVariants as in_room
use Rattle.recorded_days.specs.Records.{DealerLists, RoomLists}
use Rattle.recorded_days.specs.declared.actions.Inbound.{Inbound}
use Rattle.recorded_days.specs.declared.actions.Sweep.{Sweep}
use Rattle.venue_steps.specs.RoomDuties.{close_for}
use Rattle.day_checks.specs.declared.notices.Notice.{Notice}

-- A room of a day: which one it is, and what is recorded of it.
pub record DayRoom : Type 0 where
  pub at : RoomRef
  pub day : RoomLists

-- Messages.

-- the message that an event at a dealer's desk brought, where one of the dealer's own came
abbrev pub own_of_dealer : DealerEvent → Option Inbound
own_of_dealer (at_dealer.Received moment message settlement) =
    Some (record { moment = moment; bytes = message })
own_of_dealer other = None

-- the same at an investor's desk
abbrev pub own_of_investor : InvestorEvent → Option Inbound
own_of_investor (at_investor.Received moment message) =
    Some (record { moment = moment; bytes = message })
own_of_investor other = None

-- all messages that came from a dealer, in their order
abbrev pub came_from_dealer : List DealerEvent → List Inbound
came_from_dealer events = filter_map own_of_dealer events

-- all messages that came from an investor, in their order
abbrev pub came_from_investor : List InvestorEvent → List Inbound
came_from_investor events = filter_map own_of_investor events

-- Closing notices.

-- the room of a request that a dealer is shown
abbrev pub room_shown : DealerEvent → Option RoomRef
room_shown (at_dealer.Shown room ask moment) = Some room
room_shown other = None

-- the rooms of the requests that a dealer was shown, in their order
abbrev pub rooms_shown : List DealerEvent → List RoomRef
rooms_shown events = filter_map room_shown events

-- the room of the dealer's request with this number, from 1
abbrev pub room_of_request : List RoomRef → ℕ → Option RoomRef
room_of_request rooms request = if nat_lt 0 request then slice_get rooms (request - 1) else None

-- the closing notice that an event is, of a dealer that was shown these rooms' requests
abbrev pub notice_in : List RoomRef → DealerEvent → Option Notice
notice_in rooms (at_dealer.Told request close moment) =
    Some (record { room = room_of_request rooms request; close = close })
notice_in rooms other = None

-- all closing notices that a dealer was told, in their order
abbrev pub notices_told : List DealerEvent → List Notice
notices_told events = filter_map (notice_in (rooms_shown events)) events

-- whether this is that room, where there is one
abbrev pub is_room : RoomRef → Option RoomRef → Bool
is_room room None = false
is_room room (Some other) = is_same_room room other

-- whether a notice is of this room
abbrev pub is_of : RoomRef → Notice → Bool
is_of room notice = is_room room notice.room

-- whether a notice says that this room ended so for the dealer
abbrev pub says : RoomRef → Close → Notice → Bool
says room close notice = is_of room notice && (close_code notice.close == close_code close)

-- whether, of some closing notices, exactly one is of this room, and it says this
abbrev pub is_told_once : List Notice → RoomRef → Close → Bool
is_told_once notices room close =
    (count_by (is_of room) notices == 1) && list_any (says room close) notices

-- how the room ended for a dealer, where it ended and its request names the dealer
abbrev pub close_due : ℕ → DayRoom → Option Close
close_due dealer room =
    if is_named (room_after room.day.events) dealer
    then option_map (λ end. close_for end dealer) (end_of (room_after room.day.events))
    else None

-- whether a dealer is to be told how this room ended
abbrev pub owes : ℕ → DayRoom → Bool
owes dealer room = is_some (close_due dealer room)

-- whether a dealer with these closing notices was told once how this room ended for it, where it is
-- to be told
abbrev pub is_settled : List Notice → RoomRef → Option Close → Bool
is_settled notices room None = true
is_settled notices room (Some close) = is_told_once notices room close

-- Whether these closing notices are what a dealer is to be told: of each room that ended and names
-- it there is one, which says how the room ended for this dealer, and there are no others.
abbrev pub are_due : List Notice → ℕ → List DayRoom → Bool
are_due notices dealer rooms =
    (length notices == count_by (owes dealer) rooms)
    && list_all (λ room. is_settled notices room.at (close_due dealer room)) rooms

-- whether a dealer was told what it is to be told, by the events at its desk
abbrev pub is_told : List DayRoom → ℕ → List DealerEvent → Bool
is_told rooms dealer events = are_due (notices_told events) dealer rooms

-- the first of some dealers, numbered onward from a number, that was not told what it is to be told
abbrev pub untold_from : List DayRoom → ℕ → List DealerLists → Option ℕ
untold_from rooms number [] = None
untold_from rooms number (dealer ∷ later) =
    if is_told rooms number dealer.events then untold_from rooms (number + 1) later
    else Some number

-- the first dealer that was not told what it is to be told
abbrev pub first_untold : List DayRoom → List DealerLists → Option ℕ
first_untold rooms dealers = untold_from rooms 0 dealers

-- Sweeps.

-- the moment of an event that is a sweep
abbrev pub swept_at : RoomEvent → Option ℕ
swept_at (in_room.Expire moment) = Some moment
swept_at other = None

-- the moments at which a room was swept, in their order
abbrev pub times_swept : List RoomEvent → List ℕ
times_swept events = filter_map swept_at events

-- the moment of a sweep of this room
abbrev pub time_for : RoomRef → Sweep → Option ℕ
time_for room sweep = if is_same_room room sweep.room then Some sweep.moment else None

-- the moments at which the clock was to sweep a room, in their order
abbrev pub times_for : RoomRef → List Sweep → List ℕ
times_for room sweeps = filter_map (time_for room) sweeps

-- whether a room was swept as the clock was told
abbrev pub is_swept : List Sweep → DayRoom → Bool
is_swept sweeps room = bytes_eq (times_swept room.day.events) (times_for room.at sweeps)

-- the first room that was not swept as the clock was told
abbrev pub first_unswept : List Sweep → List DayRoom → Option RoomRef
first_unswept sweeps rooms =
    option_map (λ room. room.at) (find (λ room. not (is_swept sweeps room)) rooms)
