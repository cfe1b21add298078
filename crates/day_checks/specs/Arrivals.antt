-- What came to the desks of investors from the rooms of their requests: quotes, the replies to hits
-- and passes, and that a request expired. (What comes to a desk for a request that was not accepted
-- there has no effect.)
use Rattle.std.specs.Prelude.{ℕ, ◌+◌, List, [], ◌∷◌, ◌++◌, Option, Some, None, is_some}
use Rattle.std.specs.Prelude.{if◌then◌else◌}
use Rattle.std.specs.List.{filter_map}
use Rattle.investor_desk.specs.declared.events.InvestorEvent.{InvestorEvent}
use Rattle.investor_desk.specs.declared.events.InvestorEvent.TheVariants as at_investor
use Rattle.market_terms.specs.declared.rooms.RoomRef.{RoomRef}
use Rattle.recorded_days.specs.Records.{InvestorLists}
use Rattle.market_terms.specs.Rooms.{is_same_room}
use Rattle.day_checks.specs.declared.arrivals.Arrival.{Arrival}
use Rattle.day_checks.specs.declared.arrivals.Arrival.TheVariants as arrival

-- the room of a request of the investor with this number
abbrev pub room_named : ℕ → ℕ → RoomRef
room_named investor request = record { investor = investor; n = request }

-- this, where the rooms are the same
abbrev pub where_same : RoomRef → RoomRef → Arrival → Option Arrival
where_same room own what = if is_same_room room own then Some what else None

-- what came from a room by an event at the desk of the investor with this number
abbrev pub arrival_from : RoomRef → ℕ → InvestorEvent → Option Arrival
arrival_from room investor (at_investor.QuoteCame request offer moment) =
    where_same room (room_named investor request) (arrival.Quote offer)
arrival_from room investor (at_investor.Answered request response reply moment) =
    where_same room (room_named investor request)
    (arrival.Reply (record { to_hit = is_some response.k; moment = moment; reply = reply }))
arrival_from room investor (at_investor.Closed request moment) =
    where_same room (room_named investor request) (arrival.Expired moment)
arrival_from room investor other = None

-- all that came from it by these events, in their order
abbrev pub arrivals_at : RoomRef → ℕ → List InvestorEvent → List Arrival
arrivals_at room investor events = filter_map (arrival_from room investor) events

-- all that came from it to these investors, who are numbered onward from this number: each of them
-- has its own rooms alone
abbrev pub arrivals_from : RoomRef → ℕ → List InvestorLists → List Arrival
arrivals_from room investor [] = []
arrivals_from room investor (day ∷ later) =
    arrivals_at room investor day.events ++ arrivals_from room (investor + 1) later
