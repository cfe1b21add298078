-- What investors are shown of their rooms, however the threads of a day ran: of each dealer that a
-- request names, the quotes that took effect in the room are those that came to its investor for
-- that request, under that dealer's name and in the dealer's order, each with its word, its price
-- and its valid-until, and no others came.
--
-- A post that finds its room ended takes no effect and is not relayed. One that takes effect is
-- relayed once, by its dealer's own session, also where the room has ended, or the quote was
-- withdrawn or replaced, by then: it comes to the desk, whether or not its investor is shown it.
-- The sessions of two dealers relay in their own time, so the quotes of a room may come in another
-- order than they were posted in, but those of one dealer come in the order of its posts.
use Rattle.std.specs.Prelude.{ℕ, Bool, true, false, ◌&&◌, ◌==◌, List, [], ◌∷◌, count_by, Option}
use Rattle.std.specs.Prelude.{Some, None, if◌then◌else◌}
use Rattle.std.specs.List.{filter_map, list_all}
use Rattle.std.specs.Str.{bytes_eq}
use Rattle.market_terms.specs.declared.rooms.Offer.{Offer}
use Rattle.market_terms.specs.declared.rooms.RoomRef.{RoomRef}
use Rattle.recorded_days.specs.Records.{InvestorLists}
use Rattle.request_room.specs.Book.{room_after}
use Rattle.request_room.specs.RoomFacts.{request_of}
use Rattle.request_room.specs.declared.quotes.PostedQuote.{PostedQuote}
use Rattle.venue_rows.specs.Rows.{Configuration, dealer_numbered}
use Rattle.venue_rows.specs.declared.dealer_rows.DealerRow.{DealerRow}
use Rattle.venue_steps.specs.RoomDuties.{dealers_of}
use Rattle.day_checks.specs.Arrivals.{arrivals_from}
use Rattle.day_checks.specs.DayChecks.{DayRoom}
use Rattle.day_checks.specs.RoomOutputs.{outputs_of}
use Rattle.day_checks.specs.declared.arrivals.Arrival.{Arrival}
use Rattle.day_checks.specs.declared.arrivals.Arrival.TheVariants as arrival
use Rattle.day_checks.specs.declared.room_outputs.RoomOutput.{RoomOutput}
use Rattle.day_checks.specs.declared.room_outputs.RoomOutput.TheVariants as output

-- One quote.

-- whether two moments until which quotes are valid are the same, where there are any
abbrev pub same_until : Option ℕ → Option ℕ → Bool
same_until None None = true
same_until None (Some other) = false
same_until (Some one) None = false
same_until (Some one) (Some other) = one == other

-- whether a quote is shown as it was posted: its word, its price and its valid-until
abbrev pub is_as_posted : PostedQuote → Offer → Bool
is_as_posted quote offer =
    (offer.word == quote.word)
    && (offer.price == quote.price)
    && same_until offer.valid_until quote.valid_until

-- The quotes of one dealer.

-- a quote of this dealer that took effect
abbrev pub quote_by : ℕ → RoomOutput → Option PostedQuote
quote_by dealer (output.Quote quote) =
    if quote.posted.dealer == dealer then Some quote.posted else None
quote_by dealer (output.Reply reply) = None
quote_by dealer (output.Expired moment) = None

-- a quote that came under this name
abbrev pub offer_under : List ℕ → Arrival → Option Offer
offer_under name (arrival.Quote offer) = if bytes_eq offer.dealer name then Some offer else None
offer_under name (arrival.Reply reply) = None
offer_under name (arrival.Expired moment) = None

-- whether quotes are shown as they were posted, one by one
abbrev pub are_as_posted : List PostedQuote → List Offer → Bool
are_as_posted [] [] = true
are_as_posted [] (offer ∷ offers) = false
are_as_posted (quote ∷ quotes) [] = false
are_as_posted (quote ∷ quotes) (offer ∷ offers) =
    is_as_posted quote offer && are_as_posted quotes offers

-- whether the quotes of the dealer with this number and row came as they were posted
abbrev pub came_as_posted : ℕ → Option DealerRow → List RoomOutput → List Arrival → Bool
came_as_posted dealer None outputs arrivals = false
came_as_posted dealer (Some row) outputs arrivals =
    are_as_posted (filter_map (quote_by dealer) outputs)
    (filter_map (offer_under row.name) arrivals)

-- The quotes of a room.

-- whether it is a quote that a room leaves
abbrev pub is_quote_left : RoomOutput → Bool
is_quote_left (output.Quote quote) = true
is_quote_left (output.Reply reply) = false
is_quote_left (output.Expired moment) = false

-- whether it is a quote that came
abbrev pub is_quote_arrived : Arrival → Bool
is_quote_arrived (arrival.Quote offer) = true
is_quote_arrived (arrival.Reply reply) = false
is_quote_arrived (arrival.Expired moment) = false

-- whether the quotes of these dealers that a room left came as they were posted, and no others
abbrev pub are_relayed : Configuration → List ℕ → List RoomOutput → List Arrival → Bool
are_relayed config dealers outputs arrivals =
    (count_by is_quote_left outputs == count_by is_quote_arrived arrivals)
    && list_all (λ dealer. came_as_posted dealer (dealer_numbered config dealer) outputs arrivals)
    dealers

-- the same of a room with these outputs, where it has any
abbrev pub are_relayed_where : Configuration → List ℕ → Option (List RoomOutput) → List Arrival
    → Bool
are_relayed_where config dealers None arrivals = false
are_relayed_where config dealers (Some outputs) arrivals =
    are_relayed config dealers outputs arrivals

-- the dealers that the request of a room names
abbrev pub dealers_in : DayRoom → List ℕ
dealers_in room = dealers_of (request_of (room_after room.day.events))

-- whether the quotes of a room came to its investor, where this came from the room
abbrev pub is_relayed : Configuration → List Arrival → DayRoom → Bool
is_relayed config arrivals room =
    are_relayed_where config (dealers_in room) (outputs_of room.day.events) arrivals

-- the first room whose quotes did not come to its investor as they were posted: the investors are
-- numbered onward from this number
abbrev pub first_unrelayed : Configuration → ℕ → List InvestorLists → List DayRoom
    → Option RoomRef
first_unrelayed config first investors [] = None
first_unrelayed config first investors (room ∷ later) =
    if is_relayed config (arrivals_from room.at first investors) room
    then first_unrelayed config first investors later
    else Some room.at
