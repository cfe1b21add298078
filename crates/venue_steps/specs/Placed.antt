-- Where a duty is done by the market's table, and what comes to that place. A duty for a place that
-- the venue does not have, of a firm that is no dealer where a dealer acts, or of a quote without a
-- word, is done nowhere.
use Rattle.std.specs.Prelude.{ℕ, nat_lt, Bool, true, Option, Some, None, is_some, option_and_then}
use Rattle.std.specs.Prelude.{if◌then◌else◌}
use Rattle.market_terms.specs.declared.duties.Duty.{Duty}
use Rattle.market_terms.specs.declared.rooms.ResponseRef.{ResponseRef}
use Rattle.market_terms.specs.declared.rooms.RoomRef.{RoomRef}
use Rattle.venue_rows.specs.Rows.{Configuration, dealer_numbered, has_room, investor_numbered}
use Rattle.venue_steps.specs.Dealers.{Dealer, acting_dealer, has_word_for, offer_of, word_for}
use Rattle.venue_steps.specs.Dealers.{words_of}
use Rattle.venue_steps.specs.Table.{Line, acting_in, brings, line_of, telling}
use Rattle.venue_steps.specs.Table as table
use Rattle.venue_steps.specs.declared.actors.Actor.{Actor}
use Rattle.venue_steps.specs.declared.actors.Actor.TheVariants as actor
use Rattle.venue_steps.specs.declared.arrivals.Placement.{Placement}
use Rattle.venue_steps.specs.declared.arrivals.Placement.TheVariants as arrival
use Rattle.venue_steps.specs.declared.arrivals.ForDealer.{ForDealer}
use Rattle.venue_steps.specs.declared.arrivals.ForInvestor.{ForInvestor}
use Rattle.venue_steps.specs.declared.arrivals.ForInvestor.TheVariants as to_investor
use Rattle.venue_steps.specs.declared.arrivals.ForRoom.{ForRoom}
use Rattle.venue_steps.specs.declared.arrivals.ForRoom.TheVariants as to_room

-- something, where it may be
abbrev pub placed_if : Bool → Placement → Option Placement
placed_if may coming = if may then Some coming else None

-- whether the venue has the place to which this comes; a dealer that drops a quote acts, so it is there
abbrev pub has_place : Configuration → Placement → Bool
has_place config (arrival.Dealer firm what) = is_some (dealer_numbered config firm)
has_place config (arrival.Drop firm last moment) = true
has_place config (arrival.Investor firm what) = is_some (investor_numbered config firm)
has_place config (arrival.Room room what) = has_room config room.investor room.n
has_place config (arrival.Hit room response word moment) = has_room config room.investor room.n

-- what is brought, where the venue has the place
abbrev pub where_there : Configuration → Placement → Option Placement
where_there config coming = placed_if (has_place config coming) coming

-- what a dealer's act is, where a dealer acts
abbrev pub by_dealer : Configuration → Actor → (Dealer → Option Placement) → Option Placement
by_dealer config by act = option_and_then act (acting_dealer config by)

-- what a line of the table brings for an actor
abbrev pub placed_by : Configuration → Actor → Line → Option Placement
placed_by config by (brings coming) = where_there config coming
placed_by config by (acting_in room may bring) =
    by_dealer config by (λ dealer.
    if may dealer then where_there config (arrival.Room room (bring dealer)) else None)
placed_by config by (telling firm bring) =
    by_dealer config by (λ dealer. where_there config (arrival.Investor firm (bring dealer)))
placed_by config by (table.drops last moment) =
    by_dealer config by (λ dealer. Some (arrival.Drop dealer.number last moment))

-- where a duty of an actor is done, and what comes to that place
unfoldable pub placed : Configuration → Actor → Duty → Option Placement
unfolding line_of
placed config by duty = placed_by config by (line_of config duty)

-- where a sweep comes
abbrev pub swept : Configuration → RoomRef → ℕ → Option Placement
swept config room moment = where_there config (arrival.Room room (to_room.Expire moment))

-- The desk or the room in which something is done: there is one at most.

-- the desk to which this comes
abbrev pub desk_for : Placement → Option ℕ
desk_for (arrival.Dealer firm what) = Some firm
desk_for (arrival.Drop firm last moment) = Some firm
desk_for (arrival.Investor firm what) = Some firm
desk_for other = None

-- the room to which this comes
abbrev pub room_for : Placement → Option RoomRef
room_for (arrival.Room room what) = Some room
room_for (arrival.Hit room response word moment) = Some room
room_for other = None

-- the firm that an actor is
abbrev pub firm_of : Actor → Option ℕ
firm_of (actor.Firm number) = Some number
firm_of actor.Clock = None

-- the desk of a line of the table, for an actor
abbrev pub desk_of_line : Actor → Line → Option ℕ
desk_of_line by (brings coming) = desk_for coming
desk_of_line by (acting_in room may bring) = None
desk_of_line by (telling firm bring) = Some firm
desk_of_line by (table.drops last moment) = firm_of by

-- the room of a line
abbrev pub room_of_line : Line → Option RoomRef
room_of_line (brings coming) = room_for coming
room_of_line (acting_in room may bring) = Some room
room_of_line other = None

-- The parts in which the code works that out.

-- a word, where the venue has it
abbrev pub word_within : Configuration → ℕ → Option ℕ
word_within config word = if nat_lt word (words_of config) then Some word else None

-- at the desk of the dealer with this number
abbrev pub at_dealer : Configuration → ℕ → ForDealer → Option Placement
at_dealer config firm what = where_there config (arrival.Dealer firm what)

-- at the desk of the investor with this number
abbrev pub at_investor : Configuration → ℕ → ForInvestor → Option Placement
at_investor config firm what = where_there config (arrival.Investor firm what)

-- in a room
abbrev pub in_room : Configuration → RoomRef → ForRoom → Option Placement
in_room config room what = where_there config (arrival.Room room what)

-- in a room that is hit
abbrev pub hit_in : Configuration → RoomRef → ResponseRef → ℕ → ℕ → Option Placement
hit_in config room response word moment =
    where_there config (arrival.Hit room response word moment)

-- a post of a dealer's quote, where the venue has the quote's word
abbrev pub posted : Configuration → RoomRef → ℕ → ℕ → Option ℕ → ℕ → Dealer → Option Placement
posted config room quote price valid_until moment dealer =
    if has_word_for config dealer quote
    then in_room config room
    (to_room.Post dealer.number (offer_of config dealer quote price valid_until) moment)
    else None

-- an unpost of a dealer's quote, where the venue has the quote's word
abbrev pub unposted : Configuration → RoomRef → ℕ → ℕ → Dealer → Option Placement
unposted config room quote moment dealer =
    if has_word_for config dealer quote
    then in_room config room (to_room.Unpost dealer.number (word_for config dealer quote) moment)
    else None

-- a dealer's decline of a request
abbrev pub declines : Configuration → RoomRef → ℕ → Dealer → Option Placement
declines config room moment dealer = in_room config room (to_room.Decline dealer.number moment)

-- what the investor is told of a dealer's decline
abbrev pub declined : Configuration → RoomRef → ℕ → Dealer → Option Placement
declined config room moment dealer =
    at_investor config room.investor (to_investor.Declined room.n dealer.row.name moment)

-- a drop of a dealer's next quote
abbrev pub drops : ℕ → ℕ → Dealer → Option Placement
drops last moment dealer = Some (arrival.Drop dealer.number last moment)
