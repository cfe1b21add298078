-- What an action adds and leaves, by what it brings to which place, line by line of its place.
use Rattle.std.specs.Prelude.{Bool, true, ◌&&◌, List, [], None, if◌then◌else◌}
use Rattle.market_terms.specs.declared.rooms.RoomRef.{RoomRef}
use Rattle.venue_rows.specs.Rows.{Configuration}
use Rattle.investor_desk.specs.InvestorDesk.{market_for}
use Rattle.investor_desk.specs.InvestorRules.{InvestorMarket}
use Rattle.investor_desk.specs.declared.events.InvestorEvent.TheVariants as at_investor
use Rattle.request_room.specs.RoomFacts.{hears}
use Rattle.request_room.specs.declared.events.RoomEvent.TheVariants as at_room
use Rattle.venue_steps.specs.Replies.{replies_to}
use Rattle.venue_steps.specs.RoomDuties.{duties_of_open, duties_of_post, duties_of_unpost}
use Rattle.venue_steps.specs.RoomDuties.{duties_of_decline, duties_of_pass, duties_of_expire}
use Rattle.venue_steps.specs.declared.arrivals.Placement.{Placement}
use Rattle.venue_steps.specs.declared.arrivals.Placement.TheVariants as arrival
use Rattle.venue_steps.specs.declared.arrivals.ForDealer.{ForDealer}
use Rattle.venue_steps.specs.declared.arrivals.ForDealer.TheVariants as to_dealer
use Rattle.venue_steps.specs.declared.arrivals.ForInvestor.{ForInvestor}
use Rattle.venue_steps.specs.declared.arrivals.ForInvestor.TheVariants as to_investor
use Rattle.venue_steps.specs.declared.arrivals.ForRoom.{ForRoom}
use Rattle.venue_steps.specs.declared.arrivals.ForRoom.TheVariants as to_room
use Rattle.step_replay.specs.Actions.{Effect, Dealer, nothing, dealer_at, done_by, done_for}
use Rattle.step_replay.specs.Actions.{shown_to, told_to, dropped_by, where_known, in_room}
use Rattle.step_replay.specs.Actions.{hit_in}
use Rattle.step_replay.specs.VenueFacts.{Fact, of_room}

-- what comes to a dealer's desk
unfoldable pub dealer_gets : Configuration → List Fact → ForDealer → Dealer → Effect
dealer_gets config facts (to_dealer.Show room ask moment) = shown_to config facts room ask moment
dealer_gets config facts (to_dealer.Tell room close moment) = told_to config facts room close moment

-- what comes to an investor's desk
unfoldable pub investor_gets : List Fact → ForInvestor → InvestorMarket → Effect
investor_gets facts (to_investor.Relay request offer moment) =
    where_known facts request None (at_investor.QuoteCame request offer moment)
investor_gets facts (to_investor.Gone request word moment) =
    where_known facts request None (at_investor.QuoteGone request word moment)
investor_gets facts (to_investor.Declined request dealer moment) =
    where_known facts request None (at_investor.DealerDeclined request dealer moment)
investor_gets facts (to_investor.Answer request response reply moment) =
    λ market. if replies_to response.k reply
    then where_known facts request response.k (at_investor.Answered request response reply moment)
    market else nothing
investor_gets facts (to_investor.Close request moment) =
    where_known facts request None (at_investor.Closed request moment)

-- what comes to a room, where it may
unfoldable pub room_gets_where : Configuration → List Fact → Bool → RoomRef → ForRoom → Effect
room_gets_where config facts may room (to_room.Open ask dealers moment) =
    in_room config facts room may (at_room.Open (record { ask = ask; dealers = dealers }))
    (duties_of_open (of_room room facts) room ask dealers moment)
room_gets_where config facts may room (to_room.Ready moment) =
    in_room config facts room may at_room.Ready []
room_gets_where config facts may room (to_room.Post dealer offer moment) =
    in_room config facts room (may && hears (of_room room facts) dealer)
    (at_room.Post dealer offer.word offer.price offer.valid_until)
    (duties_of_post (of_room room facts) room dealer offer moment)
room_gets_where config facts may room (to_room.Unpost dealer word moment) =
    in_room config facts room (may && hears (of_room room facts) dealer)
    (at_room.Unpost dealer word) (duties_of_unpost (of_room room facts) room dealer word moment)
room_gets_where config facts may room (to_room.Decline dealer moment) =
    in_room config facts room (may && hears (of_room room facts) dealer) (at_room.Decline dealer)
    (duties_of_decline (of_room room facts) room dealer moment)
room_gets_where config facts may room (to_room.Pass response moment) =
    in_room config facts room may (at_room.Pass moment)
    (duties_of_pass (of_room room facts) room response moment)
room_gets_where config facts may room (to_room.Expire moment) =
    in_room config facts room may (at_room.Expire moment)
    (duties_of_expire (of_room room facts) room moment)

-- what comes to a room
unfoldable pub room_gets : Configuration → List Fact → RoomRef → ForRoom → Effect
unfolding room_gets_where
room_gets config facts room what = room_gets_where config facts true room what

-- what comes to a place
unfoldable pub arrival_effect : Configuration → List Fact → Placement → Effect
arrival_effect config facts (arrival.Dealer firm what) =
    done_by (dealer_at config firm) (dealer_gets config facts what)
arrival_effect config facts (arrival.Drop firm last moment) =
    done_by (dealer_at config firm) (dropped_by config facts last moment)
arrival_effect config facts (arrival.Investor firm what) =
    done_for (market_for config firm) (investor_gets facts what)
arrival_effect config facts (arrival.Room room what) = room_gets config facts room what
arrival_effect config facts (arrival.Hit room response word moment) =
    hit_in config facts room response word moment
