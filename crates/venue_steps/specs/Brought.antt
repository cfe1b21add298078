-- What a thing brought to a place does, where it asks no word: the place afterwards and the duties
-- that follow, line by line of what may come. They are those of the steps.
use Rattle.std.specs.Prelude.{true, List, []}
use Rattle.dealer_desk.specs.DealerDesk as dealer
use Rattle.dealer_desk.specs.DealerDesk.{rooms_at, with_notice_in}
use Rattle.dealer_desk.specs.DealerOutput.{number_in}
use Rattle.investor_desk.specs.InvestorDesk as investor
use Rattle.market_terms.specs.declared.duties.Duty.{Duty}
use Rattle.market_terms.specs.declared.rooms.RoomRef.{RoomRef}
use Rattle.request_room.specs.Book.{room_after}
use Rattle.request_room.specs.RoomFacts.{hears, is_opening}
use Rattle.request_room.specs.declared.events.RoomEvent.{RoomEvent}
use Rattle.request_room.specs.declared.events.RoomEvent.TheVariants as event
use Rattle.venue_steps.specs.declared.arrivals.ForDealer.{ForDealer}
use Rattle.venue_steps.specs.declared.arrivals.ForDealer.TheVariants as to_dealer
use Rattle.venue_steps.specs.declared.arrivals.ForInvestor.{ForInvestor}
use Rattle.venue_steps.specs.declared.arrivals.ForInvestor.TheVariants as to_investor
use Rattle.venue_steps.specs.declared.arrivals.ForRoom.{ForRoom}
use Rattle.venue_steps.specs.declared.arrivals.ForRoom.TheVariants as to_room
use Rattle.venue_steps.specs.DealerSteps as dealer_steps
use Rattle.venue_steps.specs.InvestorSteps as investor_steps
use Rattle.venue_steps.specs.RoomSteps as room_steps

-- a dealer's desk, after what came. No duty follows.
unfoldable pub dealer_with : dealer.DeskEvents → ForDealer → dealer.DeskEvents
dealer_with desk (to_dealer.Show room ask moment) =
    dealer_steps.desk_after_show desk room ask moment
dealer_with desk (to_dealer.Tell room close moment) =
    with_notice_in desk (number_in (rooms_at desk) room) close moment

-- an investor's desk, after what came. No duty follows.
unfoldable pub investor_with : investor.DeskEvents → ForInvestor → investor.DeskEvents
investor_with desk (to_investor.Relay request offer moment) =
    investor_steps.desk_after_relay desk request offer moment
investor_with desk (to_investor.Gone request word moment) =
    investor_steps.desk_after_gone desk request word moment
investor_with desk (to_investor.Declined request dealer moment) =
    investor_steps.desk_after_declined desk request dealer moment
investor_with desk (to_investor.Answer request response reply moment) =
    investor_steps.desk_after_answer desk request response reply moment
investor_with desk (to_investor.Close request moment) =
    investor_steps.desk_after_close desk request moment

-- what was tried in a room, after what came
unfoldable pub room_with : List RoomEvent → ForRoom → List RoomEvent
room_with events (to_room.Open ask dealers moment) = room_steps.room_after_open events ask dealers
room_with events (to_room.Ready moment) =
    room_steps.where_done (is_opening (room_after events)) events event.Ready
room_with events (to_room.Post dealer offer moment) =
    room_steps.where_done (hears (room_after events) dealer) events
    (event.Post dealer offer.word offer.price offer.valid_until)
room_with events (to_room.Unpost dealer word moment) =
    room_steps.where_done (hears (room_after events) dealer) events (event.Unpost dealer word)
room_with events (to_room.Decline dealer moment) =
    room_steps.where_done (hears (room_after events) dealer) events (event.Decline dealer)
room_with events (to_room.Pass response moment) =
    room_steps.where_done true events (event.Pass moment)
room_with events (to_room.Expire moment) =
    room_steps.where_done true events (event.Expire moment)

-- the duties that follow in a room
unfoldable pub duties_in_room : RoomRef → List RoomEvent → ForRoom → List Duty
duties_in_room at events (to_room.Open ask dealers moment) =
    room_steps.duties_of_open (room_after events) at ask dealers moment
duties_in_room at events (to_room.Ready moment) = []
duties_in_room at events (to_room.Post dealer offer moment) =
    room_steps.duties_of_post (room_after events) at dealer offer moment
duties_in_room at events (to_room.Unpost dealer word moment) =
    room_steps.duties_of_unpost (room_after events) at dealer word moment
duties_in_room at events (to_room.Decline dealer moment) =
    room_steps.duties_of_decline (room_after events) at dealer moment
duties_in_room at events (to_room.Pass response moment) =
    room_steps.duties_of_pass (room_after events) at response moment
duties_in_room at events (to_room.Expire moment) =
    room_steps.duties_of_expire (room_after events) at moment
