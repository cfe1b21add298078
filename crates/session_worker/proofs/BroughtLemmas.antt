-- What a lock keeps where what comes asks no word.
use Rattle.std.proofs.Common.{◌≡◌, refl, sym, subst, ℕ, true, List, is_some, ◌&&◌}
use Rattle.dealer_desk.specs.DealerDesk.{DeskEvents, rooms_at}
use Rattle.dealer_desk.specs.DealerOutput.{number_in}
use Rattle.investor_desk.specs.InvestorFacts.{knows}
use Rattle.investor_desk.specs.InvestorDesk.{DeskEvents as InvestorEvents, book_at}
use Rattle.investor_desk.specs.declared.events.InvestorEvent.TheVariants as at_investor
use Rattle.market_terms.specs.declared.rooms.RoomRef.{RoomRef}
use Rattle.quote_word.specs.Board.{BoardName, Front}
use Rattle.request_room.specs.Book.{room_after}
use Rattle.request_room.specs.RoomFacts.{hears, is_opening, is_vacant}
use Rattle.request_room.specs.declared.events.RoomEvent.{RoomEvent}
use Rattle.request_room.specs.declared.events.RoomEvent.TheVariants as in_room
use Rattle.venue_rows.specs.Rows.{Configuration}
use Rattle.venue_steps.specs.Brought.{dealer_with, investor_with, room_with}
use Rattle.venue_steps.specs.declared.arrivals.ForDealer.{ForDealer}
use Rattle.venue_steps.specs.declared.arrivals.ForDealer.TheVariants as to_dealer
use Rattle.venue_steps.specs.declared.arrivals.ForInvestor.{ForInvestor}
use Rattle.venue_steps.specs.declared.arrivals.ForInvestor.TheVariants as to_investor
use Rattle.venue_steps.specs.declared.arrivals.ForRoom.{ForRoom}
use Rattle.venue_steps.specs.declared.arrivals.ForRoom.TheVariants as to_room
use Rattle.venue_steps.specs.InvestorSteps.{replies_to, knows_request}
use Rattle.session_worker.specs.Locks.{KeepsDealer, KeepsInvestor, KeepsRoom}
use Rattle.day_checks.specs.declared.left_responses.LeftResponse.{LeftResponse}
use Rattle.session_worker.proofs.DealerAnswers.{DeskLaws}
use Rattle.session_worker.proofs.DealerLockLemmas.{notice_keeps, show_keeps_if}
use Rattle.session_worker.proofs.LockLemmas.{quiet_kept, told_kept}

-- a dealer's desk
pub dealer_brought : DeskLaws → (board : BoardName) (config : Configuration) (firm first : ℕ)
    (desk after : DeskEvents) (seen : Front) (what : ForDealer)
    → KeepsDealer board config firm first desk seen → after ≡ dealer_with desk what
    → KeepsDealer board config firm first after seen
unfolding dealer_with
dealer_brought laws board config firm first desk after seen (to_dealer.Show room ask moment) keeps is =
    subst (λ d. KeepsDealer board config firm first d seen) (sym is)
    (show_keeps_if laws board config firm first desk seen room ask moment
    (is_some (number_in (rooms_at desk) room)) keeps)
dealer_brought laws board config firm first desk after seen (to_dealer.Tell room close moment) keeps is =
    subst (λ d. KeepsDealer board config firm first d seen) (sym is)
    (notice_keeps laws board config firm first desk seen (number_in (rooms_at desk) room) close
    moment keeps)

-- an investor's desk
pub investor_brought : (config : Configuration) (desk after : InvestorEvents)
    (left : List LeftResponse) (what : ForInvestor) → KeepsInvestor config desk left
    → after ≡ investor_with desk what → KeepsInvestor config after left
unfolding investor_with
investor_brought config desk after left (to_investor.Relay request offer moment) keeps is =
    told_kept config desk after left (knows_request desk request)
    (at_investor.QuoteCame request offer moment) refl keeps is
investor_brought config desk after left (to_investor.Gone request word moment) keeps is =
    told_kept config desk after left (knows_request desk request)
    (at_investor.QuoteGone request word moment) refl keeps is
investor_brought config desk after left (to_investor.Declined request dealer moment) keeps is =
    told_kept config desk after left (knows_request desk request)
    (at_investor.DealerDeclined request dealer moment) refl keeps is
investor_brought config desk after left (to_investor.Answer request response reply moment) keeps is =
    told_kept config desk after left
    (knows (book_at desk) request response.k && replies_to response.k reply)
    (at_investor.Answered request response reply moment) refl keeps is
investor_brought config desk after left (to_investor.Close request moment) keeps is =
    told_kept config desk after left (knows_request desk request)
    (at_investor.Closed request moment) refl keeps is

-- a room
pub room_brought : (board : BoardName) (config : Configuration) (at : RoomRef)
    (events after : List RoomEvent) (seen : Front) (what : ForRoom)
    → KeepsRoom board config at events seen → after ≡ room_with events what
    → KeepsRoom board config at after seen
unfolding room_with
room_brought board config at events after seen (to_room.Open ask dealers moment) keeps is =
    quiet_kept board config at events after seen (is_vacant (room_after events))
    (in_room.Open (record { ask = ask; dealers = dealers })) keeps refl is
room_brought board config at events after seen (to_room.Ready moment) keeps is =
    quiet_kept board config at events after seen (is_opening (room_after events)) in_room.Ready
    keeps refl is
room_brought board config at events after seen (to_room.Post dealer offer moment) keeps is =
    quiet_kept board config at events after seen (hears (room_after events) dealer)
    (in_room.Post dealer offer.word offer.price offer.valid_until) keeps refl is
room_brought board config at events after seen (to_room.Unpost dealer word moment) keeps is =
    quiet_kept board config at events after seen (hears (room_after events) dealer)
    (in_room.Unpost dealer word) keeps refl is
room_brought board config at events after seen (to_room.Decline dealer moment) keeps is =
    quiet_kept board config at events after seen (hears (room_after events) dealer)
    (in_room.Decline dealer) keeps refl is
room_brought board config at events after seen (to_room.Pass response moment) keeps is =
    quiet_kept board config at events after seen true (in_room.Pass moment) keeps refl is
room_brought board config at events after seen (to_room.Expire moment) keeps is =
    quiet_kept board config at events after seen true (in_room.Expire moment) keeps refl is
