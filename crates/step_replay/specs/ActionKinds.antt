-- What an action of the venue is, by its kind: nothing, one event at one desk or in one room, or a
-- hit. Whatever comes to a place, each message and each sweep is shown to be of a kind here, line by
-- line, and nowhere else, and each duty by its line of the market's table: a property that each kind
-- keeps is kept by every action.
use Rattle.std.proofs.Common.{◌≡◌, ℕ, Bool, true, false, if◌then◌else◌, List, [], map}
use Rattle.std.proofs.Common.{Option, Some, None, option_map, is_some, refl}
use Rattle.std.proofs.lemmas.Bool.{and_from}
use Rattle.market_terms.specs.declared.asks.Ask.{Ask}
use Rattle.market_terms.specs.declared.closes.Close.{Close}
use Rattle.market_terms.specs.declared.duties.Duty.{Duty}
use Rattle.market_terms.specs.declared.rooms.ResponseRef.{ResponseRef}
use Rattle.market_terms.specs.declared.rooms.RoomRef.{RoomRef}
use Rattle.venue_rows.specs.Rows.{Configuration, dealer_numbered, investor_numbered}
use Rattle.venue_rows.specs.declared.dealer_rows.DealerRow.{DealerRow}
use Rattle.venue_rows.specs.declared.investor_rows.InvestorRow.{InvestorRow}
use Rattle.dealer_desk.specs.DealerOutput.{closable}
use Rattle.dealer_desk.specs.DealerRules.{dealer_verdict}
use Rattle.dealer_desk.specs.declared.events.DealerEvent.{DealerEvent}
use Rattle.dealer_desk.specs.declared.events.DealerEvent.TheVariants as at_desk
use Rattle.investor_desk.specs.InvestorDesk.{market_for, market_of}
use Rattle.investor_desk.specs.InvestorFacts.{InvestorBook, knows}
use Rattle.investor_desk.specs.InvestorRules.{InvestorMarket}
use Rattle.investor_desk.specs.declared.events.InvestorEvent.{InvestorEvent}
use Rattle.investor_desk.specs.declared.events.InvestorEvent.TheVariants as at_investor
use Rattle.request_room.specs.Book.{event_facts}
use Rattle.request_room.specs.declared.events.RoomEvent.{RoomEvent}
use Rattle.venue_steps.specs.Replies.{replies_to}
use Rattle.venue_steps.specs.RoomDuties.{hit_word}
use Rattle.venue_steps.specs.Dealers.{Dealer, acting_dealer, dealer_at, dealer_of}
use Rattle.venue_steps.specs.declared.actors.Actor.{Actor}
use Rattle.venue_steps.specs.Placed.{desk_for, desk_of_line, room_for, room_of_line}
use Rattle.venue_steps.specs.Table.{Line, acting_in, brings, drops, line_of, telling}
use Rattle.venue_steps.specs.declared.actors.Actor.TheVariants as actor
use Rattle.venue_steps.specs.declared.arrivals.ForDealer.{ForDealer}
use Rattle.venue_steps.specs.declared.arrivals.ForDealer.TheVariants as to_dealer
use Rattle.venue_steps.specs.declared.arrivals.ForInvestor.{ForInvestor}
use Rattle.venue_steps.specs.declared.arrivals.ForInvestor.TheVariants as to_investor
use Rattle.venue_steps.specs.declared.arrivals.ForRoom.{ForRoom}
use Rattle.venue_steps.specs.declared.arrivals.ForRoom.TheVariants as to_room
use Rattle.venue_steps.specs.declared.arrivals.Placement.{Placement}
use Rattle.venue_steps.specs.declared.arrivals.Placement.TheVariants as arrival
use Rattle.step_replay.specs.Actions
use Rattle.step_replay.specs.Coming.{arrival_effect, dealer_gets, investor_gets, room_gets}
use Rattle.step_replay.specs.Coming.{room_gets_where}
use Rattle.step_replay.specs.Actions.{Effect, nothing, done_by, done_for, at_dealer, at_market}
use Rattle.step_replay.specs.Actions.{settlement_of, answer_to_hit, drop_at, hit_with}
use Rattle.step_replay.specs.Actions.{in_room, quote_asked, told_of, where_known}
use Rattle.step_replay.specs.DutyEffects.{duty_effect, line_effect, message_effect, sweep_effect}
use Rattle.step_replay.specs.DealerTrail.{DealerEntry, book_by}
use Rattle.step_replay.specs.Fitting.{fits}
use Rattle.step_replay.specs.InvestorTrail as investor_trail
use Rattle.step_replay.specs.VenueFacts.{Fact, InRoom, of_dealer, of_investor, of_room}

-- why an event comes to the desk of a dealer with this row and trail
pub data Comes (date : List ℕ) (row : DealerRow) (trail : List DealerEntry) (event : DealerEvent)
    : Type 0 where
  said : (moment : ℕ) (bytes : List ℕ)
      → event ≡ at_desk.Received moment bytes
      (settlement_of trail (dealer_verdict date row (book_by trail) moment bytes))
      → Comes date row trail event
  dropped : (last moment : ℕ) → event ≡ drop_at trail last moment → Comes date row trail event
  shown : (room : RoomRef) (ask : Ask) (moment : ℕ) → event ≡ at_desk.Shown room ask moment
      → Comes date row trail event
  told : (request : ℕ) (close : Close) (moment : ℕ)
      → is_some (closable (book_by trail) request) ≡ true
      → event ≡ at_desk.Told request close moment → Comes date row trail event

module _ (config : Configuration) (facts : List Fact) where
  -- a hit that is not left out
  abbrev pub hit_here : RoomRef → ResponseRef → ℕ → ℕ → Effect
  hit_here at response word moment = hit_with config facts at response word moment
      (option_map (answer_to_hit facts) (quote_asked config (hit_word (of_room at facts) word moment)))

  -- an event in a room
  abbrev pub event_in : RoomRef → RoomEvent → List Duty → Effect
  event_in at event duties = record {
    facts = map (InRoom at) (event_facts (of_room at facts) event);
    duties = duties;
  }

  -- An action that may send messages at this desk, where there is one, and happens in this room,
  -- where it does in one.
  pub data IsAction (desk : Option ℕ) (room : Option RoomRef) (effect : Effect) : Type 0 where
    idle : effect ≡ nothing → IsAction desk room effect
    by_dealer : (number : ℕ) (row : DealerRow) (event : DealerEvent) (duties : List Duty)
        → desk ≡ Some number → dealer_numbered config number ≡ Some row
        → Comes config.date row (of_dealer number facts) event
        → effect ≡ at_dealer config facts (dealer_of number row) event duties
        → IsAction desk room effect
    by_investor : (number : ℕ) (row : InvestorRow) (event : InvestorEvent) (duties : List Duty)
        → desk ≡ Some number → investor_numbered config number ≡ Some row
        → fits (investor_trail.book_by (of_investor number facts)) event ≡ true
        → effect ≡ at_market facts (market_of config number row) event duties
        → IsAction desk room effect
    by_room : (at : RoomRef) (event : RoomEvent) (duties : List Duty) → room ≡ Some at
        → effect ≡ event_in at event duties → IsAction desk room effect
    by_hit : (at : RoomRef) (response : ResponseRef) (word moment : ℕ) → room ≡ Some at
        → effect ≡ hit_here at response word moment → IsAction desk room effect

  -- Where something holds, and where a firm is one of the venue's.

  if_so : (desk : Option ℕ) (room : Option RoomRef) (b : Bool) (effect : Effect)
      → (b ≡ true → IsAction desk room effect)
      → IsAction desk room (if b then effect else nothing)
  if_so desk room true effect is = is refl
  if_so desk room false effect is = idle refl

  unless_so : (desk : Option ℕ) (room : Option RoomRef) (b : Bool) (effect : Effect)
      → IsAction desk room effect → IsAction desk room (if b then nothing else effect)
  unless_so desk room true effect is = idle refl
  unless_so desk room false effect is = is

  numbered : (room : Option RoomRef) (number : ℕ) (action : Dealer → Effect)
      → ((row : DealerRow) → dealer_numbered config number ≡ Some row
      → IsAction (Some number) room (action (dealer_of number row)))
      → IsAction (Some number) room (done_by (dealer_at config number) action)
  numbered room number action each = by_row (dealer_numbered config number) refl
    where
      by_row : (found : Option DealerRow) → dealer_numbered config number ≡ found
          → IsAction (Some number) room (done_by (option_map (dealer_of number) found) action)
      by_row None is = idle refl
      by_row (Some row) is = each row is

  acting : (desk : Option ℕ) (room : Option RoomRef) (by : Actor) (action : Dealer → Effect)
      → ((dealer : Dealer) → IsAction desk room (action dealer))
      → IsAction desk room (done_by (acting_dealer config by) action)
  acting desk room by action each = by_found (acting_dealer config by)
    where
      by_found : (found : Option Dealer) → IsAction desk room (done_by found action)
      by_found None = idle refl
      by_found (Some dealer) = each dealer

  invested : (room : Option RoomRef) (number : ℕ) (action : InvestorMarket → Effect)
      → ((row : InvestorRow) → investor_numbered config number ≡ Some row
      → IsAction (Some number) room (action (market_of config number row)))
      → IsAction (Some number) room (done_for (market_for config number) action)
  invested room number action each = by_row (investor_numbered config number) refl
    where
      by_row : (found : Option InvestorRow) → investor_numbered config number ≡ found
          → IsAction (Some number) room (done_for (option_map (market_of config number) found) action)
      by_row None is = idle refl
      by_row (Some row) is = each row is

  -- Places.

  in_a_room : (desk : Option ℕ) (at : RoomRef) (may : Bool) (event : RoomEvent)
      (duties : List Duty) → IsAction desk (Some at) (in_room config facts at may event duties)
  in_a_room desk at may event duties =
      if_so desk (Some at) _ (event_in at event duties) (λ yes. by_room at event duties refl refl)

  -- the book of an investor's desk
  abbrev book_at : ℕ → InvestorBook
  book_at number = investor_trail.book_by (of_investor number facts)

  -- an event that fits where its request and quote are known
  known : (room : Option RoomRef) (number request : ℕ) (quote : Option ℕ) (event : InvestorEvent)
      → (knows (book_at number) request quote ≡ true → fits (book_at number) event ≡ true)
      → (row : InvestorRow) → investor_numbered config number ≡ Some row
      → IsAction (Some number) room
      (where_known facts request quote event (market_of config number row))
  known room number request quote event fit row is =
      if_so (Some number) room _ (at_market facts (market_of config number row) event [])
      (λ yes. by_investor number row event [] refl is (fit yes) refl)

  known_to : (room : Option RoomRef) (number request : ℕ) (event : InvestorEvent)
      → (knows (book_at number) request None ≡ true → fits (book_at number) event ≡ true)
      → IsAction (Some number) room
      (done_for (market_for config number) (where_known facts request None event))
  known_to room number request event fit =
      invested room number (where_known facts request None event)
      (known room number request None event fit)

  told_by : (number : ℕ) (row : DealerRow) → dealer_numbered config number ≡ Some row
      → (close : Close) (moment : ℕ) (request : Option ℕ)
      → IsAction (Some number) None (told_of config facts (dealer_of number row) close moment request)
  told_by number row is close moment None = idle refl
  told_by number row is close moment (Some request) =
      if_so (Some number) None _
      (at_dealer config facts (dealer_of number row) (at_desk.Told request close moment) [])
      (λ yes. by_dealer number row (at_desk.Told request close moment) [] refl is
      (told request close moment yes refl) refl)

  -- What comes to a place, line by line.

  to_a_dealer : (number : ℕ) (what : ForDealer) → IsAction (Some number) None
      (done_by (dealer_at config number) (dealer_gets config facts what))
  unfolding dealer_gets
  to_a_dealer number (to_dealer.Show room ask moment) =
      numbered None number (Actions.shown_to config facts room ask moment)
      (λ row is. unless_so (Some number) None _
      (at_dealer config facts (dealer_of number row) (at_desk.Shown room ask moment) [])
      (by_dealer number row (at_desk.Shown room ask moment) [] refl is
      (shown room ask moment refl) refl))
  to_a_dealer number (to_dealer.Tell room close moment) =
      numbered None number (Actions.told_to config facts room close moment)
      (λ row is. told_by number row is close moment _)

  dropped_at : (number last moment : ℕ) → IsAction (Some number) None
      (done_by (dealer_at config number) (Actions.dropped_by config facts last moment))
  dropped_at number last moment =
      numbered None number (Actions.dropped_by config facts last moment)
      (λ row is. if_so (Some number) None _
      (at_dealer config facts (dealer_of number row) (drop_at (of_dealer number facts) last moment)
      (Actions.left_by_drop config facts last moment (dealer_of number row)))
      (λ yes. by_dealer number row _ _ refl is (dropped last moment refl) refl))

  to_an_investor : (number : ℕ) (what : ForInvestor) → IsAction (Some number) None
      (done_for (market_for config number) (investor_gets facts what))
  unfolding investor_gets
  to_an_investor number (to_investor.Relay request offer moment) =
      known_to None number request (at_investor.QuoteCame request offer moment) (λ yes. yes)
  to_an_investor number (to_investor.Gone request word moment) =
      known_to None number request (at_investor.QuoteGone request word moment) (λ yes. yes)
  to_an_investor number (to_investor.Declined request dealer moment) =
      known_to None number request (at_investor.DealerDeclined request dealer moment) (λ yes. yes)
  to_an_investor number (to_investor.Answer request response reply moment) =
      invested None number
      (investor_gets facts (to_investor.Answer request response reply moment))
      (λ row is. if_so (Some number) None (replies_to response.k reply) _
      (λ replies. known None number request response.k
      (at_investor.Answered request response reply moment)
      (λ yes. and_from (knows (book_at number) request response.k) (replies_to response.k reply) yes
      replies) row is))
  to_an_investor number (to_investor.Close request moment) =
      known_to None number request (at_investor.Closed request moment) (λ yes. yes)

  to_a_room : (may : Bool) (at : RoomRef) (what : ForRoom)
      → IsAction None (Some at) (room_gets_where config facts may at what)
  unfolding room_gets_where
  to_a_room may at (to_room.Ready moment) = in_a_room None at may _ []
  to_a_room may at other = in_a_room None at _ _ _

  pub arrival_action : (coming : Placement)
      → IsAction (desk_for coming) (room_for coming) (arrival_effect config facts coming)
  unfolding arrival_effect room_gets
  arrival_action (arrival.Dealer firm what) = to_a_dealer firm what
  arrival_action (arrival.Drop firm last moment) = dropped_at firm last moment
  arrival_action (arrival.Investor firm what) = to_an_investor firm what
  arrival_action (arrival.Room room what) = to_a_room true room what
  arrival_action (arrival.Hit room response word moment) =
      if_so None (Some room) _ (hit_here room response word moment)
      (λ yes. by_hit room response word moment refl refl)

  -- All duties, by the lines of the table.

  line_action : (by : Actor) (line : Line)
      → IsAction (desk_of_line by line) (room_of_line line) (line_effect config facts by line)
  line_action by (brings coming) = arrival_action coming
  line_action by (acting_in room may bring) =
      acting None (Some room) by _ (λ dealer. to_a_room (may dealer) room (bring dealer))
  line_action by (telling firm bring) =
      acting (Some firm) None by _ (λ dealer. arrival_action (arrival.Investor firm (bring dealer)))
  line_action (actor.Firm number) (drops last moment) = dropped_at number last moment
  line_action actor.Clock (drops last moment) = idle refl

  pub duty_action : (by : Actor) (d : Duty) → IsAction (desk_of_line by (line_of config d))
      (room_of_line (line_of config d)) (duty_effect config facts by d)
  unfolding duty_effect
  duty_action by d = line_action by (line_of config d)

  pub message_action : (firm moment : ℕ) (bytes : List ℕ)
      → IsAction (Some firm) None (message_effect config facts firm moment bytes)
  unfolding message_effect
  message_action firm moment bytes = either (is_some (dealer_numbered config firm))
    where
      either : (b : Bool) → IsAction (Some firm) None
          (if b
          then done_by (dealer_at config firm)
          (Actions.received_by_dealer config facts moment bytes)
          else done_for (market_for config firm) (Actions.received_by_investor facts moment bytes))
      either true =
          numbered None firm (Actions.received_by_dealer config facts moment bytes)
          (λ row is. if_so (Some firm) None _ _
          (λ yes. by_dealer firm row _
          (Actions.left_by (of_dealer firm facts) moment
          (Actions.verdict_on config facts moment bytes (dealer_of firm row)))
          refl is (said moment bytes refl) refl))
      either false =
          invested None firm (Actions.received_by_investor facts moment bytes)
          (λ row is. by_investor firm row (at_investor.Received moment bytes)
          (Actions.left_by_investor facts moment bytes (market_of config firm row)) refl is refl refl)

  pub sweep_action : (room : RoomRef) (moment : ℕ)
      → IsAction None (Some room) (sweep_effect config facts room moment)
  unfolding sweep_effect
  sweep_action room moment = to_a_room true room (to_room.Expire moment)
