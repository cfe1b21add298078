-- What happens in a room, but for a hit, brings what stands of trades.
use Rattle.laws_days.proofs.Common.{Bool, List, Option, Some, ℕ, [], if◌then◌else◌, map, refl}
use Rattle.laws_days.proofs.Common.{subst, sym, true, false, ◌&&◌, ◌∷◌, ◌∙◌, ◌≡◌, nat_le, Ask}
use Rattle.laws_days.proofs.Common.{Duty, ResponseRef, RoomRef, fact_if, RoomFact, Posted}
use Rattle.laws_days.proofs.Common.{Opened, Ended, is_open, is_vacant}
use Rattle.laws_days.proofs.Common.{request_of, End, where_follows, Effect, Configuration}
use Rattle.laws_days.proofs.Common.{DealerRow, dealer_numbered, dealer_of, word_for, nothing, in_room}
use Rattle.laws_days.proofs.Common.{Fact, Every, every_both, InRoom, sweep_effect}
use Rattle.fix_fields.specs.Frame.{IsValue}
use Rattle.market_terms.specs.declared.duties.Duty.TheVariants as duty
use Rattle.request_room.specs.Book.{event_facts, expired, may_expire, passed}
use Rattle.request_room.specs.Book.{quote_posted}
use Rattle.request_room.specs.RoomFacts.{hears, takes_quotes}
use Rattle.request_room.specs.declared.events.RoomEvent.{RoomEvent}
use Rattle.request_room.specs.declared.events.RoomEvent.TheVariants as at_room
use Rattle.request_room.specs.declared.requests.RoomRequest.{RoomRequest}
use Rattle.venue_steps.specs.RoomSteps.{close_for, dealers_of, duties_of_pass, reply_to_pass}
use Rattle.venue_steps.specs.RoomSteps.{shown_then_ready, told_in}
use Rattle.venue_steps.specs.declared.actors.Actor.TheVariants as actor
use Rattle.step_replay.specs.Actions.{offer_of}
use Rattle.step_replay.specs.LineActions.{opened, posted_by}
use Rattle.laws_days.specs.DutyWalk.{NoHitThere}
use Rattle.laws_days.proofs.ListLemmas.{every_map}
use Rattle.laws_days.proofs.VenueInvariant.{ByDealer}
use Rattle.laws_days.proofs.VenueKinds.{in_it, known}
use Rattle.laws_days.proofs.VenueParts.{Still}
use Rattle.laws_days.proofs.VenueSteps.{Here, to_now}
use Rattle.laws_trades.proofs.TradeParts.{AskOf, OfferOf, QuoteOf}
use Rattle.laws_trades.proofs.TradeSteps.{DutyNow, FactNow, Makes, if_left, room_facts, when_makes}
use Rattle.laws_trades.proofs.TradeSteps.{where_left}

-- a quote that is posted is the one that is relayed
offer_from : (config : Configuration) (facts : List Fact) (room : RoomRef) (dealer : ℕ)
    (row : DealerRow) (quote price : ℕ) (valid_until : Option ℕ)
    → dealer_numbered config dealer ≡ Some row
    → (nat_le 1 quote && nat_le quote row.quotes) ≡ true
    → QuoteOf facts dealer room quote price valid_until
    → OfferOf config facts room (offer_of config (dealer_of dealer row) quote price valid_until)
offer_from config facts room dealer row quote price valid_until row_is within of = record {
  dealer = dealer;
  row = row;
  own = of.own;
  row_is = row_is;
  quoted = of.quoted;
  within = rw (of.number_is) within;
  request_is = of.request_is;
  offer_is = rw (of.number_is, of.price_is, of.valid_is) refl;
}

module _ (h : Here) (room : RoomRef) where
  -- what a step in a room may do
  step_makes : (may b : Bool) (fact : RoomFact) (duties : List Duty)
      → FactNow h (in_it h room (fact_if b fact) duties) (InRoom room fact)
      → Every (DutyNow h (in_it h room (fact_if b fact) duties)) duties
      → Makes h (if may then in_it h room (fact_if b fact) duties else nothing)
  step_makes may b fact duties is left =
      when_makes h may (in_it h room (fact_if b fact) duties) (λ test. record {
        facts = room_facts h (in_it h room (fact_if b fact) duties) room b fact is;
        left = left;
      })

  -- what an event adds that is no hit: nothing of a trade
  pub untraded : (more : RoomEvent) (duties : List Duty) → NoHitThere more
      → Every (FactNow h (in_it h room (event_facts (known h room) more) duties))
      (map (InRoom room) (event_facts (known h room) more))
  unfolding event_facts
  untraded (at_room.Hit word moment settlement) duties no_hit = absurd no_hit
  untraded more duties no_hit =
      room_facts h (in_it h room (event_facts (known h room) more) duties) room _ _ (λ now later. tt)

  -- that a dealer is told is nothing of a trade yet
  pub told_left : (effect : Effect) (end : End) (moment : ℕ)
      → Every (DutyNow h effect) (told_in (known h room) room end moment)
  told_left effect end moment =
      every_map (DutyNow h effect) (λ dealer. duty.Tell dealer room (close_for end dealer) moment)
      (dealers_of (request_of (known h room))) (λ dealer among. λ now later. tt)

  pub opened_makes : (ask : Ask) (dealers : List ℕ) (moment : ℕ)
      → Still (λ now. AskOf now.facts room ask) h.venue
      → Makes h (opened h.config h.venue.facts room ask dealers moment)
  unfolding event_facts
  opened_makes ask dealers moment asks =
      let request : RoomRequest = record { ask = ask; dealers = dealers } in
      let vacant = is_vacant (known h room) in
      let duties = if vacant then shown_then_ready room ask dealers moment else [] in
      let effect = in_it h room (fact_if vacant (Opened request)) duties in
      step_makes _ vacant (Opened request) duties (λ now later. tt)
      (if_left h effect vacant (shown_then_ready room ask dealers moment)
      (every_both (DutyNow h effect) (map (λ dealer. duty.Show dealer room ask moment) dealers)
      (duty.Ready room moment ∷ [])
      (every_map (DutyNow h effect) (λ dealer. duty.Show dealer room ask moment) dealers
      (λ dealer among. λ now later. asks now (to_now h effect later)))
      (λ now later. tt, tt)))

  pub posted_makes : (who : ByDealer h.config h.by) (quote price : ℕ) (valid_until : Option ℕ)
      (moment : ℕ) → (nat_le 1 quote && nat_le quote who.row.quotes) ≡ true
      → Still (λ now. (dealer : ℕ) × (h.by ≡ actor.Firm dealer)
      × QuoteOf now.facts dealer room quote price valid_until) h.venue
      → Makes h (posted_by h.config h.venue.facts room quote price valid_until moment
      (dealer_of who.dealer who.row))
  unfolding event_facts
  posted_makes who quote price valid_until moment within quotes =
      let own = dealer_of who.dealer who.row in
      let posted = Posted (quote_posted who.dealer (word_for h.config own quote) price valid_until) in
      let takes = takes_quotes (known h room) in
      let relay = duty.Relay room (offer_of h.config own quote price valid_until) moment in
      let relays = hears (known h room) who.dealer && takes in
      let effect = in_it h room (fact_if takes posted) (where_follows relays relay) in
      step_makes _ takes posted (where_follows relays relay) (λ now later. tt)
      (where_left h effect relays relay (λ now later.
      let of = quotes now (to_now h effect later) in
      let one : actor.Firm of.0 ≡ actor.Firm who.dealer = sym of.1 ∙ who.by_is in
      let same : of.0 ≡ who.dealer = cc in
      offer_from h.config now.facts room who.dealer who.row quote price valid_until who.row_is within
      (subst (λ (d : ℕ). QuoteOf now.facts d room quote price valid_until) same of.2)))

  -- Ends by which nothing is traded.

  reply_left : (effect : Effect) (response : ResponseRef) (moment : ℕ) (b : Bool)
      → IsValue response.id
      → DutyNow h effect (duty.Answer room response (reply_to_pass b) moment)
  reply_left effect response moment true id_is now later = id_is
  reply_left effect response moment false id_is now later = id_is

  pub passed_makes : (response : ResponseRef) (moment : ℕ) → IsValue response.id
      → Makes h (in_room h.config h.venue.facts room true (at_room.Pass moment)
      (duties_of_pass (known h room) room response moment))
  unfolding event_facts
  passed_makes response moment id_is =
      let is = is_open (known h room) in
      let duties = duties_of_pass (known h room) room response moment in
      let effect = in_it h room (fact_if is (Ended passed moment)) duties in
      step_makes _ is (Ended passed moment) duties (λ now later. tt) (
        reply_left effect response moment is id_is,
        if_left h effect is _ (told_left effect passed moment),
      )

  pub swept_makes : (moment : ℕ) → Makes h (sweep_effect h.config h.venue.facts room moment)
  unfolding event_facts sweep_effect
  swept_makes moment =
      let is = may_expire (known h room) moment in
      let ends = duty.Close room moment ∷ told_in (known h room) room expired moment in
      let duties = if is then ends else [] in
      let effect = in_it h room (fact_if is (Ended expired moment)) duties in
      step_makes _ is (Ended expired moment) duties (λ now later. tt)
      (if_left h effect is ends (λ now later. tt, told_left effect expired moment))
