-- Each fact that an action of one side adds is of that side, and so is all that it names.
use Rattle.std.proofs.Common.{◌≡◌, ℕ, Bool, true, false, List, [], ◌++◌, map, Option, Some, None}
use Rattle.std.proofs.Common.{IfSome, is_some, refl, sym, ◌∙◌, subst, Result, Ok, Err}
use Rattle.std.specs.Option.{option_to_list}
use Rattle.std.proofs.lemmas.Bool.{cond_both}
use Rattle.market_terms.specs.declared.closes.HitRefusal.{HitRefusal}
use Rattle.market_terms.specs.declared.closes.HitRefusal.TheVariants as refusal
use Rattle.market_terms.specs.declared.duties.Duty.{Duty}
use Rattle.market_terms.specs.declared.duties.Duty.TheVariants as duty
use Rattle.market_terms.specs.declared.rooms.RoomRef.{RoomRef}
use Rattle.quote_word.specs.declared.settled.Settled.{Settled}
use Rattle.venue_rows.specs.Rows.{Configuration, dealer_numbered}
use Rattle.venue_rows.specs.declared.dealer_rows.DealerRow.{DealerRow}
use Rattle.venue_rows.specs.declared.investor_rows.InvestorRow.{InvestorRow}
use Rattle.dealer_desk.specs.DealerOutput as dealer_output
use Rattle.dealer_desk.specs.DealerOutput.{shown_room}
use Rattle.dealer_desk.specs.declared.events.DealerEvent.{DealerEvent}
use Rattle.dealer_desk.specs.declared.events.DealerEvent.TheVariants as at_desk
use Rattle.investor_desk.specs.InvestorDesk.{market_of}
use Rattle.investor_desk.specs.InvestorRules.{InvestorMarket}
use Rattle.investor_desk.specs.declared.events.InvestorEvent.{InvestorEvent}
use Rattle.request_room.specs.Book.{award_of, end_by, event_facts, hit_outcome}
use Rattle.request_room.specs.Book.{hit_refusal, hit_settled, is_lift, quote_posted}
use Rattle.request_room.specs.Book.{fact_if}
use Rattle.request_room.specs.RoomFacts.{Opened, Posted, RoomFact}
use Rattle.request_room.specs.declared.ends.End.{End}
use Rattle.request_room.specs.declared.events.RoomEvent.{RoomEvent}
use Rattle.request_room.specs.declared.events.RoomEvent.TheVariants as at_room
use Rattle.venue_steps.specs.Table.{line_of}
use Rattle.venue_steps.specs.declared.actors.Actor.{Actor}
use Rattle.venue_steps.specs.declared.actors.Actor.TheVariants as actor
use Rattle.step_replay.specs.Actions.{Effect, QuoteRef, at_dealer, at_market}
use Rattle.step_replay.specs.Actions.{dealer_of, drop_at, lifting, nothing, quote_with_word}
use Rattle.step_replay.specs.Actions.{settlement_of, verdict_on}
use Rattle.step_replay.specs.DealerTrail.{AtDesk, DealerEntry, Sent, ShownIn, book_by, entries_of}
use Rattle.step_replay.specs.DealerTrail.{message_by}
use Rattle.step_replay.specs.DutyEffects.{duty_effect, message_effect, sweep_effect}
use Rattle.step_replay.specs.EachLemmas.{every_both}
use Rattle.step_replay.specs.InvestorTrail as investor_trail
use Rattle.step_replay.specs.Lists.{Every}
use Rattle.step_replay.specs.VenueFacts.{AtDealer, AtInvestor, Fact, InRoom, of_dealer, of_investor}
use Rattle.step_replay.specs.VenueFacts.{of_room}
use Rattle.laws_days.specs.ActionCases.{if_does, invested_does, message_of, numbered_does}
use Rattle.laws_days.specs.DutyWalk.{DealerMay, InvestorMay, RoomMay, Walks, any_investor}
use Rattle.laws_days.specs.DutyWalk.{any_room, duty_walks, settlement_found, sweep_walks}
use Rattle.laws_days.specs.KeptItems.{every_in, every_map}
use Rattle.laws_isolation.proofs.ThereFacts.{AskedOn, EntryOn, FactOn, FactsOn, HappenedOn, IsOn}
use Rattle.laws_isolation.proofs.ThereFacts.{OwnerOn, stays, RoomWith, room_on, word_on}

module _ (side : ℕ → Bool) (config : Configuration) (own : Bool) where
  -- a fact of one side that names what is on its side
  abbrev pub StandsOn : Fact → Type 0
  StandsOn fact = FactOn side config fact × (stays side fact ≡ own)

  -- each fact that an action adds
  pub record AddsOn (effect : Effect) : Type 0 where
    pub each : Every StandsOn effect.facts

  idle : AddsOn nothing
  idle = record { each = tt }

  -- At a desk.

  shown_on : (number : ℕ) (shown : Option RoomRef) → IfSome shown (RoomWith side config number)
      → Every (EntryOn side (side number)) (map ShownIn (option_to_list shown))
  shown_on number None is = tt
  shown_on number (Some room) is = (is, tt)

  entries_on : (date : List ℕ) (row : DealerRow) (number : ℕ) (trail : List DealerEntry)
      (event : DealerEvent) → IfSome (shown_room event) (RoomWith side config number)
      → Every (EntryOn side (side number)) (entries_of date row trail event)
  unfolding entries_of
  entries_on date row number trail event is =
      let On = EntryOn side (side number) in
      let facts = dealer_output.event_facts date row (book_by trail) event in
      let rooms = option_to_list (shown_room event) in
      let sent = option_to_list (message_by date row trail event) in
      every_both On (map AtDesk facts ++ map ShownIn rooms) (map Sent sent)
      (every_both On (map AtDesk facts) (map ShownIn rooms)
      (every_map On AtDesk (λ fact. tt) facts) (shown_on number (shown_room event) is))
      (every_map On Sent (λ message. tt) sent)

  module _ (facts : List Fact) where
    desk_adds : (number : ℕ) (row : DealerRow) (event : DealerEvent) (duties : List Duty)
        → side number ≡ own → IfSome (shown_room event) (RoomWith side config number)
        → AddsOn (at_dealer config facts (dealer_of number row) event duties)
    desk_adds number row event duties here is = record {
      each = every_in (EntryOn side (side number)) StandsOn (AtDealer number)
          (λ entry on. (on, here)) (entries_of config.date row (of_dealer number facts) event)
          (entries_on config.date row number (of_dealer number facts) event is);
    }

    market_adds : (market : InvestorMarket) (event : InvestorEvent) (duties : List Duty)
        → side market.firm ≡ own → AddsOn (at_market facts market event duties)
    market_adds market event duties here = record {
      each = every_map StandsOn (AtInvestor market.firm) (λ entry. (tt, here))
          (investor_trail.entries_of market (of_investor market.firm facts) event);
    }

  -- In a room.

  -- what an event brings to a room
  abbrev EventOn : Bool → RoomEvent → Type 0
  EventOn b (at_room.Open request) = AskedOn side b request.dealers
  EventOn b (at_room.Post dealer word price until) = OwnerOn side b (quote_with_word config word)
  EventOn b other = Unit {0}

  happened_if : (b : Bool) (fact : RoomFact) → HappenedOn side config b fact → (so : Bool)
      → Every (HappenedOn side config b) (fact_if so fact)
  happened_if b fact on true = (on, tt)
  happened_if b fact on false = tt

  ended_on : (b : Bool) (outcome : Result End HitRefusal) (moment : ℕ)
      → Every (HappenedOn side config b) (end_by outcome moment)
  ended_on b (Ok award) moment = (tt, tt)
  ended_on b (Err refused) moment = tt

  event_on : (b : Bool) (facts : List RoomFact) (event : RoomEvent) → EventOn b event
      → Every (HappenedOn side config b) (event_facts facts event)
  unfolding event_facts
  event_on b facts (at_room.Open request) on = happened_if b (Opened request) on _
  event_on b facts (at_room.Post dealer word price until) on =
      happened_if b (Posted (quote_posted dealer word price until)) on _
  event_on b facts (at_room.Hit word moment settlement) on =
      ended_on b (hit_outcome facts word moment settlement) moment
  event_on b facts other on = happened_if b _ tt _

  module _ (facts : List Fact) (room : RoomRef) (here : side room.investor ≡ own) where
    -- an event there, on its side
    room_adds : (event : RoomEvent) (duties : List Duty) → EventOn own event
        → AddsOn (record {
          facts = map (InRoom room) (event_facts (of_room room facts) event);
          duties = duties;
        })
    room_adds event duties on = record {
      each = every_in (HappenedOn side config own) StandsOn (InRoom room)
          (λ fact happened.
          (subst (λ (b : Bool). HappenedOn side config b fact) (sym here) happened, here))
          (event_facts (of_room room facts) event)
          (event_on own (of_room room facts) event on);
    }

    -- what a hit lifts, where no check refuses it, is a quote of its side
    lifts_on : (found : Option QuoteRef) (refused : Option HitRefusal)
        (settlement : Option Settled) (award : End) → (refused ≡ None → OwnerOn side own found)
        → Every StandsOn (lifting found (hit_settled refused settlement award))
    lifts_on None (Some refused) settlement award on = tt
    lifts_on (Some quote) (Some refused) settlement award on = tt
    lifts_on None None settlement award on =
        cond_both (is_lift settlement) (Ok award) (Err refusal.Withdrawn)
        (λ (outcome : Result End HitRefusal). Every StandsOn (lifting None outcome))
        (λ is. tt) (λ isnt. tt)
    lifts_on (Some quote) None settlement award on =
        cond_both (is_lift settlement) (Ok award) (Err refusal.Withdrawn)
        (λ (outcome : Result End HitRefusal). Every StandsOn (lifting (Some quote) outcome))
        (λ is. ((tt, on refl), tt)) (λ isnt. tt)

    hit_adds : FactsOn side config facts → (word moment : ℕ) (settlement : Option Settled)
        → Every StandsOn (lifting (quote_with_word config word)
        (hit_outcome (of_room room facts) word moment settlement)
        ++ map (InRoom room)
        (event_facts (of_room room facts) (at_room.Hit word moment settlement)))
    hit_adds on word moment settlement =
        let known = of_room room facts in
        every_both StandsOn
        (lifting (quote_with_word config word) (hit_outcome known word moment settlement))
        (map (InRoom room) (event_facts known (at_room.Hit word moment settlement)))
        (lifts_on (quote_with_word config word) (hit_refusal known word moment) settlement
        (award_of known word)
        (word_on side config own known
        (subst (λ (b : Bool). Every (HappenedOn side config b) known) here
        (room_on side config room facts on)) word moment))
        (room_adds (at_room.Hit word moment settlement) [] tt).each

  -- Duties.

  module _ (facts : List Fact) (on : FactsOn side config facts) where
    abbrev DealerAdds : ℕ → DealerRow → DealerEvent → List Duty → Type 0
    DealerAdds number row event left =
        AddsOn (at_dealer config facts (dealer_of number row) event left)

    abbrev InvestorAdds : ℕ → InvestorRow → InvestorEvent → Type 0
    InvestorAdds number row event =
        AddsOn (at_market facts (market_of config number row) event [])

    abbrev RoomAdds : RoomRef → RoomEvent → List Duty → Type 0
    RoomAdds room event left = (side room.investor ≡ own) × EventOn own event

    walks : Walks DealerAdds InvestorAdds RoomAdds config facts AddsOn
    walks = record {
      idle = idle;
      at_a_dealer = λ number row found event left is. is;
      at_an_investor = λ number row found event is. is;
      in_a_room = λ room there event no_hit left is. room_adds facts room is.0 event left is.1;
      by_a_hit = λ room there response word moment is. record {
        each = hit_adds facts room is.0 on word moment (settlement_found config facts room word moment);
      };
    }

    at_dealers : (by : Actor) (d : Duty) → IsOn side config own by d
        → DealerMay DealerAdds config facts by d
    unfolding line_of
    at_dealers by (duty.Show dealer room ask moment) is = λ row found none.
        desk_adds facts dealer row (at_desk.Shown room ask moment) [] is.desk_on
        (is.named_on ∙ sym is.desk_on)
    at_dealers by (duty.Tell dealer room close moment) is = λ row found request there may.
        desk_adds facts dealer row (at_desk.Told request close moment) [] is.desk_on tt
    at_dealers (actor.Firm number) (duty.Drop last moment) is = λ row found.
        desk_adds facts number row (drop_at (of_dealer number facts) last moment) _ is.desk_on tt
    at_dealers by other is = tt

    at_investors : (by : Actor) (d : Duty) → IsOn side config own by d
        → InvestorMay InvestorAdds config d
    at_investors by d is = any_investor InvestorAdds config by d (λ number row event at.
        market_adds facts (market_of config number row) event []
        (subst (λ (found : Option ℕ). IfSome found (λ (n : ℕ). side n ≡ own)) at is.desk_on))

    -- an event that brings nothing to a room of this side
    abbrev OnSide : RoomRef → RoomEvent → List Duty → Type 0
    OnSide room event left = (side room.investor ≡ own) × Unit {0}

    in_rooms : (by : Actor) (d : Duty) → IsOn side config own by d
        → RoomMay RoomAdds config facts by d
    unfolding line_of
    in_rooms by (duty.Open room ask dealers moment) is = (is.room_on, is.named_on)
    in_rooms (actor.Firm number) (duty.Post room quote price valid_until moment) is =
        λ row found. (is.room_on, is.named_on)
    in_rooms by other is = any_room OnSide config facts by other (λ room event left at. (
      subst (λ (found : Option RoomRef).
          IfSome found (λ (one : RoomRef). side one.investor ≡ own)) at is.room_on,
      tt,
    ))

    pub duty_adds : (by : Actor) (d : Duty) → IsOn side config own by d
        → AddsOn (duty_effect config facts by d)
    duty_adds by d is =
        duty_walks DealerAdds InvestorAdds RoomAdds config facts AddsOn walks by d
        (at_dealers by d is) (at_investors by d is) (in_rooms by d is)

    pub sweep_adds : (room : RoomRef) (moment : ℕ) → side room.investor ≡ own
        → AddsOn (sweep_effect config facts room moment)
    sweep_adds room moment here =
        sweep_walks DealerAdds InvestorAdds RoomAdds config facts AddsOn walks room moment (here, tt)

    pub message_adds : (firm moment : ℕ) (bytes : List ℕ) → side firm ≡ own
        → AddsOn (message_effect config facts firm moment bytes)
    unfolding message_effect
    message_adds firm moment bytes here = either (is_some (dealer_numbered config firm))
      where
        either : (b : Bool) → AddsOn (message_of config facts firm moment bytes b)
        either true =
            numbered_does AddsOn idle config firm _ (λ row found. if_does AddsOn idle _ _
            (desk_adds facts firm row (at_desk.Received moment bytes (settlement_of
            (of_dealer firm facts) (verdict_on config facts moment bytes (dealer_of firm row)))) _
            here tt))
        either false =
            invested_does AddsOn idle config firm _
            (λ row. market_adds facts (market_of config firm row) _ _ here)
