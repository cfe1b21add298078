-- What each action adds to one room, whatever is to be shown of it.
use Rattle.std.proofs.Common.{◌≡◌, ℕ, Bool, true, false, List, [], map}
use Rattle.std.proofs.Common.{Option, Some, None, is_some, refl, sym, subst, inl, inr}
use Rattle.std.proofs.Common.{if◌then◌else◌, Result, Ok, Err}
use Rattle.std.proofs.lemmas.Bool.{cases_Bool}
use Rattle.market_terms.specs.declared.closes.HitRefusal.{HitRefusal}
use Rattle.market_terms.specs.declared.duties.Duty.{Duty}
use Rattle.market_terms.specs.declared.rooms.ResponseRef.{ResponseRef}
use Rattle.market_terms.specs.declared.rooms.RoomRef.{RoomRef}
use Rattle.quote_word.specs.declared.settled.Settled.{Settled}
use Rattle.venue_rows.specs.Rows.{Configuration, dealer_numbered}
use Rattle.venue_steps.specs.Dealers.{Dealer, QuoteRef, dealer_at, dealer_of, quote_with_word}
use Rattle.venue_steps.specs.declared.actors.Actor.{Actor}
use Rattle.dealer_desk.specs.DealerOutput.{is_same_room}
use Rattle.dealer_desk.specs.declared.events.DealerEvent.{DealerEvent}
use Rattle.dealer_desk.specs.declared.events.DealerEvent.TheVariants as at_desk
use Rattle.investor_desk.specs.InvestorDesk.{market_for, market_of}
use Rattle.investor_desk.specs.InvestorRules.{InvestorMarket}
use Rattle.investor_desk.specs.declared.events.InvestorEvent.{InvestorEvent}
use Rattle.investor_desk.specs.declared.events.InvestorEvent.TheVariants as at_investor
use Rattle.request_room.specs.Book.{end_by, event_facts, expired, hit_outcome, passed, quote_posted, fact_if}
use Rattle.request_room.specs.RoomFacts.{Ended, Noted, Opened, Posted, Readied, RoomFact, Unposted}
use Rattle.request_room.specs.declared.ends.End.{End}
use Rattle.request_room.specs.declared.events.RoomEvent.{RoomEvent}
use Rattle.request_room.specs.declared.events.RoomEvent.TheVariants as at_room
use Rattle.step_replay.specs.ActionKinds.{event_in}
use Rattle.step_replay.specs.Actions.{Effect, at_dealer, at_market, done_by}
use Rattle.step_replay.specs.Actions.{done_for, hit_with, left_by}
use Rattle.step_replay.specs.Actions.{lifting, nothing}
use Rattle.step_replay.specs.Actions.{received_by_dealer, received_by_investor, settlement_of}
use Rattle.step_replay.specs.Actions.{verdict_on}
use Rattle.step_replay.specs.DealerTrail.{entries_of}
use Rattle.step_replay.specs.DutyEffects.{duty_effect, message_effect, sweep_effect}
use Rattle.step_replay.specs.EachLemmas.{every_both}
use Rattle.step_replay.specs.GrowthLemmas.{same_room}
use Rattle.step_replay.specs.InvestorTrail as investor_trail
use Rattle.step_replay.specs.Lists.{Every}
use Rattle.step_replay.specs.PlaceLemmas.{other_room, own_room, room_at_dealer, room_at_investor, room_grown}
use Rattle.step_replay.specs.VenueFacts.{Fact, InRoom, of_dealer, of_investor, of_room}
use Rattle.laws_days.specs.DutyWalk.{AnyDealer, AnyInvestor, RoomMay, Walks, any_dealer}
use Rattle.laws_days.specs.DutyWalk.{any_investor, duty_walks, settlement_found, sweep_walks}
use Rattle.laws_days.specs.ActionCases.{if_does, invested_does, numbered_does}

-- an event of a kind, wherever it comes and whatever it leaves
abbrev pub OfKind : (RoomEvent → Type 0) → RoomRef → RoomEvent → List Duty → Type 0
OfKind Kind at event left = Kind event

-- what a hit lifts stands in no room
pub lifted_none : (room : RoomRef) (found : Option QuoteRef) (outcome : Result End HitRefusal)
    → of_room room (lifting found outcome) ≡ []
unfolding of_room
lifted_none room None outcome = refl
lifted_none room (Some hit) (Ok award) = refl
lifted_none room (Some hit) (Err why) = refl

module _ (P : RoomFact → Type 0) where
  -- what an event may add
  abbrev pub MayHappen : RoomEvent → Type 0
  MayHappen (at_room.Open request) = P (Opened request)
  MayHappen at_room.Ready = P Readied
  MayHappen (at_room.Post dealer word price until) = P (Posted (quote_posted dealer word price until))
  MayHappen (at_room.Unpost dealer word) = P (Unposted dealer word)
  MayHappen (at_room.Decline dealer) = P (Noted dealer)
  MayHappen (at_room.Hit word moment settlement) = (end : End) → P (Ended end moment)
  MayHappen (at_room.Pass moment) = P (Ended passed moment)
  MayHappen (at_room.Expire moment) = P (Ended expired moment)

  so_each : (b : Bool) (fact : RoomFact) → P fact → Every P (fact_if b fact)
  so_each true fact is = (is, tt)
  so_each false fact is = tt

  end_each : (moment : ℕ) → ((end : End) → P (Ended end moment)) → (outcome : Result End HitRefusal)
      → Every P (end_by outcome moment)
  end_each moment is (Ok award) = (is award, tt)
  end_each moment is (Err why) = tt

  pub event_each : (known : List RoomFact) (event : RoomEvent) → MayHappen event → Every P (event_facts known event)
  unfolding event_facts
  event_each known (at_room.Open request) is = so_each _ (Opened request) is
  event_each known at_room.Ready is = so_each _ Readied is
  event_each known (at_room.Post dealer word price until) is =
      so_each _ (Posted (quote_posted dealer word price until)) is
  event_each known (at_room.Unpost dealer word) is = so_each _ (Unposted dealer word) is
  event_each known (at_room.Decline dealer) is = so_each _ (Noted dealer) is
  event_each known (at_room.Hit word moment settlement) is =
      end_each moment is (hit_outcome known word moment settlement)
  event_each known (at_room.Pass moment) is = so_each _ (Ended passed moment) is
  event_each known (at_room.Expire moment) is = so_each _ (Ended expired moment) is

module _ (P : RoomFact → Type 0) (config : Configuration) (facts : List Fact) (room : RoomRef) where
  -- each fact that an action adds to the room is so
  pub record Adds (effect : Effect) : Type 0 where
    pub each : Every P (of_room room effect.facts)

  idle : Adds nothing
  unfolding of_room
  idle = record { each = tt }

  desk_adds : (dealer : Dealer) (event : DealerEvent) (duties : List Duty)
      → Adds (at_dealer config facts dealer event duties)
  desk_adds dealer event duties = record {
    each = subst (Every P) (sym (room_at_dealer room dealer.number
        (entries_of config.date dealer.row (of_dealer dealer.number facts) event))) tt;
  }

  market_adds : (market : InvestorMarket) (event : InvestorEvent) (duties : List Duty)
      → Adds (at_market facts market event duties)
  market_adds market event duties = record {
    each = subst (Every P) (sym (room_at_investor room market.firm
        (investor_trail.entries_of market (of_investor market.firm facts) event))) tt;
  }

  -- In a room.

  placed : (at : RoomRef) (happened : List RoomFact) → Every P happened
      → Every P (of_room room (map (InRoom at) happened))
  placed at happened each = elim (cases_Bool (is_same_room at room)) [
    | inl same ↦ subst (Every P) (sym (subst (λ (r : RoomRef). of_room r (map (InRoom at) happened) ≡ happened)
        (same_room at room same) (own_room at happened))) each
    | inr differs ↦ subst (Every P) (sym (other_room room at differs happened)) tt
  ]

  event_adds : (at : RoomRef) (event : RoomEvent) (left : List Duty) → MayHappen P event
      → Adds (event_in config facts at event left)
  event_adds at event left is = record {
    each = placed at (event_facts (of_room at facts) event) (event_each P (of_room at facts) event is);
  }

  hit_adds : (at : RoomRef) (response : ResponseRef) (word moment : ℕ) (settlement : Option Settled)
      → ((end : End) → P (Ended end moment))
      → Adds (hit_with config facts at response word moment settlement)
  hit_adds at response word moment settlement is =
      let known = of_room at facts in
      let lifted = lifting (quote_with_word config word) (hit_outcome known word moment settlement) in
      let happened = event_facts known (at_room.Hit word moment settlement) in
      record {
        each = subst (Every P) (sym (room_grown room lifted (map (InRoom at) happened)))
            (every_both P (of_room room lifted) (of_room room (map (InRoom at) happened))
            (subst (Every P)
            (sym (lifted_none room (quote_with_word config word) (hit_outcome known word moment settlement))) tt)
            (placed at happened (event_each P known (at_room.Hit word moment settlement) is)));
      }

  -- Duties.

  module _ (Kind : RoomEvent → Type 0) (may : (event : RoomEvent) → Kind event → MayHappen P event) where
    walks : Walks AnyDealer AnyInvestor (OfKind Kind) config facts Adds
    walks = record {
      idle = idle;
      at_a_dealer = λ number row found event left any. desk_adds (dealer_of number row) event left;
      at_an_investor = λ number row found event any. market_adds (market_of config number row) event [];
      in_a_room = λ at there event no_hit left is. event_adds at event left (may event is);
      by_a_hit = λ at there response word moment is.
          let settlement = settlement_found config facts at word moment in
          hit_adds at response word moment settlement (may (at_room.Hit word moment settlement) is);
    }

    -- a duty that brings to its room an event of a kind, of which each may happen
    pub kind_adds : (by : Actor) (d : Duty) → RoomMay (OfKind Kind) config facts by d
        → Adds (duty_effect config facts by d)
    kind_adds by d is =
        duty_walks AnyDealer AnyInvestor (OfKind Kind) config facts Adds walks by d
        (any_dealer AnyDealer config facts by d (λ number row event left is. tt))
        (any_investor AnyInvestor config by d (λ number row event is. tt)) is

  -- what a duty may add
  abbrev pub MayAdd : Actor → Duty → Type 0
  MayAdd by d = RoomMay (OfKind (MayHappen P)) config facts by d

  pub duty_adds : (by : Actor) (d : Duty) → MayAdd by d → Adds (duty_effect config facts by d)
  duty_adds by d is = kind_adds (MayHappen P) (λ event so. so) by d is

  -- A sweep, and messages of firms.

  pub sweep_adds : (at : RoomRef) (moment : ℕ) → P (Ended expired moment)
      → Adds (sweep_effect config facts at moment)
  sweep_adds at moment is =
      sweep_walks AnyDealer AnyInvestor (OfKind (MayHappen P)) config facts Adds
      (walks (MayHappen P) (λ event so. so)) at moment is

  received_adds : (dealer : Dealer) (moment : ℕ) (bytes : List ℕ)
      → Adds (received_by_dealer config facts moment bytes dealer)
  received_adds dealer moment bytes =
      let found = verdict_on config facts moment bytes dealer in
      let trail = of_dealer dealer.number facts in
      if_does Adds idle _ (at_dealer config facts dealer
      (at_desk.Received moment bytes (settlement_of trail found)) (left_by trail moment found))
      (desk_adds dealer (at_desk.Received moment bytes (settlement_of trail found)) (left_by trail moment found))

  pub message_adds : (firm moment : ℕ) (bytes : List ℕ) → Adds (message_effect config facts firm moment bytes)
  unfolding message_effect
  message_adds firm moment bytes = either (is_some (dealer_numbered config firm))
    where
      either : (b : Bool) → Adds (if b
          then done_by (dealer_at config firm) (received_by_dealer config facts moment bytes)
          else done_for (market_for config firm) (received_by_investor facts moment bytes))
      either true = numbered_does Adds idle config firm (received_by_dealer config facts moment bytes)
          (λ row found. received_adds (dealer_of firm row) moment bytes)
      either false = invested_does Adds idle config firm (received_by_investor facts moment bytes)
          (λ row. market_adds (market_of config firm row) (at_investor.Received moment bytes) _)
