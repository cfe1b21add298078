-- What each action adds at the desk of one investor, whatever is to be shown of it.
use Rattle.std.proofs.Common.{◌≡◌, ◌==◌, ℕ, Bool, true, false, List, [], ◌++◌, map}
use Rattle.std.proofs.Common.{Option, Some, None, is_some, refl, sym, ap, ◌∙◌, subst, inl, inr}
use Rattle.std.proofs.Common.{if◌then◌else◌, Result, Ok, Err}
use Rattle.std.proofs.lemmas.Bool.{cases_Bool, eqb-true}
use Rattle.dealer_desk.specs.declared.events.DealerEvent.{DealerEvent}
use Rattle.dealer_desk.specs.declared.events.DealerEvent.TheVariants as at_dealer_desk
use Rattle.market_terms.specs.declared.closes.HitRefusal.{HitRefusal}
use Rattle.market_terms.specs.declared.duties.Duty.{Duty}
use Rattle.market_terms.specs.declared.duties.Duty.TheVariants as duty
use Rattle.market_terms.specs.declared.rooms.ResponseRef.{ResponseRef}
use Rattle.market_terms.specs.declared.rooms.RoomRef.{RoomRef}
use Rattle.quote_word.specs.declared.settled.Settled.{Settled}
use Rattle.venue_rows.specs.Rows.{Configuration, dealer_numbered}
use Rattle.venue_rows.specs.declared.investor_rows.InvestorRow.{InvestorRow}
use Rattle.venue_steps.specs.Dealers.{Dealer, QuoteRef, dealer_at, dealer_of, quote_with_word}
use Rattle.venue_steps.specs.declared.actors.Actor.{Actor}
use Rattle.venue_steps.specs.declared.actors.Actor.TheVariants as actor
use Rattle.investor_desk.specs.InvestorDesk.{market_for, market_of}
use Rattle.investor_desk.specs.InvestorFacts.{InvestorBook, InvestorFact}
use Rattle.investor_desk.specs.InvestorFacts.{open_request, request_numbered}
use Rattle.investor_desk.specs.InvestorOutput as investor_output
use Rattle.investor_desk.specs.InvestorRules.{investor_verdict}
use Rattle.investor_desk.specs.declared.events.InvestorEvent.{InvestorEvent}
use Rattle.investor_desk.specs.declared.events.InvestorEvent.TheVariants as at_investor
use Rattle.investor_desk.specs.declared.verdicts.InvestorVerdict.{InvestorVerdict}
use Rattle.request_room.specs.Book.{event_facts, hit_outcome}
use Rattle.request_room.specs.declared.ends.End.{End}
use Rattle.request_room.specs.declared.events.RoomEvent.{RoomEvent}
use Rattle.request_room.specs.declared.events.RoomEvent.TheVariants as at_room
use Rattle.step_replay.specs.ActionKinds.{event_in}
use Rattle.step_replay.specs.Actions.{Effect, at_dealer, at_market, done_by, done_for}
use Rattle.step_replay.specs.Actions.{hit_with, left_by, lifting, nothing}
use Rattle.step_replay.specs.Actions.{received_by_dealer, received_by_investor, settlement_of}
use Rattle.step_replay.specs.Actions.{verdict_on}
use Rattle.step_replay.specs.DealerTrail.{entries_of}
use Rattle.step_replay.specs.DutyEffects.{duty_effect, message_effect, sweep_effect}
use Rattle.step_replay.specs.InvestorTrail as investor_trail
use Rattle.step_replay.specs.InvestorTrail.{InvestorEntry}
use Rattle.step_replay.specs.Lists.{Every}
use Rattle.step_replay.specs.PlaceLemmas.{investor_at_dealer, investor_grown, investor_in_room, other_investor}
use Rattle.step_replay.specs.PlaceLemmas.{own_investor}
use Rattle.step_replay.specs.VenueFacts.{AtInvestor, Fact, InRoom, of_dealer, of_investor, of_room}
use Rattle.laws_days.specs.DutyWalk.{AnyDealer, AnyRoom, InvestorMay, Walks, any_dealer, any_room}
use Rattle.laws_days.specs.DutyWalk.{duty_walks, settlement_found, sweep_walks}
use Rattle.laws_days.specs.ActionCases.{if_does, invested_does, numbered_does}
use Rattle.laws_shown.proofs.ShownMarket.{entries_facts}
use Rattle.laws_shown.specs.ShownRequests.{at_investor as market_facts}

module _ (P : InvestorFact → Type 0) (config : Configuration) (facts : List Fact) (investor : ℕ) where
  -- each fact that an action adds at the desk is so
  pub record Brings (effect : Effect) : Type 0 where
    pub each : Every P (market_facts investor effect.facts)

  away : (effect : Effect) → of_investor investor effect.facts ≡ [] → Brings effect
  away effect none = record {
    each = subst (λ (l : List InvestorEntry). Every P (investor_trail.facts_of l)) (sym none) tt;
  }

  idle : Brings nothing
  unfolding of_investor
  idle = away nothing refl

  desk_brings : (dealer : Dealer) (event : DealerEvent) (duties : List Duty)
      → Brings (at_dealer config facts dealer event duties)
  desk_brings dealer event duties =
      away (at_dealer config facts dealer event duties) (investor_at_dealer investor dealer.number
      (entries_of config.date dealer.row (of_dealer dealer.number facts) event))

  room_brings : (at : RoomRef) (event : RoomEvent) (left : List Duty)
      → Brings (event_in config facts at event left)
  room_brings at event left =
      away (event_in config facts at event left)
      (investor_in_room investor at (event_facts (of_room at facts) event))

  lifted_none : (found : Option QuoteRef) (outcome : Result End HitRefusal)
      → of_investor investor (lifting found outcome) ≡ []
  unfolding of_investor
  lifted_none None outcome = refl
  lifted_none (Some hit) (Ok award) = refl
  lifted_none (Some hit) (Err why) = refl

  hit_brings : (at : RoomRef) (response : ResponseRef) (word moment : ℕ) (settlement : Option Settled)
      → Brings (hit_with config facts at response word moment settlement)
  hit_brings at response word moment settlement =
      let known = of_room at facts in
      let lifted = lifting (quote_with_word config word) (hit_outcome known word moment settlement) in
      let happened = event_facts known (at_room.Hit word moment settlement) in
      away (hit_with config facts at response word moment settlement)
      (investor_grown investor lifted (map (InRoom at) happened)
      ∙ ap (λ (l : List InvestorEntry). l ++ of_investor investor (map (InRoom at) happened))
      (lifted_none (quote_with_word config word) (hit_outcome known word moment settlement))
      ∙ investor_in_room investor at happened)

  -- What comes to a desk.

  abbrev book : ℕ → InvestorBook
  book number = investor_trail.book_by (of_investor number facts)

  -- what an event adds at a desk is so, where the desk is this one
  abbrev Harmless : ℕ → InvestorRow → InvestorEvent → Type 0
  Harmless number row event = (number == investor) ≡ true
      → Every P (investor_output.event_facts (market_of config number row) (book number) event)

  market_brings : (number : ℕ) (row : InvestorRow) (event : InvestorEvent) (duties : List Duty)
      → Harmless number row event → Brings (at_market facts (market_of config number row) event duties)
  market_brings number row event duties each =
      let market = market_of config number row in
      let entries = investor_trail.entries_of market (of_investor number facts) event in
      elim (cases_Bool (number == investor)) [
        | inl same ↦ record {
          each = subst (Every P) (sym
              (ap (λ (l : List InvestorEntry). investor_trail.facts_of l)
              (subst (λ (i : ℕ). of_investor i (map (AtInvestor number) entries) ≡ entries)
              (eqb-true number investor same) (own_investor number entries))
              ∙ entries_facts config facts actor.Clock number row event duties)) (each same);
        }
        | inr differs ↦ away (at_market facts market event duties)
            (other_investor investor number differs entries)
      ]

  -- Duties.

  -- what a duty may add
  abbrev pub MayBring : Duty → Type 0
  MayBring (duty.Relay at offer moment) = (at.investor == investor) ≡ true
      → Every P (investor_output.offer_facts (book at.investor) at.n offer (open_request (book at.investor) at.n))
  MayBring (duty.Gone at word moment) = (at.investor == investor) ≡ true
      → Every P (investor_output.withdrawal_facts at.n word (open_request (book at.investor) at.n))
  MayBring (duty.Answer at response reply moment) = (at.investor == investor) ≡ true
      → Every P (investor_output.answer_facts (book at.investor) at.n response reply
      (request_numbered (book at.investor) at.n))
  MayBring (duty.Close at moment) = (at.investor == investor) ≡ true
      → Every P (investor_output.expiry_facts at.n (request_numbered (book at.investor) at.n))
  MayBring other = Unit {0}

  walks : Walks AnyDealer Harmless AnyRoom config facts Brings
  walks = record {
    idle = idle;
    at_a_dealer = λ number row found event left any. desk_brings (dealer_of number row) event left;
    at_an_investor = λ number row found event each. market_brings number row event [] each;
    in_a_room = λ at there event no_hit left any. room_brings at event left;
    by_a_hit = λ at there response word moment any.
        hit_brings at response word moment (settlement_found config facts at word moment);
  }

  may : (d : Duty) → MayBring d → InvestorMay Harmless config d
  unfolding investor_output.event_facts
  may (duty.Relay at offer moment) is = λ row found same. is same
  may (duty.Gone at word moment) is = λ row found same. is same
  may (duty.Declined at moment) is = λ number dealer known row found same. tt
  may (duty.Answer at response reply moment) is = λ fits row found same. is same
  may (duty.Close at moment) is = λ row found same. is same
  may other is = tt

  pub duty_brings : (by : Actor) (d : Duty) → MayBring d → Brings (duty_effect config facts by d)
  duty_brings by d is =
      duty_walks AnyDealer Harmless AnyRoom config facts Brings walks by d
      (any_dealer AnyDealer config facts by d (λ number row event left is. tt)) (may d is)
      (any_room AnyRoom config facts by d (λ at event left is. tt))

  -- A sweep, and messages of firms.

  pub sweep_brings : (at : RoomRef) (moment : ℕ) → Brings (sweep_effect config facts at moment)
  sweep_brings at moment =
      sweep_walks AnyDealer Harmless AnyRoom config facts Brings walks at moment tt

  received_brings : (dealer : Dealer) (moment : ℕ) (bytes : List ℕ)
      → Brings (received_by_dealer config facts moment bytes dealer)
  received_brings dealer moment bytes =
      let found = verdict_on config facts moment bytes dealer in
      let trail = of_dealer dealer.number facts in
      if_does Brings idle _ (at_dealer config facts dealer
      (at_dealer_desk.Received moment bytes (settlement_of trail found)) (left_by trail moment found))
      (desk_brings dealer (at_dealer_desk.Received moment bytes (settlement_of trail found))
      (left_by trail moment found))

  -- what a message of the investor may add
  abbrev pub Said : Type 0
  Said = (moment : ℕ) (bytes : List ℕ) (v : InvestorVerdict) → Every P (investor_output.own_facts moment bytes v)

  own_brings : Said → (firm : ℕ) (row : InvestorRow) (moment : ℕ) (bytes : List ℕ)
      → Harmless firm row (at_investor.Received moment bytes)
  unfolding investor_output.event_facts
  own_brings said firm row moment bytes same =
      said moment bytes (investor_verdict (market_of config firm row) (book firm) moment bytes)

  pub message_brings : Said → (firm moment : ℕ) (bytes : List ℕ) → Brings (message_effect config facts firm moment bytes)
  unfolding message_effect
  message_brings said firm moment bytes = either (is_some (dealer_numbered config firm))
    where
      either : (b : Bool) → Brings (if b
          then done_by (dealer_at config firm) (received_by_dealer config facts moment bytes)
          else done_for (market_for config firm) (received_by_investor facts moment bytes))
      either true = numbered_does Brings idle config firm (received_by_dealer config facts moment bytes)
          (λ row found. received_brings (dealer_of firm row) moment bytes)
      either false = invested_does Brings idle config firm (received_by_investor facts moment bytes)
          (λ row. market_brings firm row (at_investor.Received moment bytes) _ (own_brings said firm row moment bytes))
