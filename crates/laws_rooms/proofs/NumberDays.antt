-- The quotes that an investor was shown bear their numbers from 1 on, after every list of steps.
use Rattle.std.proofs.Common.{◌≡◌, ◌==◌, ◌+◌, ℕ, List, [], ◌∷◌, ◌++◌, fold, length, map}
use Rattle.std.proofs.Common.{Option, Some, None, option_map, refl, sym, ap, ◌∙◌, subst, inl, inr, arith}
use Rattle.std.proofs.Common.{Result, Ok, Err}
use Rattle.std.proofs.lemmas.Bool.{cases_Bool, eqb-true}
use Rattle.market_terms.specs.declared.closes.HitRefusal.{HitRefusal}
use Rattle.market_terms.specs.declared.duties.Duty.{Duty}
use Rattle.market_terms.specs.declared.rooms.Offer.{Offer}
use Rattle.market_terms.specs.declared.rooms.RoomRef.{RoomRef}
use Rattle.venue_rows.specs.Rows.{Configuration}
use Rattle.venue_rows.specs.declared.investor_rows.InvestorRow.{InvestorRow}
use Rattle.venue_steps.specs.Dealers.{QuoteRef, quote_with_word}
use Rattle.venue_steps.specs.declared.actors.Actor.{Actor}
use Rattle.venue_steps.specs.declared.actors.Actor.TheVariants as actor
use Rattle.venue_steps.specs.RoomSteps.{hit_word}
use Rattle.investor_desk.specs.InvestorDesk.{market_of}
use Rattle.investor_desk.specs.InvestorFacts.{InvestorBook, InvestorFact, Offered, StandingRequest}
use Rattle.investor_desk.specs.InvestorFacts.{offer_of_dealer, offers_of, open_request}
use Rattle.investor_desk.specs.InvestorFacts.{request_numbered}
use Rattle.investor_desk.specs.InvestorOutput as investor_output
use Rattle.investor_desk.specs.InvestorRules.{InvestorMarket, investor_verdict}
use Rattle.investor_desk.specs.declared.events.InvestorEvent.{InvestorEvent}
use Rattle.investor_desk.specs.declared.events.InvestorEvent.TheVariants as at_investor
use Rattle.investor_desk.specs.declared.standing.ShownOffer.{ShownOffer}
use Rattle.investor_desk.specs.declared.verdicts.InvestorVerdict.{InvestorVerdict}
use Rattle.investor_desk.specs.declared.verdicts.InvestorVerdict.TheVariants as asks
use Rattle.request_room.specs.Book.{event_facts, hit_outcome}
use Rattle.request_room.specs.declared.ends.End.{End}
use Rattle.request_room.specs.declared.events.RoomEvent.TheVariants as at_room
use Rattle.step_replay.specs.ActionKinds.{IsAction, by_dealer, by_hit, by_investor, by_room, duty_action, idle}
use Rattle.step_replay.specs.ActionKinds.{message_action, sweep_action}
use Rattle.step_replay.specs.Actions.{Effect, answer_to_hit, at_market, lifting, quote_asked}
use Rattle.step_replay.specs.AuditTrail.{AuditTrail, after_step, after_turn, audit_trail, no_steps, pending}
use Rattle.step_replay.specs.DealerTrail.{entries_of}
use Rattle.step_replay.specs.InvestorTrail as investor_trail
use Rattle.step_replay.specs.InvestorTrail.{InvestorEntry}
use Rattle.step_replay.specs.PlaceLemmas.{investor_at_dealer, investor_grown, investor_in_room, other_investor}
use Rattle.step_replay.specs.PlaceLemmas.{own_investor}
use Rattle.step_replay.specs.VenueFacts.{AtInvestor, Fact, InRoom, of_dealer, of_investor, of_room}
use Rattle.step_replay.specs.declared.steps.Step.{Step}
use Rattle.step_replay.specs.declared.steps.Step.TheVariants as step
use Rattle.step_replay.specs.Lists.{Every}
use Rattle.laws_days.proofs.NewsWalk.{news_adds, reply_adds}
use Rattle.laws_shown.specs.ShownQuotes.{shown_to}
use Rattle.laws_shown.proofs.ListLemmas.{AreFrom, from_both}
use Rattle.laws_shown.proofs.ShownMarket.{entries_facts}
use Rattle.laws_shown.proofs.ShownParts.{shown_grown}
use Rattle.laws_shown.proofs.ShownQuiet.{NoOffer, no_offers}
use Rattle.laws_rooms.proofs.StandLemmas.{number_of}

-- What an event shows bears the next number.

module _ (market : InvestorMarket) (book : InvestorBook) where
  abbrev GoOn : List InvestorFact → Type 0
  GoOn facts = AreFrom number_of (1 + length book.offers) (offers_of facts)

  said_on : (v : InvestorVerdict) → GoOn (investor_output.verdict_facts v)
  said_on (asks.RequestAccepted id request) = tt
  said_on other = tt

  came_on : (request : ℕ) (offer : Offer) (own : Option StandingRequest)
      → GoOn (investor_output.offer_facts book request offer own)
  came_on request offer None = tt
  came_on request offer (Some own) = by_old (offer_of_dealer own offer.dealer)
    where
      next : length book.offers + 1 ≡ 1 + length book.offers
      next = omega arith

      by_old : (old : Option ShownOffer) → GoOn (investor_output.gone_facts request old
          ++ Offered (investor_output.next_offer book request offer) ∷ [])
      by_old None = (next, tt)
      by_old (Some old) = (next, tt)

  none_on : (facts : List InvestorFact) → Every NoOffer facts → GoOn facts
  none_on facts none = rw (no_offers facts none) tt

  event_on : (event : InvestorEvent) → GoOn (investor_output.event_facts market book event)
  unfolding investor_output.event_facts
  event_on (at_investor.Received moment bytes) = said_on (investor_verdict market book moment bytes)
  event_on (at_investor.QuoteCame request offer moment) = came_on request offer (open_request book request)
  event_on (at_investor.Answered request response reply moment) =
      none_on _ (reply_adds NoOffer book request response reply (λ how. tt) (request_numbered book request))
  event_on other = none_on (investor_output.event_facts market book other)
      (news_adds NoOffer market book other tt (λ request word moment is quote. tt) (λ request. tt))

module _ (config : Configuration) (investor : ℕ) where
  abbrev pub AreNumbered : List Fact → Type 0
  AreNumbered facts = AreFrom number_of 1 (shown_to investor facts)

  -- an action keeps it
  record Keeps (facts : List Fact) (effect : Effect) : Type 0 where
    pub so : AreNumbered facts → AreNumbered (facts ++ effect.facts)

  by_added : (facts : List Fact) (effect : Effect)
      → AreFrom number_of (1 + length (shown_to investor facts)) (shown_to investor effect.facts)
      → Keeps facts effect
  by_added facts effect next = record {
    so = λ before. subst (AreFrom number_of 1) (sym (shown_grown investor facts effect.facts))
        (from_both number_of 1 (shown_to investor facts) (shown_to investor effect.facts) before next);
  }

  away : (facts : List Fact) (effect : Effect) → of_investor investor effect.facts ≡ [] → Keeps facts effect
  away facts effect none =
      by_added facts effect (subst (λ (l : List InvestorEntry).
      AreFrom number_of (1 + length (shown_to investor facts)) (offers_of (investor_trail.facts_of l)))
      (sym none) tt)

  lifted_none : (found : Option QuoteRef) (outcome : Result End HitRefusal)
      → of_investor investor (lifting found outcome) ≡ []
  unfolding of_investor
  lifted_none None outcome = refl
  lifted_none (Some hit) (Ok award) = refl
  lifted_none (Some hit) (Err why) = refl

  nothing_there : of_investor investor [] ≡ []
  unfolding of_investor
  nothing_there = refl

  market_keeps : (facts : List Fact) (number : ℕ) (row : InvestorRow) (event : InvestorEvent)
      (duties : List Duty) → Keeps facts (at_market facts (market_of config number row) event duties)
  market_keeps facts number row event duties =
      let market = market_of config number row in
      let entries = investor_trail.entries_of market (of_investor number facts) event in
      elim (cases_Bool (number == investor)) [
        | inr differs ↦ away facts (at_market facts market event duties)
            (other_investor investor number differs entries)
        | inl same ↦ by_added facts (at_market facts market event duties)
            (subst (λ (i : ℕ). AreFrom number_of (1 + length (shown_to i facts))
            (shown_to i (map (AtInvestor number) entries))) (eqb-true number investor same)
            (subst (λ (l : List InvestorFact).
            AreFrom number_of (1 + length (shown_to number facts)) (offers_of l))
            (sym (ap (λ (l : List InvestorEntry). investor_trail.facts_of l) (own_investor number entries)
            ∙ entries_facts config facts actor.Clock number row event duties))
            (event_on market (investor_trail.book_by (of_investor number facts)) event)))
      ]

  action_keeps : (facts : List Fact) (desk : Option ℕ) (room : Option RoomRef) (effect : Effect)
      → IsAction config facts desk room effect → Keeps facts effect
  action_keeps facts desk room effect (idle is) =
      away facts effect (ap (λ (e : Effect). of_investor investor e.facts) is ∙ nothing_there)
  action_keeps facts desk room effect (by_dealer number row event duties at found comes is) =
      away facts effect (ap (λ (e : Effect). of_investor investor e.facts) is
      ∙ investor_at_dealer investor number (entries_of config.date row (of_dealer number facts) event))
  action_keeps facts desk room effect (by_investor number row event duties at found fit is) =
      subst (Keeps facts) (sym is) (market_keeps facts number row event duties)
  action_keeps facts desk room effect (by_room at event duties here is) =
      away facts effect (ap (λ (e : Effect). of_investor investor e.facts) is
      ∙ investor_in_room investor at (event_facts (of_room at facts) event))
  action_keeps facts desk room effect (by_hit at response word moment here is) =
      let known = of_room at facts in
      let settled = option_map (answer_to_hit facts) (quote_asked config (hit_word known word moment)) in
      let lifted = lifting (quote_with_word config word) (hit_outcome known word moment settled) in
      let happened = event_facts known (at_room.Hit word moment settled) in
      away facts effect (ap (λ (e : Effect). of_investor investor e.facts) is
      ∙ investor_grown investor lifted (map (InRoom at) happened)
      ∙ ap (λ (l : List InvestorEntry). l ++ of_investor investor (map (InRoom at) happened))
      (lifted_none (quote_with_word config word) (hit_outcome known word moment settled))
      ∙ investor_in_room investor at happened)

  -- After every list of steps.

  turn_keeps : (by : Actor) (before : AuditTrail) (duties : List Duty) → AreNumbered before.facts
      → AreNumbered (after_turn config by before duties).facts
  turn_keeps by before [] are = are
  turn_keeps by before (more ∷ later) are =
      (action_keeps before.facts _ _ _ (duty_action config before.facts by more)).so are

  step_keeps : (before : AuditTrail) (more : Step) → AreNumbered before.facts
      → AreNumbered (after_step config before more).facts
  unfolding after_step
  step_keeps before (step.In firm moment message) are =
      (action_keeps before.facts _ _ _ (message_action config before.facts firm moment message)).so are
  step_keeps before (step.Turn by) are = turn_keeps by before (pending by before) are
  step_keeps before (step.Expire room moment) are =
      (action_keeps before.facts _ _ _ (sweep_action config before.facts room moment)).so are

  steps_keep : (before : AuditTrail) (steps : List Step) → AreNumbered before.facts
      → AreNumbered (fold (after_step config) before steps).facts
  steps_keep before [] are = are
  steps_keep before (more ∷ steps) are =
      steps_keep (after_step config before more) steps (step_keeps before more are)

  pub numbered : (steps : List Step) → AreNumbered (audit_trail config steps).facts
  unfolding audit_trail of_investor
  numbered steps = steps_keep no_steps steps tt
