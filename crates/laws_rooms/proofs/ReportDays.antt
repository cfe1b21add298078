-- An investor is sent a message for each quote that is gone by the facts at its desk, after every list of steps.
use Rattle.std.proofs.Common.{◌≡◌, ◌==◌, ◌+◌, ℕ, List, [], ◌∷◌, ◌++◌, fold, length, map}
use Rattle.std.proofs.Common.{filter_map, Option, Some, None, option_map, option_to_list, refl, sym, ap}
use Rattle.std.proofs.Common.{◌∙◌, subst, inl, inr, Result, Ok, Err}
use Rattle.std.proofs.lemmas.Bool.{cases_Bool, eqb-true}
use Rattle.std.proofs.lemmas.List.{map-append}
use Rattle.std.proofs.lemmas.List.Elements.{filter_map-append}
use Rattle.std.proofs.lemmas.Option.{same_Some}
use Rattle.market_terms.specs.declared.closes.HitRefusal.{HitRefusal}
use Rattle.market_terms.specs.declared.duties.Duty.{Duty}
use Rattle.market_terms.specs.declared.rooms.Offer.{Offer}
use Rattle.market_terms.specs.declared.rooms.RoomRef.{RoomRef}
use Rattle.quote_messages.specs.declared.out_messages.OutMessage.{OutMessage}
use Rattle.venue_rows.specs.Rows.{Configuration, investor_numbered}
use Rattle.venue_rows.specs.declared.investor_rows.InvestorRow.{InvestorRow}
use Rattle.venue_steps.specs.Dealers.{QuoteRef, quote_with_word}
use Rattle.venue_steps.specs.declared.actors.Actor.{Actor}
use Rattle.venue_steps.specs.declared.actors.Actor.TheVariants as actor
use Rattle.venue_steps.specs.RoomSteps.{hit_word}
use Rattle.investor_desk.specs.InvestorDesk.{market_of}
use Rattle.investor_desk.specs.InvestorFacts.{Asked, InvestorBook, InvestorFact, Offered, StandingRequest, book_of}
use Rattle.investor_desk.specs.InvestorFacts.{offer_of_dealer, offer_with_word, open_request, request_numbered}
use Rattle.investor_desk.specs.InvestorOutput as investor_output
use Rattle.investor_desk.specs.InvestorRules.{InvestorMarket, investor_verdict}
use Rattle.investor_desk.specs.declared.events.InvestorEvent.{InvestorEvent}
use Rattle.investor_desk.specs.declared.events.InvestorEvent.TheVariants as at_investor
use Rattle.investor_desk.specs.declared.standing.AcceptedRequest.{AcceptedRequest}
use Rattle.investor_desk.specs.declared.standing.RequestClose.{RequestClose}
use Rattle.investor_desk.specs.declared.standing.ShownOffer.{ShownOffer}
use Rattle.investor_desk.specs.declared.verdicts.InvestorVerdict.{InvestorVerdict}
use Rattle.investor_desk.specs.declared.verdicts.InvestorVerdict.TheVariants as asks
use Rattle.request_room.specs.Book.{event_facts, hit_outcome}
use Rattle.request_room.specs.declared.ends.End.{End}
use Rattle.request_room.specs.declared.events.RoomEvent.TheVariants as at_room
use Rattle.step_replay.specs.ActionKinds.{IsAction, by_dealer, by_hit, by_investor, by_room, duty_action, idle}
use Rattle.step_replay.specs.ActionKinds.{message_action, sweep_action}
use Rattle.step_replay.specs.Actions.{Effect, answer_to_hit, at_market, lifting, quote_asked}
use Rattle.step_replay.specs.AuditTrail.{AuditTrail, after_step, after_turn, audit_trail, no_steps, pending}
use Rattle.step_replay.specs.AuditTrail.{sent_to}
use Rattle.step_replay.specs.DealerTrail.{entries_of}
use Rattle.step_replay.specs.DutyEffects.{duty_effect, message_effect, sweep_effect}
use Rattle.step_replay.specs.EachLemmas.{every_both, every_weaker}
use Rattle.step_replay.specs.GrowthLemmas.{in_left}
use Rattle.step_replay.specs.InvestorTrail as investor_trail
use Rattle.step_replay.specs.InvestorTrail.{InvestorEntry}
use Rattle.step_replay.specs.Lists.{Every, In}
use Rattle.step_replay.specs.PlaceLemmas.{investor_at_dealer, investor_grown, investor_in_room, other_investor}
use Rattle.step_replay.specs.PlaceLemmas.{own_investor}
use Rattle.step_replay.specs.VenueFacts.{Fact, InRoom, of_dealer, of_investor, of_room}
use Rattle.step_replay.specs.declared.steps.Step.{Step}
use Rattle.step_replay.specs.declared.steps.Step.TheVariants as step
use Rattle.laws_days.proofs.NewsWalk.{news_adds, news_says, none_given, while_found}
use Rattle.laws_shown.proofs.ShownMarket.{entries_facts, requests_in}
use Rattle.laws_shown.specs.ShownRequests.{at_investor as market_facts}
use Rattle.laws_rooms.specs.Reports.{AreReported, gone_in, reports}
use Rattle.laws_rooms.proofs.DeclineLemmas.{found_there}
use Rattle.laws_rooms.proofs.SaidLemmas.{Says, event_sent, investor_sent, says_both, says_none, says_written}
use Rattle.laws_rooms.proofs.SaidLemmas.{sent_grown}
use Rattle.laws_rooms.proofs.TellLemmas.{market_grown}

abbrev Quote : Type 0
Quote = AcceptedRequest × ℕ

abbrev named : Quote → List ℕ × ℕ
named quote = (quote.0.id, quote.1)

abbrev numbered : Quote → ℕ × ℕ
numbered quote = (quote.0.number, quote.1)

-- What an event reports.

module _ (market : InvestorMarket) (facts : List InvestorFact) where
  abbrev book : InvestorBook
  book = book_of facts

  -- the quotes that are gone by these facts, which these messages name
  pub record Reports (messages : List OutMessage) (added : List InvestorFact) (moment : ℕ) : Type 0 where
    pub quotes : List Quote
    pub accepted : Every (λ (quote : Quote). In (Asked quote.0) facts) quotes
    pub reported_are : filter_map (reports moment) messages ≡ map named quotes
    pub gone_are : filter_map gone_in added ≡ map numbered quotes

  none_of_them : (messages : List OutMessage) (added : List InvestorFact) (moment : ℕ)
      → filter_map (reports moment) messages ≡ [] → filter_map gone_in added ≡ []
      → Reports messages added moment
  none_of_them messages added moment none none_too =
      record { quotes = []; accepted = tt; reported_are = none; gone_are = none_too }

  said_none : (v : InvestorVerdict) (moment at : ℕ) (bytes : List ℕ)
      → Reports (option_to_list (investor_output.verdict_message v)) (investor_output.own_facts at bytes v) moment
  said_none asks.Dropped moment at bytes = none_of_them _ _ moment refl refl
  said_none other moment at bytes = none_of_them _ _ moment refl refl

  -- a request that is open is one that was accepted under its number
  record IsAccepted (request : ℕ) (own : StandingRequest) : Type 0 where
    pub accepted : In (Asked own.request) facts
    pub number_is : own.request.number ≡ request

  accepted_so : (request : ℕ) (own : StandingRequest) → open_request book request ≡ Some own
      → IsAccepted request own
  unfolding request_numbered
  accepted_so request own is =
      let there = found_there (λ (r : StandingRequest). r.request.number == request) book.requests own
      (while_found (request_numbered book request) own is) in
      record {
        accepted = requests_in facts own there.0;
        number_is = eqb-true own.request.number request there.1;
      }

  one_gone : (request : ℕ) (own : StandingRequest) → IsAccepted request own → (shown : ShownOffer)
      → (messages : List OutMessage) (added : List InvestorFact) (moment : ℕ)
      → filter_map (reports moment) messages ≡ (own.request.id, shown.number) ∷ []
      → filter_map gone_in added ≡ (request, shown.number) ∷ [] → Reports messages added moment
  one_gone request own is shown messages added moment reported gone = record {
    quotes = (own.request, shown.number) ∷ [];
    accepted = (is.accepted, tt);
    reported_are = reported;
    gone_are = gone ∙ ap (λ (n : ℕ). (n, shown.number) ∷ []) (sym is.number_is);
  }

  came_reports : (request : ℕ) (offer : Offer) (moment : ℕ) (found : Option StandingRequest)
      → open_request book request ≡ found
      → Reports (investor_output.offer_messages book request offer found)
      (investor_output.offer_facts book request offer found) moment
  came_reports request offer moment None at = none_of_them _ _ moment refl refl
  came_reports request offer moment (Some own) at = by_old (offer_of_dealer own offer.dealer)
    where
      by_old : (old : Option ShownOffer)
          → Reports (option_to_list (option_map (investor_output.gone_message own) old)
          ++ investor_output.offer_message own (investor_output.next_offer book request offer) ∷ [])
          (investor_output.gone_facts request old
          ++ Offered (investor_output.next_offer book request offer) ∷ []) moment
      by_old None = none_of_them _ _ moment refl refl
      by_old (Some shown) = one_gone request own (accepted_so request own at) shown _ _ moment refl refl

  gone_reports : (request word moment : ℕ) (found : Option StandingRequest) → open_request book request ≡ found
      → Reports (investor_output.withdrawal_messages word found)
      (investor_output.withdrawal_facts request word found) moment
  gone_reports request word moment None at = none_of_them _ _ moment refl refl
  gone_reports request word moment (Some own) at = by_found (offer_with_word own word)
    where
      by_found : (found : Option ShownOffer)
          → Reports (option_to_list (option_map (investor_output.gone_message own) found))
          (investor_output.gone_facts request found) moment
      by_found None = none_of_them _ _ moment refl refl
      by_found (Some shown) = one_gone request own (accepted_so request own at) shown _ _ moment refl refl

  event_reports : (event : InvestorEvent)
      → Reports (investor_output.event_messages market book event) (investor_output.event_facts market book event)
      (investor_output.moment_of event)
  unfolding investor_output.event_facts investor_output.event_messages
  event_reports (at_investor.Received moment bytes) =
      said_none (investor_verdict market book moment bytes) moment moment bytes
  event_reports (at_investor.QuoteCame request offer moment) =
      came_reports request offer moment (open_request book request) refl
  event_reports (at_investor.QuoteGone request word moment) =
      gone_reports request word moment (open_request book request) refl
  event_reports (at_investor.Answered request response reply moment) = answered (request_numbered book request)
    where
      by_close : (own : StandingRequest) (id : List ℕ) (k : Option ℕ) (why : Option HitRefusal)
          (close : Option RequestClose)
          → Reports (investor_output.response_message own id k why ∷ [])
          (investor_output.closed_facts request close) moment
      by_close own id None why None = none_of_them _ _ moment refl refl
      by_close own id None why (Some how) = none_of_them _ _ moment refl refl
      by_close own id (Some quote) why None = none_of_them _ _ moment refl refl
      by_close own id (Some quote) why (Some how) = none_of_them _ _ moment refl refl

      answered : (found : Option StandingRequest)
          → Reports (investor_output.answer_messages response reply found)
          (investor_output.answer_facts book request response reply found) moment
      answered None = none_of_them _ _ moment refl refl
      answered (Some own) = by_close own response.id response.k (investor_output.refusal_of reply)
          (investor_output.close_by_answer book response (investor_output.refusal_of reply))
  event_reports other =
      let moment = investor_output.moment_of other in
      none_of_them _ _ moment
      (none_given (reports moment) (investor_output.event_messages market book other)
      (news_says (λ message. reports moment message ≡ None) market book other tt (λ request own stands. record {
        gone = λ its word when at shown. cc;
        declined = λ its dealer when at. refl;
        expired = refl;
      })))
      (none_given gone_in (investor_output.event_facts market book other)
      (news_adds (λ fact. gone_in fact ≡ None) market book other tt (λ its word when at quote. cc)
      (λ its. refl)))

-- What an action reports.

module _ (config : Configuration) (investor : ℕ) (row : InvestorRow)
    (is : investor_numbered config investor ≡ Some row) where
  abbrev own_market : InvestorMarket
  own_market = market_of config investor row

  abbrev at_desk : List Fact → List InvestorFact
  at_desk facts = market_facts investor facts

  abbrev sent : List Fact → List (List ℕ)
  sent facts = investor_trail.sent_by (of_investor investor facts)

  -- what stands: each message, and the fact that it reports
  record Reported (facts : List Fact) : Type 0 where
    pub quotes : List Quote
    pub says : Says reports own_market (sent facts) (map named quotes)
    pub accepted : Every (λ (quote : Quote). In (Asked quote.0) (at_desk facts)) quotes
    pub gone_are : filter_map gone_in (at_desk facts) ≡ map numbered quotes

  -- what is added beside these facts
  record Adds (facts added : List Fact) : Type 0 where
    pub quotes : List Quote
    pub says : Says reports own_market (sent added) (map named quotes)
    pub accepted : Every (λ (quote : Quote). In (Asked quote.0) (at_desk facts)) quotes
    pub gone_are : filter_map gone_in (at_desk added) ≡ map numbered quotes

  added_then : (facts added : List Fact) → Adds facts added → Reported facts → Reported (facts ++ added)
  added_then facts added adds stood = record {
    quotes = stood.quotes ++ adds.quotes;
    says = subst (Says reports own_market (sent (facts ++ added)))
        (sym (map-append named stood.quotes adds.quotes))
        (subst (λ (l : List (List ℕ)). Says reports own_market l (map named stood.quotes ++ map named adds.quotes))
        (sym (sent_grown investor facts added))
        (says_both reports own_market (sent facts) (sent added) (map named stood.quotes) (map named adds.quotes)
        stood.says adds.says));
    accepted = every_weaker (λ (quote : Quote). In (Asked quote.0) (at_desk facts))
        (λ (quote : Quote). In (Asked quote.0) (at_desk (facts ++ added)))
        (λ quote there. subst (λ (l : List InvestorFact). In (Asked quote.0) l)
        (sym (market_grown investor facts added))
        (in_left (Asked quote.0) (at_desk facts) (at_desk added) there)) (stood.quotes ++ adds.quotes)
        (every_both (λ (quote : Quote). In (Asked quote.0) (at_desk facts)) stood.quotes adds.quotes
        stood.accepted adds.accepted);
    gone_are = ap (λ (l : List InvestorFact). filter_map gone_in l) (market_grown investor facts added)
        ∙ filter_map-append gone_in (at_desk facts) (at_desk added)
        ∙ ap (λ (l : List (ℕ × ℕ)). l ++ filter_map gone_in (at_desk added)) stood.gone_are
        ∙ ap (λ (l : List (ℕ × ℕ)). map numbered stood.quotes ++ l) adds.gone_are
        ∙ sym (map-append numbered stood.quotes adds.quotes);
  }

  record Keeps (facts : List Fact) (effect : Effect) : Type 0 where
    pub so : Adds facts effect.facts

  away : (facts : List Fact) (effect : Effect) → of_investor investor effect.facts ≡ [] → Keeps facts effect
  away facts effect none = record {
    so = record {
      quotes = [];
      says = subst (λ (l : List InvestorEntry). Says reports own_market (investor_trail.sent_by l) []) (sym none)
          (says_none reports own_market);
      accepted = tt;
      gone_are = ap (λ (l : List InvestorEntry). filter_map gone_in (investor_trail.facts_of l)) none;
    };
  }

  lifted_none : (found : Option QuoteRef) (outcome : Result End HitRefusal)
      → of_investor investor (lifting found outcome) ≡ []
  unfolding of_investor
  lifted_none None outcome = refl
  lifted_none (Some hit) (Ok award) = refl
  lifted_none (Some hit) (Err why) = refl

  nothing_there : of_investor investor [] ≡ []
  unfolding of_investor
  nothing_there = refl

  own_keeps : (facts : List Fact) (event : InvestorEvent) (duties : List Duty)
      → Keeps facts (at_market facts own_market event duties)
  own_keeps facts event duties =
      let trail = of_investor investor facts in
      let entries = investor_trail.entries_of own_market trail event in
      let r = event_reports own_market (at_desk facts) event in
      record {
        so = record {
          quotes = r.quotes;
          says = subst (Says reports own_market (sent (at_market facts own_market event duties).facts)) r.reported_are
              (subst (λ (l : List (List ℕ)). Says reports own_market l
              (filter_map (reports (investor_output.moment_of event))
              (investor_output.event_messages own_market (investor_trail.book_by trail) event)))
              (sym (event_sent facts own_market event duties))
              (says_written reports own_market (length (investor_trail.sent_by trail) + 1)
              (investor_output.moment_of event)
              (investor_output.event_messages own_market (investor_trail.book_by trail) event)));
          accepted = r.accepted;
          gone_are = ap (λ (l : List InvestorEntry). filter_map gone_in (investor_trail.facts_of l))
              (own_investor investor entries)
              ∙ ap (λ (l : List InvestorFact). filter_map gone_in l)
              (entries_facts config facts actor.Clock investor row event duties) ∙ r.gone_are;
        };
      }

  market_keeps : (facts : List Fact) (number : ℕ) (other : InvestorRow) → investor_numbered config number ≡ Some other
      → (event : InvestorEvent) (duties : List Duty)
      → Keeps facts (at_market facts (market_of config number other) event duties)
  market_keeps facts number other found event duties = elim (cases_Bool (number == investor)) [
    | inr differs ↦ away facts (at_market facts (market_of config number other) event duties)
        (other_investor investor number differs
        (investor_trail.entries_of (market_of config number other) (of_investor number facts) event))
    | inl same ↦
        (let one : number ≡ investor = eqb-true number investor same in
        let row_is : other ≡ row = same_Some other row
        (sym found ∙ ap (λ (n : ℕ). investor_numbered config n) one ∙ is) in
        subst (λ (n : ℕ). Keeps facts (at_market facts (market_of config n other) event duties)) (sym one)
        (subst (λ (r : InvestorRow). Keeps facts (at_market facts (market_of config investor r) event duties))
        (sym row_is) (own_keeps facts event duties)))
  ]

  action_keeps : (facts : List Fact) (desk : Option ℕ) (room : Option RoomRef) (effect : Effect)
      → IsAction config facts desk room effect → Keeps facts effect
  action_keeps facts desk room effect (idle at) =
      away facts effect (ap (λ (e : Effect). of_investor investor e.facts) at ∙ nothing_there)
  action_keeps facts desk room effect (by_dealer number other event duties there found comes at) =
      away facts effect (ap (λ (e : Effect). of_investor investor e.facts) at
      ∙ investor_at_dealer investor number (entries_of config.date other (of_dealer number facts) event))
  action_keeps facts desk room effect (by_investor number other event duties there found fit at) =
      subst (Keeps facts) (sym at) (market_keeps facts number other found event duties)
  action_keeps facts desk room effect (by_room place event duties here at) =
      away facts effect (ap (λ (e : Effect). of_investor investor e.facts) at
      ∙ investor_in_room investor place (event_facts (of_room place facts) event))
  action_keeps facts desk room effect (by_hit place response word moment here at) =
      let known = of_room place facts in
      let settled = option_map (answer_to_hit facts) (quote_asked config (hit_word known word moment)) in
      let lifted = lifting (quote_with_word config word) (hit_outcome known word moment settled) in
      let happened = event_facts known (at_room.Hit word moment settled) in
      away facts effect (ap (λ (e : Effect). of_investor investor e.facts) at
      ∙ investor_grown investor lifted (map (InRoom place) happened)
      ∙ ap (λ (l : List InvestorEntry). l ++ of_investor investor (map (InRoom place) happened))
      (lifted_none (quote_with_word config word) (hit_outcome known word moment settled))
      ∙ investor_in_room investor place happened)

  -- After every list of steps.

  turn_keeps : (by : Actor) (before : AuditTrail) (duties : List Duty) → Reported before.facts
      → Reported (after_turn config by before duties).facts
  turn_keeps by before [] stood = stood
  turn_keeps by before (more ∷ later) stood =
      added_then before.facts (duty_effect config before.facts by more).facts
      (action_keeps before.facts _ _ _ (duty_action config before.facts by more)).so stood

  step_keeps : (before : AuditTrail) (more : Step) → Reported before.facts
      → Reported (after_step config before more).facts
  unfolding after_step
  step_keeps before (step.In firm moment message) stood =
      added_then before.facts (message_effect config before.facts firm moment message).facts
      (action_keeps before.facts _ _ _ (message_action config before.facts firm moment message)).so stood
  step_keeps before (step.Turn by) stood = turn_keeps by before (pending by before) stood
  step_keeps before (step.Expire room moment) stood =
      added_then before.facts (sweep_effect config before.facts room moment).facts
      (action_keeps before.facts _ _ _ (sweep_action config before.facts room moment)).so stood

  steps_keep : (before : AuditTrail) (steps : List Step) → Reported before.facts
      → Reported (fold (after_step config) before steps).facts
  steps_keep before [] stood = stood
  steps_keep before (more ∷ steps) stood =
      steps_keep (after_step config before more) steps (step_keeps before more stood)

  start : Reported []
  unfolding of_investor
  start = record { quotes = []; says = says_none reports own_market; accepted = tt; gone_are = refl }

  stands : (steps : List Step) → Reported (audit_trail config steps).facts
  unfolding audit_trail
  stands steps = steps_keep no_steps steps start

  pub all_reported : (steps : List Step) → AreReported own_market (at_desk (audit_trail config steps).facts)
      (sent_to config investor (audit_trail config steps))
  all_reported steps =
      let stood = stands steps in
      record {
        says = stood.says.says;
        sent_are = investor_sent config investor row is (audit_trail config steps) ∙ stood.says.sent_are;
        quotes = stood.quotes;
        accepted = stood.accepted;
        reported_are = stood.says.items_are;
        gone_are = stood.gone_are;
      }
