-- What comes to an investor's desk, and what its message leaves, brings what stands of trades.
use Rattle.laws_days.proofs.Common.{List, None, Some, ℕ, [], ap}
use Rattle.laws_days.proofs.Common.{inl, inr, map}
use Rattle.laws_days.proofs.Common.{option_to_list, refl, subst, sym, ◌++◌, ◌==◌, ◌∙◌, ◌∷◌}
use Rattle.laws_days.proofs.Common.{◌≡◌, Duty}
use Rattle.laws_days.proofs.Common.{RoomRef, investor_numbered, InvestorRow, market_for, market_of}
use Rattle.laws_days.proofs.Common.{Asked}
use Rattle.laws_days.proofs.Common.{InvestorFact, book_of, own_facts}
use Rattle.laws_days.proofs.Common.{InvestorMarket, investor_verdict, InvestorEvent}
use Rattle.laws_days.proofs.Common.{ShownOffer, InvestorVerdict, Effect, done_for}
use Rattle.laws_days.proofs.Common.{where_known, AuditTrail, Every, In}
use Rattle.laws_days.proofs.Common.{in_left, in_right, investor_grown, AtInvestor}
use Rattle.laws_days.proofs.Common.{of_investor}
use Rattle.market_terms.specs.declared.rooms.Offer.{Offer}
use Rattle.quote_messages.specs.declared.out_messages.OutMessage.{OutMessage}
use Rattle.investor_desk.specs.InvestorOutput.{event_messages}
use Rattle.investor_desk.specs.InvestorOutput.{moment_of}
use Rattle.investor_desk.specs.InvestorOutput.{written_from}
use Rattle.step_replay.specs.InvestorTrail.{sent_by}
use Rattle.laws_days.proofs.Common.{length, ◌+◌}
use Rattle.fix_fields.specs.Frame.{IsValue}
use Rattle.investor_desk.specs.InvestorFacts.{offer_numbered}
use Rattle.investor_desk.specs.InvestorFacts.{open_request}
use Rattle.investor_desk.specs.InvestorOutput.{DeskState}
use Rattle.investor_desk.specs.InvestorOutput.{event_facts}
use Rattle.investor_desk.specs.InvestorOutput.{verdict_duty}
use Rattle.investor_desk.specs.declared.events.InvestorEvent.TheVariants as at_investor
use Rattle.investor_desk.specs.declared.verdicts.InvestorVerdict.TheVariants as verdict
use Rattle.venue_steps.specs.declared.actors.Actor.TheVariants as actor
use Rattle.step_replay.specs.Actions.{at_market, left_by_investor}
use Rattle.step_replay.specs.Actions.{received_by_investor}
use Rattle.step_replay.specs.InvestorGrowth.{trail_push}
use Rattle.step_replay.specs.InvestorTrail.{AtDesk, Happened, Sent, entries_of}
use Rattle.step_replay.specs.PlaceLemmas.{own_investor}
use Rattle.laws_days.proofs.KnownDesks.{offers_both}
use Rattle.laws_days.proofs.ListLemmas.{cases_some, find_grown}
use Rattle.std.proofs.lemmas.Option.{same_Some}
use Rattle.laws_days.proofs.NewsWalk.{IsNews, news_adds, offer_adds}
use Rattle.laws_days.proofs.VenueParts.{Later, Still, investor_facts}
use Rattle.laws_days.proofs.VenueParts.{investor_facts_grown}
use Rattle.laws_days.proofs.VenueSteps.{Here, day, to_now}
use Rattle.laws_trades.specs.Trades.{room_of}
use Rattle.laws_trades.proofs.CalmMessages.{Harmless, Means, news_harmless}
use Rattle.laws_trades.proofs.CalmMessages.{offer_harmless, open_asked, verdict_harmless}
use Rattle.laws_trades.proofs.CalmMessages.{verdict_means}
use Rattle.laws_trades.proofs.TradeParts.{MayBeRead, OfferOf}
use Rattle.laws_trades.proofs.TradeSteps.{DutyNow, FactNow, Makes, idle_makes}
use Rattle.laws_trades.proofs.TradeSteps.{when_makes}

-- What stands of a desk goes on to stand.

pub offer_later : {was now : AuditTrail} → Later was now → (investor quote : ℕ) (shown : ShownOffer)
    → offer_numbered (book_of (investor_facts was.facts investor)) quote ≡ Some shown
    → offer_numbered (book_of (investor_facts now.facts investor)) quote ≡ Some shown
unfolding offer_numbered
offer_later {was} later investor quote shown is =
    rw (
      later.facts_are,
      investor_facts_grown was.facts later.more investor,
      offers_both (investor_facts was.facts investor) (investor_facts later.more investor),
    ) (find_grown (λ (s : ShownOffer). s.number == quote) _ _ shown is)

pub fact_later : {was now : AuditTrail} → Later was now → (investor : ℕ) (fact : InvestorFact)
    → In fact (investor_facts was.facts investor) → In fact (investor_facts now.facts investor)
fact_later {was} later investor fact is =
    rw (later.facts_are, investor_facts_grown was.facts later.more investor)
    (in_left fact (investor_facts was.facts investor) (investor_facts later.more investor) is)

module _ (h : Here) where
  -- what comes to stand at an investor's desk
  entries_facts : (effect : Effect) (firm : ℕ) (facts : List InvestorFact) (messages : List (List ℕ))
      → Every (λ fact. FactNow h effect (AtInvestor firm (AtDesk fact))) facts
      → Every (λ message. FactNow h effect (AtInvestor firm (Sent message))) messages
      → Every (FactNow h effect) (map (AtInvestor firm) (map AtDesk facts ++ map Sent messages))
  entries_facts effect firm (fact ∷ facts) messages is sent =
      (is.0, entries_facts effect firm facts messages is.1 sent)
  entries_facts effect firm [] (message ∷ messages) is sent =
      (sent.0, entries_facts effect firm [] messages tt sent.1)
  entries_facts effect firm [] [] is sent = tt

  -- all that an event adds
  market_facts : (effect : Effect) (firm : ℕ) (event : InvestorEvent) (facts : List InvestorFact)
      (messages : List (List ℕ))
      → Every (λ fact. FactNow h effect (AtInvestor firm (AtDesk fact))) facts
      → Every (λ message. FactNow h effect (AtInvestor firm (Sent message))) messages
      → Every (FactNow h effect) (map (AtInvestor firm)
      (Happened event ∷ map AtDesk facts ++ map Sent messages))
  market_facts effect firm event facts messages is sent =
      (λ now later. tt, entries_facts effect firm facts messages is sent)

  -- what may be read later may be read now
  pub may_now : (effect : Effect) (firm : ℕ) (row : InvestorRow)
      → investor_numbered h.config firm ≡ Some row → (now : AuditTrail)
      → Later (day h effect) now → (other : InvestorRow)
      → investor_numbered h.config firm ≡ Some other
      → MayBeRead h.config.date other.name (investor_facts now.facts firm)
      → MayBeRead h.config.date row.name (investor_facts h.venue.facts firm)
  may_now effect firm row row_is now later other other_is may = record {
    dated = may.dated;
    named = subst (λ (r : InvestorRow). IsValue r.name)
        (same_Some other row (sym other_is ∙ row_is)) may.named;
    ids = λ asked among. may.ids asked
        (fact_later (to_now h effect later) firm (Asked asked) among);
  }

  -- messages that nobody reads as an answer 297=0 to a hit
  pub harmless_sent : (effect : Effect) (firm : ℕ) (row : InvestorRow)
      → investor_numbered h.config firm ≡ Some row → (number moment : ℕ)
      (messages : List OutMessage)
      → Every (Harmless (market_of h.config firm row) (investor_facts h.venue.facts firm)) messages
      → Every (λ message. FactNow h effect (AtInvestor firm (Sent message)))
      (written_from (market_of h.config firm row) number moment messages)
  harmless_sent effect firm row row_is number moment [] harmless = tt
  harmless_sent effect firm row row_is number moment (message ∷ messages) harmless = (
    λ now later other other_is may fields read is.
        let calm = harmless.0 number moment
        (may_now effect firm row row_is now later other other_is may) fields read in
        cc (calm, is),
    harmless_sent effect firm row row_is (number + 1) moment messages harmless.1,
  )

  pub investor_makes : (firm : ℕ) (action : InvestorMarket → Effect)
      → ((row : InvestorRow) → investor_numbered h.config firm ≡ Some row
      → Makes h (action (market_of h.config firm row)))
      → Makes h (done_for (market_for h.config firm) action)
  investor_makes firm action makes = elim (cases_some (investor_numbered h.config firm)) [
    | inl none ↦ rw none (idle_makes h)
    | inr some ↦ rw (some.1) (makes some.0 some.1)
  ]

  module _ (firm : ℕ) (row : InvestorRow) where
    abbrev pub market : InvestorMarket
    market = market_of h.config firm row

    abbrev pub desk_facts : List InvestorFact
    desk_facts = investor_facts h.venue.facts firm

    -- the facts of its desk after an event
    pub facts_then : (event : InvestorEvent) (duties : List Duty)
        → investor_facts (day h (at_market h.venue.facts market event duties)).facts firm
        ≡ desk_facts ++ event_facts market (book_of desk_facts) event
    facts_then event duties =
        let trail = of_investor firm h.venue.facts in
        rw (
          investor_grown firm h.venue.facts (map (AtInvestor firm) (entries_of market trail event)),
          own_investor firm (entries_of market trail event),
        ) (sym (ap (λ (desk : DeskState). desk.facts) (trail_push market trail event)))

    -- the messages of an event
    abbrev pub sent_with : InvestorEvent → List (List ℕ)
    sent_with event =
        written_from market (length (sent_by (of_investor firm h.venue.facts)) + 1) (moment_of event)
        (event_messages market (book_of desk_facts) event)

    -- an event that leaves nothing
    pub event_makes : (event : InvestorEvent)
        → Every (λ fact. FactNow h (at_market h.venue.facts market event [])
        (AtInvestor firm (AtDesk fact))) (event_facts market (book_of desk_facts) event)
        → Every (λ message. FactNow h (at_market h.venue.facts market event [])
        (AtInvestor firm (Sent message))) (sent_with event)
        → Makes h (at_market h.venue.facts market event [])
    unfolding entries_of
    event_makes event is sent = record {
      facts = market_facts (at_market h.venue.facts market event []) firm event
          (event_facts market (book_of desk_facts) event) (sent_with event) is sent;
      left = tt;
    }

    -- A quote that is shown, and news.

    pub relayed_makes : investor_numbered h.config firm ≡ Some row → (room : RoomRef)
        (offer : Offer) (moment : ℕ) → room.investor ≡ firm
        → Still (λ now. OfferOf h.config now.facts room offer) h.venue
        → Makes h (where_known h.venue.facts room.n None
        (at_investor.QuoteCame room.n offer moment) market)
    unfolding event_facts event_messages
    relayed_makes row_is room offer moment is offers =
        let event = at_investor.QuoteCame room.n offer moment in
        let effect = at_market h.venue.facts market event [] in
        when_makes h _ effect (λ test. event_makes event
        (offer_adds (λ fact. FactNow h effect (AtInvestor firm (AtDesk fact))) (book_of desk_facts)
        room.n offer (λ quote now later. tt)
        (λ now later. subst (λ (i : ℕ). OfferOf h.config now.facts (room_of i room.n) offer) is
        (offers now (to_now h effect later))) (open_request (book_of desk_facts) room.n))
        (harmless_sent effect firm row row_is _ moment _ (offer_harmless market desk_facts
        (book_of desk_facts) room.n offer (open_request (book_of desk_facts) room.n)
        (open_asked desk_facts room.n))))

    pub news_makes : investor_numbered h.config firm ≡ Some row → (event : InvestorEvent)
        → IsNews event → Makes h (at_market h.venue.facts market event [])
    news_makes row_is event news =
        let effect = at_market h.venue.facts market event [] in
        event_makes event
        (news_adds (λ fact. FactNow h effect (AtInvestor firm (AtDesk fact))) market
        (book_of desk_facts) event news (λ request word moment is quote now later. tt)
        (λ request now later. tt))
        (harmless_sent effect firm row row_is _ (moment_of event)
        (event_messages market (book_of desk_facts) event)
        (news_harmless market desk_facts event news))

    -- A message.

    module _ (row_is : investor_numbered h.config firm ≡ Some row)
        (by_is : h.by ≡ actor.Firm firm) (moment : ℕ) (bytes : List ℕ) where
      said_left : (effect : Effect) (v : InvestorVerdict) → Means market desk_facts v
          → investor_facts (day h effect).facts firm ≡ desk_facts ++ own_facts moment bytes v
          → Every (DutyNow h effect) (option_to_list (verdict_duty market moment v))
      said_left effect (verdict.RequestAccepted id request) means follows = (
        λ now later. record {
          asked = request;
          was_asked = fact_later later firm (Asked request) (rw follows
              (in_right (Asked request) desk_facts
              (own_facts moment bytes (verdict.RequestAccepted id request)) (inr (inl refl))));
          number_is = refl;
          ask_is = refl;
        },
        tt,
      )
      said_left effect (verdict.Hits request response word) means follows = (
        λ now later. record {
          shown = means.0;
          found = offer_later (to_now h effect later) firm means.0.number means.0 means.1;
          request_is = means.2;
          response_is = means.3;
          word_is = means.4;
          id_is = means.5;
        },
        tt,
      )
      said_left effect (verdict.Passes request response) means follows =
          (λ now later. means, tt)
      said_left effect other means follows = tt

      said_facts : (effect : Effect) (v : InvestorVerdict) → Means market desk_facts v
          → Every (λ fact. FactNow h effect (AtInvestor firm (AtDesk fact)))
          (own_facts moment bytes v)
      said_facts effect (verdict.RequestAccepted id request) means = (
        λ now later. tt,
        (λ now later. record { row = row; row_is = row_is; name_is = means.0 }, tt),
      )
      said_facts effect other means = (λ now later. tt, tt)

      pub asked_makes : Makes h (received_by_investor h.venue.facts moment bytes market)
      unfolding event_facts event_messages entries_of
      asked_makes =
          let left = left_by_investor h.venue.facts moment bytes market in
          let own = at_investor.Received moment bytes in
          let effect = at_market h.venue.facts market own left in
          let v = investor_verdict market (book_of desk_facts) moment bytes in
          record {
            facts = market_facts effect firm own (own_facts moment bytes v) _
                (said_facts effect v (verdict_means market desk_facts moment bytes))
                (harmless_sent effect firm row row_is _ moment _
                (verdict_harmless market desk_facts v (verdict_means market desk_facts moment bytes)));
            left = said_left effect v (verdict_means market desk_facts moment bytes)
                (facts_then own left);
          }
