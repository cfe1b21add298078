-- What comes to an investor's desk, and what its message leaves, brings what stands in a venue.
use Rattle.laws_days.proofs.Common.{Bool, List, None, Option, Some, ℕ, ap, arith, eq-eqb}
use Rattle.laws_days.proofs.Common.{false, inl, inr, length, map, option_to_list, refl, subst, sym}
use Rattle.laws_days.proofs.Common.{true, ◌++◌, ◌+◌, ◌==◌, ◌∙◌, ◌≡◌, ◌≤◌, cases_Bool, eqb-true}
use Rattle.laws_days.proofs.Common.{or_left, Duty, ResponseRef, RoomRef, has_room}
use Rattle.laws_days.proofs.Common.{investor_numbered, InvestorRow, market_for, market_of}
use Rattle.laws_days.proofs.Common.{InvestorFact, book_of, requests_of, own_facts, InvestorMarket}
use Rattle.laws_days.proofs.Common.{investor_verdict, InvestorEvent, AcceptedRequest}
use Rattle.laws_days.proofs.Common.{InvestorVerdict, Effect, done_for, any_right}
use Rattle.laws_days.proofs.Common.{InvestorEntry, investor_grown, AtInvestor, of_investor}
use Rattle.venue_rows.specs.Rows.{may_request}
use Rattle.investor_desk.specs.InvestorOutput.{DeskState, event_facts, verdict_duty}
use Rattle.investor_desk.specs.declared.events.InvestorEvent.TheVariants as at_investor
use Rattle.investor_desk.specs.declared.verdicts.InvestorVerdict.TheVariants as verdict
use Rattle.venue_steps.specs.declared.actors.Actor.TheVariants as actor
use Rattle.step_replay.specs.Actions.{at_market, left_by_investor, received_by_investor}
use Rattle.step_replay.specs.InvestorGrowth.{trail_push}
use Rattle.step_replay.specs.InvestorTrail.{entries_of}
use Rattle.step_replay.specs.PlaceLemmas.{other_investor, own_investor}
use Rattle.laws_days.proofs.InvestorVerdicts.{RequestFit, ResponseFit, VerdictFit, event_fits}
use Rattle.laws_days.proofs.InvestorVerdicts.{verdict_fits}
use Rattle.laws_days.proofs.KnownDesks.{asked_known, asks, known_asked}
use Rattle.laws_days.proofs.ListLemmas.{cases_some, every_map}
use Rattle.laws_days.proofs.PlainFacts.{is_quiet}
use Rattle.laws_days.proofs.VenueInvariant.{MarketOk, RespondsIn}
use Rattle.laws_days.proofs.VenueKinds.{nothing_brings, queued, quiet_brings, same_markets}
use Rattle.laws_days.proofs.VenueParts.{KnownIn, Opening, Still, investor_facts, known_later}
use Rattle.laws_days.proofs.VenueSteps.{Brings, FactThen, Here, LeftThen, day, queue, to_now}

module _ (h : Here) where
  pub investor_brings : (firm : ℕ) (action : InvestorMarket → Effect)
      → ((row : InvestorRow) → investor_numbered h.config firm ≡ Some row
      → Brings h (action (market_of h.config firm row)))
      → Brings h (done_for (market_for h.config firm) action)
  investor_brings firm action brings = elim (cases_some (investor_numbered h.config firm)) [
    | inl none ↦ rw none (nothing_brings h)
    | inr some ↦ rw (some.1) (brings some.0 some.1)
  ]

  module _ (firm : ℕ) (row : InvestorRow) (is : investor_numbered h.config firm ≡ Some row) where
    abbrev market : InvestorMarket
    market = market_of h.config firm row

    abbrev desk_facts : List InvestorFact
    desk_facts = investor_facts h.venue.facts firm

    -- the facts of its desk after an event
    facts_then : (event : InvestorEvent) (duties : List Duty)
        → investor_facts (day h (at_market h.venue.facts market event duties)).facts firm
        ≡ desk_facts ++ event_facts market (book_of desk_facts) event
    facts_then event duties =
        let trail = of_investor firm h.venue.facts in
        rw (
          investor_grown firm h.venue.facts (map (AtInvestor firm) (entries_of market trail event)),
          own_investor firm (entries_of market trail event),
        ) (sym (ap (λ (desk : DeskState). desk.facts) (trail_push market trail event)))

    pub market_brings : (event : InvestorEvent) (duties : List Duty)
        → LeftThen h (at_market h.venue.facts market event duties) (queue h) duties
        → Brings h (at_market h.venue.facts market event duties)
    market_brings event duties left =
        quiet_brings h (at_market h.venue.facts market event duties)
        (every_map (λ fact. is_quiet fact ≡ true) (AtInvestor firm) entries (λ entry is. refl))
        (every_map (FactThen h (at_market h.venue.facts market event duties)) (AtInvestor firm)
        entries (λ entry is now later. tt)) left
        (λ investor. elim (cases_Bool (firm == investor)) [
          | inr other ↦ same_markets h (map (AtInvestor firm) entries) investor
              (other_investor investor firm other entries)
          | inl test ↦
              subst (MarketOk h.config (h.venue.facts ++ map (AtInvestor firm) entries))
              (eqb-true firm investor test) (rw (facts_then event duties)
              (event_fits h.config firm row (has_room h.config firm) desk_facts
              (h.stood.markets firm)
              (λ number within. ap (λ (r : Option InvestorRow). may_request r number) is ∙ within)
              event))
        ])
      where
        entries : List InvestorEntry
        entries = entries_of market (of_investor firm h.venue.facts) event

    -- A message.

    module _ (by_is : h.by ≡ actor.Firm firm) (moment : ℕ) (bytes : List ℕ) where
      abbrev asked_room : ℕ → RoomRef
      asked_room request = record { investor = firm; n = request }

      responds : (effect : Effect) (request : ℕ) (response : ResponseRef) (some : Bool)
          → ResponseFit desk_facts request response some
          → Still (RespondsIn h.config h.by (asked_room request) response some) (day h effect)
      responds effect request response some fits now later = record {
        by_is = by_is;
        some_is = fits.some_is;
        known = known_later (to_now h effect later) (asked_room request) response.k fits.knows_is;
      }

      -- a request that is accepted was not known
      unknown : (request : AcceptedRequest) → RequestFit h.config row desk_facts request
          → KnownIn (asked_room request.number) None h.venue.facts → ⊥
      unknown request next known =
          let few : request.number ≤ length (requests_of desk_facts) =
          ((h.stood.markets firm).asked_ok request.number
          (known_asked desk_facts request.number None known)).0 in
          let number : request.number ≡ length (requests_of desk_facts) + 1 = next.number_is in
          omega arith

      left_ok : (effect : Effect) (v : InvestorVerdict) → VerdictFit h.config row desk_facts v
          → investor_facts (day h effect).facts firm ≡ desk_facts ++ own_facts moment bytes v
          → LeftThen h effect (queue h) (option_to_list (verdict_duty market moment v))
      left_ok effect (verdict.RequestAccepted id request) fits follows = (
        (
          λ now later. record {
            by_is = by_is;
            known = known_later later (asked_room request.number) None
                (asked_known (investor_facts (day h effect).facts firm) request.number
                (rw follows (any_right (asks request.number) desk_facts
                (own_facts moment bytes (verdict.RequestAccepted id request))
                (or_left _ false (eq-eqb request.number request.number refl)))));
            distinct = fits.distinct;
            are_dealers = fits.are_dealers;
            bears = fits.bears;
          },
          (
            λ is. unknown request fits (queued h (Opening (asked_room request.number)) is),
            λ now later. tt,
          ),
        ),
        tt,
      )
      left_ok effect (verdict.Hits request response word) fits follows =
          ((responds effect request response true fits, tt), tt)
      left_ok effect (verdict.Passes request response) fits follows =
          ((responds effect request response false fits, tt), tt)
      left_ok effect other fits follows = tt

      pub asked_brings : Brings h (received_by_investor h.venue.facts moment bytes market)
      unfolding event_facts
      asked_brings =
          let left = left_by_investor h.venue.facts moment bytes market in
          let own = at_investor.Received moment bytes in
          market_brings own left
          (left_ok (at_market h.venue.facts market own left)
          (investor_verdict market (book_of desk_facts) moment bytes)
          (verdict_fits h.config firm row (has_room h.config firm) desk_facts
          (h.stood.markets firm) moment bytes) (facts_then own left))
