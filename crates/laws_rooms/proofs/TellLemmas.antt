-- What comes to an investor of a quote: it is shown, or the request was closed before.
use Rattle.std.proofs.Common.{◌≡◌, ◌==◌, ◌+◌, ℕ, Bool, true, false, List, [], ◌∷◌, ◌++◌, map, find}
use Rattle.std.proofs.Common.{Option, Some, None, is_none, is_some, option_map, refl, sym, ap, ◌∙◌, subst, inl, inr}
use Rattle.std.proofs.Common.{if◌then◌else◌}
use Rattle.std.proofs.lemmas.Bool.{and_parts, cases_Bool, eqb-true, false≢true}
use Rattle.std.proofs.lemmas.List.Elements.{filter_map-append}
use Rattle.std.proofs.lemmas.Option.{same_Some}
use Rattle.market_terms.specs.declared.duties.Duty.TheVariants as duty
use Rattle.market_terms.specs.declared.rooms.Offer.{Offer}
use Rattle.market_terms.specs.declared.rooms.RoomRef.{RoomRef}
use Rattle.venue_rows.specs.Rows.{Configuration, investor_numbered}
use Rattle.venue_rows.specs.declared.investor_rows.InvestorRow.{InvestorRow}
use Rattle.venue_steps.specs.declared.actors.Actor.{Actor}
use Rattle.investor_desk.specs.InvestorDesk.{market_of}
use Rattle.investor_desk.specs.InvestorFacts.{Asked, Closed, InvestorBook, InvestorFact, Offered, StandingRequest}
use Rattle.investor_desk.specs.InvestorFacts.{closes, first_said, is_open, offer_of_dealer, offers_shown}
use Rattle.investor_desk.specs.InvestorFacts.{request_numbered, requests_of, standing_request, while_open}
use Rattle.investor_desk.specs.InvestorOutput as investor_output
use Rattle.investor_desk.specs.declared.events.InvestorEvent.{InvestorEvent}
use Rattle.investor_desk.specs.declared.events.InvestorEvent.TheVariants as at_investor
use Rattle.investor_desk.specs.declared.standing.RequestClose.{RequestClose}
use Rattle.step_replay.specs.Actions.{at_market, done_for, nothing, where_known}
use Rattle.step_replay.specs.DutyEffects.{duty_effect}
use Rattle.step_replay.specs.GrowthLemmas.{in_left, in_right}
use Rattle.step_replay.specs.InvestorGrowth.{facts_grown}
use Rattle.step_replay.specs.InvestorTrail as investor_trail
use Rattle.step_replay.specs.InvestorTrail.{InvestorEntry}
use Rattle.step_replay.specs.Lists.{In}
use Rattle.step_replay.specs.PlaceLemmas.{investor_grown, own_investor}
use Rattle.step_replay.specs.VenueFacts.{AtInvestor, Fact, of_investor}
use Rattle.laws_shown.specs.ShownRequests.{at_investor as market_facts}
use Rattle.laws_days.specs.Conditions.{holds_for, is_known, is_known_to}
use Rattle.laws_rooms.specs.Told.{IsTold, WasClosed}

pub market_grown : (investor : ℕ) (facts more : List Fact)
    → market_facts investor (facts ++ more) ≡ market_facts investor facts ++ market_facts investor more
market_grown investor facts more =
    ap (λ (l : List InvestorEntry). investor_trail.facts_of l) (investor_grown investor facts more)
    ∙ filter_map-append investor_trail.fact_in (of_investor investor facts) (of_investor investor more)

pub told_grown : (facts more : List InvestorFact) (request : ℕ) (offer : Offer) → IsTold facts request offer
    → IsTold (facts ++ more) request offer
told_grown facts more request offer (inl shown) = inl (record {
  number = shown.number;
  there = in_left (Offered (record { number = shown.number; request = request; offer = offer })) facts more
      shown.there;
})
told_grown facts more request offer (inr closed) =
    inr (record { how = closed.how; there = in_left (Closed request closed.how) facts more closed.there })

-- A request that is closed at the desk was closed by a fact.

said_closed : (number : ℕ) (facts : List InvestorFact) (how : RequestClose)
    → first_said (closes number) facts ≡ Some how → In (Closed number how) facts
said_closed number [] how is = cc
said_closed number (Closed request close ∷ later) how is = elim (cases_Bool (request == number)) [
  | inl same ↦
      let one : request ≡ number = eqb-true request number same in
      let that : close ≡ how = same_Some close how (rw same at is) in
      inl (ap (λ (n : ℕ). Closed n close) one ∙ ap (λ (c : RequestClose). Closed number c) that)
  | inr differs ↦ inr (said_closed number later how (rw differs at is))
]
said_closed number (fact ∷ later) how is = inr (said_closed number later how is)

pub found_closed : (number : ℕ) (facts : List InvestorFact) (own : StandingRequest) (how : RequestClose)
    → find (λ (r : StandingRequest). r.request.number == number) (requests_of facts) ≡ Some own
    → own.close ≡ Some how → In (Closed number how) facts
found_closed number [] own how found is = cc
found_closed number (Asked request ∷ later) own how found is =
    elim (cases_Bool (request.number == number)) [
      | inl same ↦
          let one : standing_request request later ≡ own =
          same_Some (standing_request request later) own (rw same at found) in
          let closed : first_said (closes request.number) later ≡ Some how =
          ap (λ (r : StandingRequest). r.close) one ∙ is in
          inr (said_closed number later how
          (subst (λ (n : ℕ). first_said (closes n) later ≡ Some how) (eqb-true request.number number same) closed))
      | inr differs ↦ inr (found_closed number later own how (rw differs at found) is)
    ]
found_closed number (fact ∷ later) own how found is = inr (found_closed number later own how found is)

pub some_close : (close : Option RequestClose) → is_none close ≡ false → (how : RequestClose) × (close ≡ Some how)
some_close None is = cc
some_close (Some how) is = (how, refl)

module _ (config : Configuration) (facts : List Fact) (room : RoomRef) where
  abbrev trail : List InvestorEntry
  trail = of_investor room.investor facts

  abbrev known : List InvestorFact
  known = investor_trail.facts_of trail

  abbrev book : InvestorBook
  book = investor_trail.book_by trail

  -- what comes to the desk adds to its facts
  pub desk_grown : (row : InvestorRow) (event : InvestorEvent)
      → market_facts room.investor (facts ++ (at_market facts (market_of config room.investor row) event []).facts)
      ≡ known ++ investor_output.event_facts (market_of config room.investor row) book event
  desk_grown row event =
      let market = market_of config room.investor row in
      let entries = investor_trail.entries_of market trail event in
      ap (λ (l : List InvestorEntry). investor_trail.facts_of l)
      (investor_grown room.investor facts (map (AtInvestor room.investor) entries))
      ∙ ap (λ (l : List InvestorEntry). investor_trail.facts_of (trail ++ l)) (own_investor room.investor entries)
      ∙ facts_grown market trail event

  module _ (offer : Offer) where
    abbrev Adds : List InvestorFact → Type 0
    Adds added = IsTold (known ++ added) room.n offer

    if_open : (own : StandingRequest) (is : Bool) → (is ≡ false → WasClosed known room.n)
        → Adds (investor_output.offer_facts book room.n offer (if is then Some own else None))
    if_open own true closed =
        let next = investor_output.next_offer book room.n offer in
        let gone = investor_output.gone_facts room.n (offer_of_dealer own offer.dealer) in
        inl (record {
          number = offers_shown book + 1;
          there = in_right (Offered next) known (gone ++ Offered next ∷ [])
              (in_right (Offered next) gone (Offered next ∷ []) (inl refl));
        })
    if_open own false closed = told_grown known [] room.n offer (inr (closed refl))

    relay_adds : (found : Option StandingRequest) → request_numbered book room.n ≡ found → is_some found ≡ true
        → Adds (investor_output.offer_facts book room.n offer (while_open found))
    unfolding request_numbered
    relay_adds None at is = absurd (false≢true is)
    relay_adds (Some own) at is = if_open own (is_open own) closed
      where
        closed : is_open own ≡ false → WasClosed known room.n
        closed shut =
            let how = some_close own.close shut in
            record { how = how.0; there = found_closed room.n known own how.0 at how.1 }

    came_adds : (row : InvestorRow) (moment : ℕ) → is_some (request_numbered book room.n) ≡ true
        → IsTold (market_facts room.investor (facts ++ (at_market facts (market_of config room.investor row)
        (at_investor.QuoteCame room.n offer moment) []).facts)) room.n offer
    unfolding investor_output.event_facts
    came_adds row moment is =
        subst (λ (l : List InvestorFact). IsTold l room.n offer)
        (sym (desk_grown row (at_investor.QuoteCame room.n offer moment)))
        (relay_adds (request_numbered book room.n) refl is)

    pub relay_told : (by : Actor) (moment : ℕ) → is_known config facts room None ≡ true
        → IsTold (market_facts room.investor
        (facts ++ (duty_effect config facts by (duty.Relay room offer moment)).facts)) room.n offer
    unfolding duty_effect
    relay_told by moment is = by_row (investor_numbered config room.investor) is
      where
        if_known : (row : InvestorRow) (knows_it : Bool) → knows_it ≡ true
            → is_some (request_numbered book room.n) ≡ true
            → IsTold (market_facts room.investor (facts ++ (if knows_it
            then at_market facts (market_of config room.investor row) (at_investor.QuoteCame room.n offer moment) []
            else nothing).facts)) room.n offer
        if_known row true so found = came_adds row moment found
        if_known row false so found = absurd (false≢true so)

        by_row : (found : Option InvestorRow)
            → holds_for (option_map (market_of config room.investor) found) (is_known_to facts room.n None) ≡ true
            → IsTold (market_facts room.investor
            (facts ++ (done_for (option_map (market_of config room.investor) found)
            (where_known facts room.n None (at_investor.QuoteCame room.n offer moment))).facts)) room.n offer
        by_row None so = absurd (false≢true so)
        by_row (Some row) so =
            if_known row (is_known_to facts room.n None (market_of config room.investor row)) so
            (and_parts (is_some (request_numbered book room.n)) true so).0
