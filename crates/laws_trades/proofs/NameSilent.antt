-- What most steps add to a day: nothing of the trades between an investor and a dealer.
use Rattle.laws_days.proofs.Common.{Bool, List, None, Option, Some, ℕ, [], ap, false, filter_map}
use Rattle.laws_days.proofs.Common.{if◌then◌else◌, uses_number, inl, inr, map, refl, true, ◌++◌, ◌==◌}
use Rattle.laws_days.proofs.Common.{◌∙◌, ◌∷◌, ◌≡◌, cases_Bool, eqb-true, filter_map-append}
use Rattle.laws_days.proofs.Common.{Duty, RoomRef, Configuration, DealerRow}
use Rattle.laws_days.proofs.Common.{DealerFact, Came, Dropped, Shown, Told, number_to_drop}
use Rattle.laws_days.proofs.Common.{event_facts, settled_facts, verdict_facts, dealer_verdict}
use Rattle.laws_days.proofs.Common.{InvestorFact, RoomFact, Effect}
use Rattle.laws_days.proofs.Common.{dealer_of, drop_at}
use Rattle.laws_days.proofs.Common.{answer_to_drop, lifting, nothing, received_by_dealer}
use Rattle.laws_days.proofs.Common.{settlement_of, where_known, QuoteRef, Lifted, AtDesk}
use Rattle.laws_days.proofs.Common.{DealerEntry, Sent, ShownIn, book_by, entries_of}
use Rattle.laws_days.proofs.Common.{Every}
use Rattle.laws_days.proofs.Common.{every_weaker, dealer_grown, investor_grown, own_trail}
use Rattle.laws_days.proofs.Common.{investor_in_room, AtDealer, AtInvestor, Fact, InRoom, of_dealer}
use Rattle.laws_days.proofs.Common.{of_investor, InvestorEvent, InvestorVerdict}
use Rattle.laws_days.proofs.Common.{own_facts, market_of, InvestorRow, HitRefusal}
use Rattle.laws_days.proofs.Common.{Result, Ok, Err, End, Ask, ResponseRef}
use Rattle.market_terms.specs.declared.closes.Reply.TheVariants as reply
use Rattle.market_terms.specs.declared.rooms.Offer.{Offer}
use Rattle.laws_days.specs.ActionCases.{if_does}
use Rattle.dealer_desk.specs.declared.events.DealerEvent.TheVariants as at_desk
use Rattle.dealer_desk.specs.declared.standing.Withdrawal.TheVariants as by_way
use Rattle.investor_desk.specs.InvestorFacts.{InvestorBook, StandingRequest}
use Rattle.investor_desk.specs.InvestorOutput.{event_facts as market_event_facts}
use Rattle.investor_desk.specs.InvestorOutput.{answer_facts}
use Rattle.investor_desk.specs.InvestorOutput.{offer_facts}
use Rattle.investor_desk.specs.declared.verdicts.InvestorVerdict.TheVariants as verdict
use Rattle.step_replay.specs.Actions.{at_dealer, at_market}
use Rattle.step_replay.specs.InvestorTrail as investor_trail
use Rattle.step_replay.specs.InvestorTrail.{InvestorEntry}
use Rattle.step_replay.specs.PlaceLemmas.{investor_at_dealer, other_investor, other_trail, own_investor}
use Rattle.step_replay.specs.PlaceLemmas.{trail_at_investor, trail_in_room}
use Rattle.step_replay.specs.TrailLemmas.{facts_added}
use Rattle.investor_desk.specs.InvestorRules.{InvestorMarket}
use Rattle.laws_days.proofs.NewsWalk.{IsNews, news_adds, offer_adds}
use Rattle.laws_days.proofs.PlainFacts.{IsPlain, settled_plain, verdict_plain}
use Rattle.laws_trades.specs.TradeNames.{hit_in, notice_in}
use Rattle.laws_trades.proofs.NameParts.{Pair, hits, last_trail, none_said, notices}

-- the facts of an investor's desk among entries
market_added : (facts : List InvestorFact) (messages : List (List ℕ))
    → investor_trail.facts_of
    (map investor_trail.AtDesk facts ++ map investor_trail.Sent messages) ≡ facts
market_added [] [] = refl
market_added [] (message ∷ messages) = market_added [] messages
market_added (fact ∷ facts) messages = ap (λ l. fact ∷ l) (market_added facts messages)

-- nothing, where a test holds, and where not
if_none : (b : Bool) (rooms : List RoomRef) → rooms ≡ [] → (if b then rooms else []) ≡ []
if_none true rooms none = none
if_none false rooms none = refl

module _ (p : Pair) where
  -- facts that say nothing of these trades
  pub record Silent (facts : List Fact) : Type 0 where
    pub hit : hits p facts ≡ []
    pub told : notices p facts ≡ []

  pub hits_both : (facts more : List Fact) → hits p (facts ++ more) ≡ hits p facts ++ hits p more
  hits_both facts more =
      rw (investor_grown p.investor facts more, filter_map-append, filter_map-append) refl

  pub notices_both : (facts more : List Fact)
      → notices p (facts ++ more) ≡ notices p facts ++ notices p more
  notices_both facts more =
      rw (dealer_grown p.dealer facts more, filter_map-append, filter_map-append) refl

  pub silent_none : Silent []
  unfolding of_dealer of_investor
  silent_none = record { hit = refl; told = refl }

  pub silent_both : (facts more : List Fact) → Silent facts → Silent more → Silent (facts ++ more)
  silent_both facts more one other = record {
    hit = rw (hits_both facts more, one.hit, other.hit) refl;
    told = rw (notices_both facts more, one.told, other.told) refl;
  }

  -- Places.

  pub silent_room : (room : RoomRef) (facts : List RoomFact) → Silent (map (InRoom room) facts)
  silent_room room facts = record {
    hit = rw (investor_in_room p.investor room facts) refl;
    told = rw (trail_in_room p.dealer room facts) refl;
  }

  -- what an event adds at a dealer's desk
  pub notices_at : (dealer : ℕ) (facts : List DealerFact) (rooms : List RoomRef)
      (messages : List (List ℕ))
      → notices p (map (AtDealer dealer) (map AtDesk facts ++ map ShownIn rooms ++ map Sent messages))
      ≡ (if dealer == p.dealer then filter_map (notice_in p.investor_name (last_trail p)) facts else [])
  notices_at dealer facts rooms messages =
      let entries = map AtDesk facts ++ map ShownIn rooms ++ map Sent messages in
      elim (cases_Bool (dealer == p.dealer)) [
        | inl test ↦ rw (
          test,
          eqb-true dealer p.dealer test,
          own_trail p.dealer entries,
          facts_added facts rooms messages,
        ) refl
        | inr differs ↦ rw (differs, other_trail p.dealer dealer differs entries) refl
      ]

  pub hits_at : (dealer : ℕ) (entries : List DealerEntry)
      → hits p (map (AtDealer dealer) entries) ≡ []
  hits_at dealer entries = rw (investor_at_dealer p.investor dealer entries) refl

  silent_desk : (dealer : ℕ) (facts : List DealerFact) (rooms : List RoomRef)
      (messages : List (List ℕ))
      → Every (λ fact. notice_in p.investor_name (last_trail p) fact ≡ None) facts
      → Silent (map (AtDealer dealer) (map AtDesk facts ++ map ShownIn rooms ++ map Sent messages))
  silent_desk dealer facts rooms messages none = record {
    hit = hits_at dealer (map AtDesk facts ++ map ShownIn rooms ++ map Sent messages);
    told = notices_at dealer facts rooms messages
        ∙ if_none (dealer == p.dealer) _ (none_said (notice_in p.investor_name (last_trail p)) facts none);
  }

  plain_none : (fact : DealerFact) → IsPlain fact → notice_in p.investor_name (last_trail p) fact ≡ None
  plain_none (Told request close moment) plain = cc
  plain_none fact plain = refl

  silent_plain : (dealer : ℕ) (facts : List DealerFact) (messages : List (List ℕ))
      → Every IsPlain facts
      → Silent (map (AtDealer dealer) (map AtDesk facts ++ map ShownIn [] ++ map Sent messages))
  silent_plain dealer facts messages plain =
      silent_desk dealer facts [] messages (every_weaker IsPlain
      (λ fact. notice_in p.investor_name (last_trail p) fact ≡ None) plain_none facts plain)

  -- entries at an investor's desk
  hits_among : (firm : ℕ) (entries : List InvestorEntry) → hits p (map (AtInvestor firm) entries)
      ≡ (if firm == p.investor
      then filter_map (hit_in p.investor p.dealer_name) (investor_trail.facts_of entries) else [])
  hits_among firm entries = elim (cases_Bool (firm == p.investor)) [
    | inl test ↦ rw (test, eqb-true firm p.investor test, own_investor p.investor entries) refl
    | inr differs ↦ rw (differs, other_investor p.investor firm differs entries) refl
  ]

  -- what an event adds there
  pub hits_in : (firm : ℕ) (event : InvestorEvent) (facts : List InvestorFact)
      (messages : List (List ℕ))
      → hits p (map (AtInvestor firm) (investor_trail.Happened event
      ∷ map investor_trail.AtDesk facts ++ map investor_trail.Sent messages))
      ≡ (if firm == p.investor then filter_map (hit_in p.investor p.dealer_name) facts else [])
  hits_in firm event facts messages =
      hits_among firm (investor_trail.Happened event
      ∷ map investor_trail.AtDesk facts ++ map investor_trail.Sent messages)
      ∙ ap (λ (l : List InvestorFact). if firm == p.investor
      then filter_map (hit_in p.investor p.dealer_name) l else []) (market_added facts messages)

  pub notices_in : (firm : ℕ) (entries : List InvestorEntry)
      → notices p (map (AtInvestor firm) entries) ≡ []
  notices_in firm entries = rw (trail_at_investor p.dealer firm entries) refl

  silent_market : (firm : ℕ) (event : InvestorEvent) (facts : List InvestorFact)
      (messages : List (List ℕ))
      → Every (λ fact. hit_in p.investor p.dealer_name fact ≡ None) facts
      → Silent (map (AtInvestor firm) (investor_trail.Happened event
      ∷ map investor_trail.AtDesk facts ++ map investor_trail.Sent messages))
  silent_market firm event facts messages none = record {
    hit = hits_in firm event facts messages
        ∙ if_none (firm == p.investor) _ (none_said (hit_in p.investor p.dealer_name) facts none);
    told = notices_in firm (investor_trail.Happened event
        ∷ map investor_trail.AtDesk facts ++ map investor_trail.Sent messages);
  }

  -- Steps.

  abbrev pub SilentIn : Effect → Type 0
  SilentIn effect = Silent effect.facts

  pub idle : SilentIn nothing
  idle = silent_none

  module _ (config : Configuration) (known : List Fact) where
    abbrev pub NoHits : List InvestorFact → Type 0
    NoHits facts = Every (λ fact. hit_in p.investor p.dealer_name fact ≡ None) facts

    -- an event of an investor that is not an award
    pub market_silent : (firm : ℕ) (row : InvestorRow) (event : InvestorEvent) (duties : List Duty)
        → NoHits (market_event_facts (market_of config firm row)
        (investor_trail.book_by (of_investor firm known)) event)
        → SilentIn (at_market known (market_of config firm row) event duties)
    unfolding investor_trail.entries_of
    market_silent firm row event duties none = silent_market firm event _ _ none

    pub offer_none : (book : InvestorBook) (request : ℕ) (offer : Offer) (own : Option StandingRequest)
        → NoHits (offer_facts book request offer own)
    offer_none book request offer own =
        offer_adds (λ fact. hit_in p.investor p.dealer_name fact ≡ None) book request offer
        (λ quote. refl) refl own

    pub news_none : (market : InvestorMarket) (book : InvestorBook) (event : InvestorEvent)
        → IsNews event → NoHits (market_event_facts market book event)
    news_none market book event news =
        news_adds (λ fact. hit_in p.investor p.dealer_name fact ≡ None) market book event news
        (λ request word moment is quote. refl) (λ request. refl)

    pub said_none : (moment : ℕ) (bytes : List ℕ) (v : InvestorVerdict)
        → NoHits (own_facts moment bytes v)
    said_none moment bytes (verdict.RequestAccepted id request) = (refl, (refl, tt))
    said_none moment bytes other = (refl, tt)

    pub refused_none : (book : InvestorBook) (request : ℕ) (response : ResponseRef) (why : HitRefusal)
        (own : Option StandingRequest)
        → NoHits (answer_facts book request response (reply.Refused why) own)
    refused_none book request response why None = tt
    refused_none book request response why (Some own) = tt

    -- a pass that is answered closes its request by no award
    pub passed_none : (book : InvestorBook) (request : ℕ) (response : ResponseRef)
        (own : Option StandingRequest) → response.k ≡ None
        → NoHits (answer_facts book request response reply.Passed own)
    passed_none book request response None none = tt
    passed_none book request response (Some own) none = rw none (refl, tt)

    pub known_silent : (firm : ℕ) (row : InvestorRow) (request : ℕ) (quote : Option ℕ)
        (event : InvestorEvent)
        → NoHits (market_event_facts (market_of config firm row)
        (investor_trail.book_by (of_investor firm known)) event)
        → SilentIn (where_known known request quote event (market_of config firm row))
    known_silent firm row request quote event none =
        if_does SilentIn idle _ (at_market known (market_of config firm row) event [])
        (market_silent firm row event [] none)

    pub lifting_silent : (found : Option QuoteRef) (outcome : Result End HitRefusal)
        → Silent (lifting found outcome)
    lifting_silent (Some hit) (Ok award) = record {
      hit = hits_at hit.dealer (Lifted hit.quote ∷ []);
      told = elim (cases_Bool (hit.dealer == p.dealer)) [
        | inl test ↦ rw (
          eqb-true hit.dealer p.dealer test,
          own_trail p.dealer (Lifted hit.quote ∷ []),
        ) refl
        | inr differs ↦ rw (other_trail p.dealer hit.dealer differs (Lifted hit.quote ∷ [])) refl
      ];
    }
    lifting_silent (Some hit) (Err why) = silent_none
    lifting_silent None (Ok award) = silent_none
    lifting_silent None (Err why) = silent_none

    -- Duties, but for notices and for the replies to responses.

    pub shown_silent : (room : RoomRef) (ask : Ask) (moment number : ℕ) (row : DealerRow)
        → SilentIn (at_dealer config known (dealer_of number row) (at_desk.Shown room ask moment) [])
    unfolding entries_of event_facts
    shown_silent room ask moment number row =
        silent_desk number (Shown ask moment ∷ []) (room ∷ []) _ (refl, tt)

    pub dropped_silent : (last moment number : ℕ) (row : DealerRow) (left : List Duty)
        → SilentIn (at_dealer config known (dealer_of number row)
        (drop_at (of_dealer number known) last moment) left)
    unfolding entries_of event_facts
    dropped_silent last moment number row left =
        let trail = of_dealer number known in
        let asked = number_to_drop (book_by trail) last in
        silent_plain number (Dropped last moment ∷ settled_facts asked by_way.Cancel
        (answer_to_drop trail last)) _
        (refl, settled_plain asked by_way.Cancel (answer_to_drop trail last))

    pub said_silent : (moment : ℕ) (bytes : List ℕ) (number : ℕ) (row : DealerRow)
        → SilentIn (received_by_dealer config known moment bytes (dealer_of number row))
    unfolding entries_of event_facts
    said_silent moment bytes number row =
        let trail = of_dealer number known in
        let v = dealer_verdict config.date row (book_by trail) moment bytes in
        if_does SilentIn idle _ (at_dealer config known (dealer_of number row)
        (at_desk.Received moment bytes (settlement_of trail v)) _)
        (silent_plain number (Came moment bytes (uses_number v) ∷ verdict_facts v (settlement_of trail v))
        _ (refl, verdict_plain v (settlement_of trail v)))
