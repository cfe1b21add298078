-- What an action brings of one dealer's quotes to a room and to the desk of its investor.
use Rattle.std.proofs.Common.{◌≡◌, ◌==◌, ◌&&◌, ◌+◌, ℕ, Bool, true, false, List, [], ◌∷◌, ◌++◌, map, filter_map}
use Rattle.std.proofs.Common.{Option, Some, None, IfSome, is_none, is_some, option_map, refl, sym, ap, ◌∙◌, subst, inl, inr}
use Rattle.std.proofs.Common.{if◌then◌else◌, arith}
use Rattle.std.specs.List.{cons_option}
use Rattle.std.proofs.lemmas.Bool.{and_parts, cases_Bool, eq-eqb, false≢true}
use Rattle.std.proofs.lemmas.List.{append-nil, append_assoc}
use Rattle.std.proofs.lemmas.List.Elements.{filter_map-append}
use Rattle.dealer_desk.specs.DealerOutput.{is_same_room}
use Rattle.market_terms.specs.declared.duties.Duty.{Duty}
use Rattle.market_terms.specs.declared.duties.Duty.TheVariants as duty
use Rattle.market_terms.specs.declared.rooms.Offer.{Offer}
use Rattle.market_terms.specs.declared.rooms.RoomRef.{RoomRef}
use Rattle.venue_rows.specs.Rows.{Configuration, dealer_numbered, has_room, investor_numbered}
use Rattle.venue_rows.specs.declared.dealer_rows.DealerRow.{DealerRow}
use Rattle.venue_rows.specs.declared.investor_rows.InvestorRow.{InvestorRow}
use Rattle.venue_steps.specs.Dealers.{QuoteRef, dealer_of, has_word_for, offer_of, quote_with_word, word_for}
use Rattle.venue_steps.specs.declared.actors.Actor.{Actor}
use Rattle.venue_steps.specs.declared.actors.Actor.TheVariants as actor
use Rattle.venue_steps.specs.RoomSteps.{where_follows}
use Rattle.dealer_desk.specs.declared.verdicts.DealerVerdict.{DealerVerdict}
use Rattle.dealer_desk.specs.declared.verdicts.DealerVerdict.TheVariants as said
use Rattle.investor_desk.specs.InvestorRules.{InvestorMarket, investor_verdict}
use Rattle.investor_desk.specs.declared.verdicts.InvestorVerdict.{InvestorVerdict}
use Rattle.investor_desk.specs.declared.verdicts.InvestorVerdict.TheVariants as asks
use Rattle.investor_desk.specs.InvestorDesk.{market_of}
use Rattle.investor_desk.specs.InvestorFacts.{InvestorBook, InvestorFact, Offered, StandingRequest}
use Rattle.investor_desk.specs.InvestorFacts.{offer_of_dealer, offers_of, request_numbered}
use Rattle.investor_desk.specs.InvestorFacts.{while_open}
use Rattle.investor_desk.specs.InvestorOutput as investor_output
use Rattle.investor_desk.specs.declared.events.InvestorEvent.TheVariants as at_investor
use Rattle.investor_desk.specs.declared.standing.RequestClose.{RequestClose}
use Rattle.investor_desk.specs.declared.standing.ShownOffer.{ShownOffer}
use Rattle.request_room.specs.Book.{event_facts, quote_posted, fact_if}
use Rattle.request_room.specs.RoomFacts.{Noted, Posted, RoomFact, hears, takes_quotes}
use Rattle.request_room.specs.declared.quotes.PostedQuote.{PostedQuote}
use Rattle.step_replay.specs.Actions.{Effect, at_market, done_for, nothing, verdict_on, where_known}
use Rattle.step_replay.specs.LineActions.{posted_by}
use Rattle.step_replay.specs.AuditTrail.{AuditTrail, is_same_actor}
use Rattle.step_replay.specs.DutyEffects.{duty_effect, message_effect, sweep_effect}
use Rattle.step_replay.specs.GrowthLemmas.{same_room}
use Rattle.step_replay.specs.InvestorTrail as investor_trail
use Rattle.step_replay.specs.InvestorTrail.{InvestorEntry}
use Rattle.step_replay.specs.OwnerLemmas.{owner_among, quote_at}
use Rattle.step_replay.specs.PlaceLemmas.{other_room, own_investor, own_room}
use Rattle.step_replay.specs.VenueFacts.{Fact, InRoom, of_investor, of_room}
use Rattle.laws_days.specs.ActionCases.{numbered_does}
use Rattle.laws_days.specs.KeptItems.{every_all}
use Rattle.laws_days.specs.LeftBehind.{LeftBy, duty_each}
use Rattle.laws_days.specs.LeftDuties.{message_leaves as message_left}
use Rattle.laws_days.specs.MayLeave.{MaySay}
use Rattle.laws_shown.specs.ShownQuotes.{shown_to}
use Rattle.laws_shown.proofs.ShownMarket.{entries_facts}
use Rattle.laws_shown.proofs.ShownParts.{DutyOk as ShownOk, Relays, shown_grown}
use Rattle.laws_shown.proofs.ShownQuiet as showing
use Rattle.laws_days.specs.Conditions.{holds_for, is_known, is_known_to, is_met}
use Rattle.laws_days.proofs.VenueInvariant.{DutyOk}
use Rattle.laws_days.proofs.VenueKnown.{room_self}
use Rattle.laws_rooms.specs.Answered.{Answer, Declines, Quotes, answers_in}
use Rattle.laws_rooms.specs.Offers.{is_of, quotes_in, quotes_shown, shown_of}
use Rattle.laws_rooms.proofs.AnswerLemmas.{Goes, late, lefts, message_goes, quiet, sweep_goes, takes, turn_mine}
use Rattle.laws_rooms.proofs.AnswerLemmas.{turn_other}
use Rattle.laws_rooms.proofs.ReplyDuties.{none_of}
use Rattle.laws_rooms.proofs.ShutLemmas.{shut, shut_in, still_live}
use Rattle.laws_rooms.proofs.TellLemmas.{market_grown}

-- Quotes among answers.

abbrev only_quote : Answer → Option PostedQuote
only_quote (Quotes quote) = Some quote
only_quote other = None

quotes_are : (dealer : ℕ) (facts : List RoomFact)
    → quotes_in dealer facts ≡ filter_map only_quote (answers_in dealer facts)
quotes_are dealer [] = refl
quotes_are dealer (Posted quote ∷ facts) = elim (cases_Bool (quote.dealer == dealer)) [
  | inl same ↦ rw same (ap (λ (l : List PostedQuote). quote ∷ l) (quotes_are dealer facts))
  | inr differs ↦ rw differs (quotes_are dealer facts)
]
quotes_are dealer (Noted other ∷ facts) = elim (cases_Bool (other == dealer)) [
  | inl same ↦ rw same (quotes_are dealer facts)
  | inr differs ↦ rw differs (quotes_are dealer facts)
]
quotes_are dealer (fact ∷ facts) = quotes_are dealer facts

goes_quotes : (dealer : ℕ) (known added : List RoomFact) (items : List Answer) → Goes dealer known added items
    → filter_map only_quote items ≡ [] → quotes_in dealer added ≡ []
goes_quotes dealer known added items (quiet none no_items) so =
    quotes_are dealer added ∙ ap (λ (l : List Answer). filter_map only_quote l) none
goes_quotes dealer known added items (takes says live) so =
    quotes_are dealer added ∙ ap (λ (l : List Answer). filter_map only_quote l) says ∙ so
goes_quotes dealer known added items (late none ended) so =
    quotes_are dealer added ∙ ap (λ (l : List Answer). filter_map only_quote l) none

module _ (dealer : ℕ) (config : Configuration) (row : DealerRow)
    (is : dealer_numbered config dealer ≡ Some row) (room : RoomRef) where
  abbrev its : List Duty → List Answer
  its duties = lefts dealer config row is room duties

  -- the quote that a relay shows, where it is of this room
  abbrev pub relay_of : Duty → Option PostedQuote
  relay_of (duty.Relay at offer moment) =
      if is_same_room at room
      then Some (quote_posted dealer offer.word offer.price offer.valid_until)
      else None
  relay_of other = None

  abbrev pub relays : List Duty → List PostedQuote
  relays duties = filter_map relay_of duties

  abbrev pub shown : List Fact → List PostedQuote
  shown facts = quotes_shown config dealer room.n (investor_trail.facts_of (of_investor room.investor facts))

  abbrev pub is_shut : List Fact → Bool
  is_shut facts = shut_in room.n (investor_trail.facts_of (of_investor room.investor facts))

  -- In the room: what takes effect is relayed.

  pub record Same (effect : Effect) : Type 0 where
    pub same : relays effect.duties ≡ quotes_in dealer (of_room room effect.facts)

  same_idle : Same nothing
  unfolding of_room
  same_idle = record { same = refl }

  module _ (facts : List Fact) where
    abbrev known : List RoomFact
    known = of_room room facts

    module _ (quote price : ℕ) (until : Option ℕ) (moment : ℕ) (found : DealerRow) where
      abbrev its_offer : Offer
      its_offer = offer_of config (dealer_of dealer found) quote price until

      abbrev posted : PostedQuote
      posted = quote_posted dealer (word_for config (dealer_of dealer found) quote) price until

      here_both : (is_room has_word hears_it takes_it : Bool) → Same (if is_room && (has_word && hears_it)
          then record {
            facts = map (InRoom room) (fact_if takes_it (Posted posted));
            duties = where_follows (hears_it && takes_it) (duty.Relay room its_offer moment);
          }
          else nothing)
      here_both true true true true =
          let own : (dealer == dealer) ≡ true = eq-eqb dealer dealer refl in
          record {
            same = ap (λ (b : Bool). cons_option (if b then Some posted else None) []) (room_self room)
                ∙ sym (ap (λ (b : Bool). cons_option (if b then Some posted else None) []) own)
                ∙ sym (ap (λ (l : List RoomFact). quotes_in dealer l) (own_room room (Posted posted ∷ [])));
          }
      here_both true true true false =
          record { same = sym (ap (λ (l : List RoomFact). quotes_in dealer l) (own_room room [])) }
      here_both true true false takes_it = same_idle
      here_both true false hears_it takes_it = same_idle
      here_both false has_word hears_it takes_it = same_idle

      away_both : (at : RoomRef) → is_same_room at room ≡ false → (is_room has_word hears_it takes_it : Bool)
          → Same (if is_room && (has_word && hears_it)
          then record {
            facts = map (InRoom at) (fact_if takes_it (Posted posted));
            duties = where_follows (hears_it && takes_it) (duty.Relay at its_offer moment);
          }
          else nothing)
      away_both at differs true true true takes_it =
          record {
            same = none takes_it
                ∙ sym (ap (λ (l : List RoomFact). quotes_in dealer l)
                (other_room room at differs (fact_if takes_it (Posted posted))));
          }
        where
          none : (b : Bool) → relays (where_follows b (duty.Relay at its_offer moment)) ≡ []
          none true = rw differs refl
          none false = refl
      away_both at differs true true false takes_it = same_idle
      away_both at differs true false hears_it takes_it = same_idle
      away_both at differs false has_word hears_it takes_it = same_idle

    pub post_same : (at : RoomRef) (quote price : ℕ) (until : Option ℕ) (moment : ℕ)
        → Same (duty_effect config facts (actor.Firm dealer) (duty.Post at quote price until moment))
    unfolding duty_effect event_facts
    post_same at quote price until moment = elim (cases_Bool (is_same_room at room)) [
      | inl same ↦ numbered_does Same same_idle config dealer (posted_by config facts at quote price until moment)
          (λ found row_is. subst (λ (r : RoomRef).
          Same (posted_by config facts r quote price until moment (dealer_of dealer found)))
          (sym (same_room at room same))
          (here_both quote price until moment found (has_room config room.investor room.n)
          (has_word_for config (dealer_of dealer found) quote) (hears known dealer) (takes_quotes known)))
      | inr differs ↦ numbered_does Same same_idle config dealer (posted_by config facts at quote price until moment)
          (λ found row_is. away_both quote price until moment found at differs (has_room config at.investor at.n)
          (has_word_for config (dealer_of dealer found) quote) (hears (of_room at facts) dealer)
          (takes_quotes (of_room at facts)))
    ]

    abbrev IsNoPost : Duty → Type 0
    IsNoPost (duty.Post at quote price until moment) = ⊥
    IsNoPost other = Unit {0}

    abbrev NoRelay : Duty → Type 0
    NoRelay d = relay_of d ≡ None

    relays_none : (by : Actor) (d : Duty) → IsNoPost d → relays (duty_effect config facts by d).duties ≡ []
    relays_none by d isnt =
        none_of relay_of (duty_effect config facts by d).duties
        (duty_each NoRelay config facts by d (λ more left. each more d isnt left))
      where
        each : (more one : Duty) → IsNoPost one → LeftBy more one → NoRelay more
        each (duty.Relay at offer when) (duty.Post other quote price until moment) so left = absurd so
        each (duty.Relay at offer when) one so left = absurd left
        each more one so left = refl

    pub unrelayed : (firm moment : ℕ) (bytes : List ℕ)
        → relays (message_effect config facts firm moment bytes).duties ≡ []
    unrelayed firm moment bytes =
        none_of relay_of (message_effect config facts firm moment bytes).duties
        (message_left NoRelay config facts firm moment bytes
        (λ found at_row. says firm moment (verdict_on config facts moment bytes _))
        (λ found at_row. asks_none moment (market_of config firm found) (investor_verdict _ _ moment bytes))).each
      where
        says : (firm moment : ℕ) (v : DealerVerdict) → MaySay NoRelay config facts firm moment v
        says firm moment (said.QuoteAccepted request id quote replaced) = every_all _ (λ r. refl) _
        says firm moment (said.CancelAccepted id quote request) = every_all _ (λ r. refl) _
        says firm moment (said.DropsFollow last) = refl
        says firm moment (said.DeclineAccepted request number) = every_all _ (λ r. refl) _
        says firm moment other = tt

        asks_none : (moment : ℕ) (market : InvestorMarket) (v : InvestorVerdict)
            → IfSome (investor_output.verdict_duty market moment v) NoRelay
        asks_none moment market (asks.RequestAccepted id request) = refl
        asks_none moment market (asks.Hits request response word) = refl
        asks_none moment market (asks.Passes request response) = refl
        asks_none moment market other = tt

    decline_its : (at : RoomRef) (moment : ℕ) → filter_map only_quote (its (duty.Decline at moment ∷ [])) ≡ []
    decline_its at moment = by_room (is_same_room at room)
      where
        by_room : (b : Bool) → filter_map only_quote (cons_option (if b then Some Declines else None) []) ≡ []
        by_room true = refl
        by_room false = refl

    pub same_turn : (venue : AuditTrail) → venue.facts ≡ facts → (by : Actor) (d : Duty)
        → DutyOk config by d venue → is_met config facts by d ≡ true → by ≡ actor.Firm dealer
        → Same (duty_effect config facts by d)
    same_turn venue at_facts by (duty.Post at quote price until moment) ok fit one =
        subst (λ (a : Actor). Same (duty_effect config facts a (duty.Post at quote price until moment))) (sym one)
        (post_same at quote price until moment)
    same_turn venue at_facts by (duty.Decline at moment) ok fit one =
        record {
          same = relays_none by (duty.Decline at moment) tt
              ∙ sym (goes_quotes dealer known _ (its (duty.Decline at moment ∷ []))
              (turn_mine dealer config row is room facts venue at_facts by (duty.Decline at moment) ok fit one)
              (decline_its at moment));
        }
    same_turn venue at_facts by other ok fit one =
        record {
          same = relays_none by other tt
              ∙ sym (goes_quotes dealer known _ (its (other ∷ []))
              (turn_mine dealer config row is room facts venue at_facts by other ok fit one) refl);
        }

    pub other_turn : (by : Actor) (d : Duty) → is_same_actor by (actor.Firm dealer) ≡ false
        → quotes_in dealer (of_room room (duty_effect config facts by d).facts) ≡ []
    other_turn by d differs =
        goes_quotes dealer known _ [] (turn_other dealer config row is room facts by d differs) refl

    pub message_turn : (firm moment : ℕ) (bytes : List ℕ)
        → quotes_in dealer (of_room room (message_effect config facts firm moment bytes).facts) ≡ []
    message_turn firm moment bytes =
        goes_quotes dealer known _ [] (message_goes dealer config row is room facts firm moment bytes) refl

    pub sweep_turn : (at : RoomRef) (moment : ℕ)
        → quotes_in dealer (of_room room (sweep_effect config facts at moment).facts) ≡ []
    sweep_turn at moment =
        goes_quotes dealer known _ [] (sweep_goes dealer config row is room facts at moment) refl

  -- At the desk.

  pub record Told (facts : List Fact) (done : List PostedQuote) : Type 0 where
    pub rest : List PostedQuote
    pub begins : done ≡ shown facts ++ rest
    pub whole : is_shut facts ≡ false → rest ≡ []

  -- what an action shows beside what was done: just that, while the request is not closed; or nothing,
  -- and nothing was done, or the request was closed
  pub data Tells (facts added : List Fact) (items : List PostedQuote) : Type 0 where
    calm : shown added ≡ [] → items ≡ [] → Tells facts added items
    shows : shown added ≡ items → is_shut facts ≡ false → Tells facts added items
    behind : shown added ≡ [] → is_shut facts ≡ true → Tells facts added items

  module _ (facts added : List Fact) where
    shown_both : shown (facts ++ added) ≡ shown facts ++ shown added
    shown_both =
        ap (λ (l : List ShownOffer). filter_map (shown_of config dealer room.n) l)
        (shown_grown room.investor facts added)
        ∙ filter_map-append (shown_of config dealer room.n) (shown_to room.investor facts)
        (shown_to room.investor added)

    shown_same : shown added ≡ [] → shown (facts ++ added) ≡ shown facts
    shown_same none =
        shown_both ∙ ap (λ (l : List PostedQuote). shown facts ++ l) none ∙ append-nil (shown facts)

    live_before : is_shut (facts ++ added) ≡ false → is_shut facts ≡ false
    live_before live =
        still_live room.n (investor_trail.facts_of (of_investor room.investor facts))
        (investor_trail.facts_of (of_investor room.investor added))
        (subst (λ (l : List InvestorFact). shut_in room.n l ≡ false) (market_grown room.investor facts added) live)

    pub told_more : (before items : List PostedQuote) → Told facts before → Tells facts added items
        → Told (facts ++ added) (before ++ items)
    told_more before items told (calm none none_done) = record {
      rest = told.rest;
      begins = ap (λ (l : List PostedQuote). before ++ l) none_done ∙ append-nil before ∙ told.begins
          ∙ ap (λ (l : List PostedQuote). l ++ told.rest) (sym (shown_same none));
      whole = λ live. told.whole (live_before live);
    }
    told_more before items told (shows says live) = record {
      rest = [];
      begins = ap (λ (l : List PostedQuote). l ++ items) told.begins
          ∙ ap (λ (l : List PostedQuote). (shown facts ++ l) ++ items) (told.whole live)
          ∙ ap (λ (l : List PostedQuote). l ++ items) (append-nil (shown facts))
          ∙ ap (λ (l : List PostedQuote). shown facts ++ l) (sym says)
          ∙ sym shown_both ∙ sym (append-nil (shown (facts ++ added)));
      whole = λ still. refl;
    }
    told_more before items told (behind none closed) = record {
      rest = told.rest ++ items;
      begins = ap (λ (l : List PostedQuote). l ++ items) told.begins
          ∙ append_assoc (shown facts) told.rest items
          ∙ ap (λ (l : List PostedQuote). l ++ (told.rest ++ items)) (sym (shown_same none));
      whole = λ live. absurd (false≢true (sym (live_before live) ∙ closed));
    }

  calm_by : (facts added : List Fact) → shown_to room.investor added ≡ [] → Tells facts added []
  calm_by facts added none =
      calm (ap (λ (l : List ShownOffer). filter_map (shown_of config dealer room.n) l) none) refl

  pub message_tells : (facts : List Fact) (firm moment : ℕ) (bytes : List ℕ)
      → Tells facts (message_effect config facts firm moment bytes).facts []
  message_tells facts firm moment bytes =
      calm_by facts _ ((showing.message_quiet config facts firm moment bytes).none room.investor)

  pub sweep_tells : (facts : List Fact) (at : RoomRef) (moment : ℕ)
      → Tells facts (sweep_effect config facts at moment).facts []
  sweep_tells facts at moment = calm_by facts _ ((showing.sweep_quiet config facts at moment).none room.investor)

  -- A relay.

  module _ (facts : List Fact) where
    -- whose word a quote has that is relayed
    record OfDealer (by : Actor) (offer : Offer) : Type 0 where
      pub whose : ℕ
      pub quote : ℕ
      pub by_is : by ≡ actor.Firm whose
      pub word_is : quote_with_word config offer.word ≡ Some (quote_at whose quote)

    of_dealer_is : (by : Actor) (at : RoomRef) (offer : Offer) → Relays config facts by at offer → OfDealer by offer
    of_dealer_is by at offer it =
        let own = it.is_quote.is_written.is_quote in
        record {
          whose = it.dealer;
          quote = it.quote.number;
          by_is = it.by_is;
          word_is = ap (λ (o : Offer). quote_with_word config o.word) it.offer_is
              ∙ owner_among 0 config.dealers it.dealer own.row it.quote.number own.is_dealer it.is_quote.within
              ∙ ap (λ (n : ℕ). Some (quote_at n it.quote.number)) (zero_more it.dealer);
        }
      where
        zero_more : (n : ℕ) → 0 + n ≡ n
        zero_more n = omega arith

    -- one that is shown of another dealer, or on another request
    one_none : (one : ShownOffer)
        → ((one.request == room.n) && is_of dealer (quote_with_word config one.offer.word)) ≡ false
        → filter_map (shown_of config dealer room.n) (one ∷ []) ≡ []
    one_none one isnt =
        ap (λ (b : Bool). cons_option (if b
        then Some (quote_posted dealer one.offer.word one.offer.price one.offer.valid_until)
        else None) []) isnt

    and_false : (b c : Bool) → c ≡ false → (b && c) ≡ false
    and_false true c isnt = isnt
    and_false false c isnt = refl

    shown_none : (at : RoomRef) (offer : Offer) (offers : List ShownOffer)
        → showing.Relayed at offer room.investor offers
        → ((one : ShownOffer) → room.investor ≡ at.investor → one.request ≡ at.n → one.offer ≡ offer
        → ((one.request == room.n) && is_of dealer (quote_with_word config one.offer.word)) ≡ false)
        → filter_map (shown_of config dealer room.n) offers ≡ []
    shown_none at offer offers (showing.nothing_shown none) isnt =
        ap (λ (l : List ShownOffer). filter_map (shown_of config dealer room.n) l) none
    shown_none at offer offers (showing.one_shown one investor_is one_is request_is offer_is) isnt =
        ap (λ (l : List ShownOffer). filter_map (shown_of config dealer room.n) l) one_is
        ∙ one_none one (isnt one investor_is request_is offer_is)

    relay_other : (by : Actor) → is_same_actor by (actor.Firm dealer) ≡ false → (at : RoomRef) (offer : Offer)
        (moment : ℕ) → Relays config facts by at offer
        → shown (duty_effect config facts by (duty.Relay at offer moment)).facts ≡ []
    relay_other by differs at offer moment it =
        let whose = of_dealer_is by at offer it in
        shown_none at offer _ ((showing.relay_shows config facts by at offer moment).each room.investor)
        (λ one investor_is request_is offer_is. and_false (one.request == room.n) _
        (ap (λ (o : Offer). is_of dealer (quote_with_word config o.word)) offer_is
        ∙ ap (λ (q : Option QuoteRef). is_of dealer q) whose.word_is
        ∙ subst (λ (a : Actor). is_same_actor a (actor.Firm dealer) ≡ false) whose.by_is differs))

    apart : (at : RoomRef) → is_same_room at room ≡ false → room.investor ≡ at.investor → (at.n == room.n) ≡ false
    apart at differs investor_is =
        let same : (at.investor == room.investor) ≡ true = eq-eqb at.investor room.investor (sym investor_is) in
        rw same at differs

    relay_away : (by : Actor) (at : RoomRef) (offer : Offer) (moment : ℕ) → is_same_room at room ≡ false
        → shown (duty_effect config facts by (duty.Relay at offer moment)).facts ≡ []
    relay_away by at offer moment differs =
        shown_none at offer _ ((showing.relay_shows config facts by at offer moment).each room.investor)
        (λ one investor_is request_is offer_is.
        ap (λ (n : ℕ). (n == room.n) && is_of dealer (quote_with_word config one.offer.word)) request_is
        ∙ ap (λ (b : Bool). b && is_of dealer (quote_with_word config one.offer.word)) (apart at differs investor_is))

    -- on this request: it is shown, or the request is closed
    abbrev book : InvestorBook
    book = investor_trail.book_by (of_investor room.investor facts)

    module _ (offer : Offer) where
      record IsNext (one : ShownOffer) : Type 0 where
        pub request_is : one.request ≡ room.n
        pub offer_is : one.offer ≡ offer

      data Comes (closed : Bool) (offers : List ShownOffer) : Type 0 where
        it_comes : (one : ShownOffer) → IsNext one → offers ≡ one ∷ [] → closed ≡ false → Comes closed offers
        too_late : offers ≡ [] → closed ≡ true → Comes closed offers

      by_old : (own : StandingRequest) (old : Option ShownOffer)
          → offers_of (investor_output.gone_facts room.n old
          ++ Offered (investor_output.next_offer book room.n offer) ∷ [])
          ≡ investor_output.next_offer book room.n offer ∷ []
      by_old own None = refl
      by_old own (Some old) = refl

      comes_if : (own : StandingRequest) (close : Option RequestClose)
          → Comes (is_some close) (offers_of (investor_output.offer_facts book room.n offer
          (if is_none close then Some own else None)))
      comes_if own None =
          it_comes (investor_output.next_offer book room.n offer) (record { request_is = refl; offer_is = refl })
          (by_old own (offer_of_dealer own offer.dealer)) refl
      comes_if own (Some how) = too_late refl refl

      comes : (found : Option StandingRequest) → is_some found ≡ true
          → Comes (shut found) (offers_of (investor_output.offer_facts book room.n offer (while_open found)))
      comes None so = absurd (false≢true so)
      comes (Some own) so = comes_if own own.close

      came_offers : (investor : InvestorRow) (moment : ℕ)
          → shown_to room.investor (at_market facts (market_of config room.investor investor)
          (at_investor.QuoteCame room.n offer moment) []).facts
          ≡ offers_of (investor_output.event_facts (market_of config room.investor investor) book
          (at_investor.QuoteCame room.n offer moment))
      came_offers investor moment =
          ap (λ (l : List InvestorEntry). offers_of (investor_trail.facts_of l)) (own_investor room.investor _)
          ∙ ap (λ (l : List InvestorFact). offers_of l)
          (entries_facts config facts actor.Clock room.investor investor
          (at_investor.QuoteCame room.n offer moment) [])

      relay_comes : (by : Actor) (moment : ℕ) → is_known config facts room None ≡ true
          → Comes (is_shut facts) (shown_to room.investor
          (duty_effect config facts by (duty.Relay room offer moment)).facts)
      unfolding duty_effect investor_output.event_facts
      relay_comes by moment is_there = by_row (investor_numbered config room.investor) is_there
        where
          if_known : (investor : InvestorRow) (knows_it : Bool) → knows_it ≡ true
              → is_some (request_numbered book room.n) ≡ true
              → Comes (is_shut facts) (shown_to room.investor (if knows_it
              then at_market facts (market_of config room.investor investor)
              (at_investor.QuoteCame room.n offer moment) []
              else nothing).facts)
          if_known investor true so found =
              subst (Comes (is_shut facts)) (sym (came_offers investor moment))
              (comes (request_numbered book room.n) found)
          if_known investor false so found = absurd (false≢true so)

          by_row : (found : Option InvestorRow)
              → holds_for (option_map (market_of config room.investor) found) (is_known_to facts room.n None) ≡ true
              → Comes (is_shut facts) (shown_to room.investor
              (done_for (option_map (market_of config room.investor) found)
              (where_known facts room.n None (at_investor.QuoteCame room.n offer moment))).facts)
          by_row None so = absurd (false≢true so)
          by_row (Some investor) so =
              if_known investor (is_known_to facts room.n None (market_of config room.investor investor)) so
              (and_parts (is_some (request_numbered book room.n)) true so).0

      -- and it is this dealer's
      one_some : (one : ShownOffer) → IsNext one → is_of dealer (quote_with_word config offer.word) ≡ true
          → filter_map (shown_of config dealer room.n) (one ∷ [])
          ≡ quote_posted dealer offer.word offer.price offer.valid_until ∷ []
      one_some one next mine =
          let same : (one.request == room.n) ≡ true = eq-eqb one.request room.n next.request_is in
          rw (same, next.offer_is, mine) refl

      told_here : (added : List Fact) → is_of dealer (quote_with_word config offer.word) ≡ true
          → Comes (is_shut facts) (shown_to room.investor added)
          → Tells facts added (quote_posted dealer offer.word offer.price offer.valid_until ∷ [])
      told_here added mine (it_comes one next one_is live) =
          shows (ap (λ (l : List ShownOffer). filter_map (shown_of config dealer room.n) l) one_is
          ∙ one_some one next mine) live
      told_here added mine (too_late none closed) =
          behind (ap (λ (l : List ShownOffer). filter_map (shown_of config dealer room.n) l) none) closed

    is_its : (by : Actor) (at : RoomRef) (offer : Offer) → Relays config facts by at offer
        → by ≡ actor.Firm dealer → is_of dealer (quote_with_word config offer.word) ≡ true
    is_its by at offer it one =
        let whose = of_dealer_is by at offer it in
        ap (λ (q : Option QuoteRef). is_of dealer q) whose.word_is
        ∙ eq-eqb whose.whose dealer (ap number_of (sym whose.by_is ∙ one))
      where
        number_of : Actor → ℕ
        number_of (actor.Firm number) = number
        number_of actor.Clock = 0

    pub tells_mine : (by : Actor) (d : Duty) → ShownOk config facts by d → is_met config facts by d ≡ true
        → by ≡ actor.Firm dealer → Tells facts (duty_effect config facts by d).facts (relays (d ∷ []))
    unfolding is_met
    tells_mine by (duty.Relay at offer moment) ok fit one = elim (cases_Bool (is_same_room at room)) [
      | inr differs ↦ calm (relay_away by at offer moment differs) (rw differs refl)
      | inl same ↦ rw same (subst (λ (r : RoomRef). is_known config facts r None ≡ true
          → Tells facts (duty_effect config facts by (duty.Relay r offer moment)).facts
          (quote_posted dealer offer.word offer.price offer.valid_until ∷ [])) (sym (same_room at room same))
          (λ fits. told_here offer _ (is_its by at offer ok one) (relay_comes offer by moment fits)) fit)
    ]
    tells_mine by other ok fit one =
        calm_by facts _ ((showing.duty_quiet config facts by other refl).none room.investor)

    pub tells_other : (by : Actor) (d : Duty) → ShownOk config facts by d
        → is_same_actor by (actor.Firm dealer) ≡ false → Tells facts (duty_effect config facts by d).facts []
    tells_other by (duty.Relay at offer moment) ok differs = calm (relay_other by differs at offer moment ok) refl
    tells_other by other ok differs =
        calm_by facts _ ((showing.duty_quiet config facts by other refl).none room.investor)
