-- What each action of the venue brings: dues that can be said, and duties that bring no other.
use Rattle.std.proofs.Common.{◌≡◌, ◌≤◌, ℕ, ◌==◌, Bool, true, false, ◌&&◌, nat_le, List, []}
use Rattle.std.proofs.Common.{◌∷◌, ◌++◌, map, option_map, Option, Some, None}
use Rattle.std.proofs.Common.{Result, Ok, Err, if◌then◌else◌, refl, sym, ap, ◌∙◌, subst}
use Rattle.std.proofs.Common.{arith}
use Rattle.std.proofs.lemmas.Bool.{and_parts}
use Rattle.std.proofs.lemmas.Bool.Decides.{nat_tests}
use Rattle.std.proofs.lemmas.List.{append-nil, append_assoc}
use Rattle.market_terms.specs.declared.closes.HitRefusal.{HitRefusal}
use Rattle.market_terms.specs.declared.duties.Duty.{Duty}
use Rattle.market_terms.specs.declared.rooms.ResponseRef.{ResponseRef}
use Rattle.market_terms.specs.declared.rooms.RoomRef.{RoomRef}
use Rattle.quote_word.specs.declared.settled.Settled.{Settled}
use Rattle.venue_rows.specs.Rows.{Configuration, dealer_numbered, has_room}
use Rattle.venue_rows.specs.Rows.{investor_numbered}
use Rattle.venue_rows.specs.declared.dealer_rows.DealerRow.{DealerRow}
use Rattle.venue_rows.specs.declared.investor_rows.InvestorRow.{InvestorRow}
use Rattle.dealer_desk.specs.DealerFacts.{book_of, quotes_accepted}
use Rattle.dealer_desk.specs.DealerOutput.{desk_after}
use Rattle.dealer_desk.specs.declared.events.DealerEvent.{DealerEvent}
use Rattle.investor_desk.specs.InvestorDesk.{market_for, market_of}
use Rattle.investor_desk.specs.InvestorRules.{InvestorMarket}
use Rattle.investor_desk.specs.declared.events.InvestorEvent.{InvestorEvent}
use Rattle.request_room.specs.RoomFacts.{RoomFact}
use Rattle.request_room.specs.Book.{event_facts, hit_outcome}
use Rattle.request_room.specs.declared.ends.End.{End}
use Rattle.request_room.specs.declared.events.RoomEvent.{RoomEvent}
use Rattle.request_room.specs.declared.events.RoomEvent.TheVariants as at_room
use Rattle.venue_steps.specs.Dealers.{Dealer, QuoteRef, acting_dealer, dealer_at, dealer_of}
use Rattle.venue_steps.specs.Dealers.{quote_with_word}
use Rattle.venue_steps.specs.declared.actors.Actor.{Actor}
use Rattle.venue_steps.specs.declared.actors.Actor.TheVariants as actor
use Rattle.step_replay.specs.Actions.{Effect, at_dealer, at_market, done_by, done_for}
use Rattle.step_replay.specs.Actions.{hit_with, in_room}
use Rattle.step_replay.specs.Actions.{lifting, nothing}
use Rattle.step_replay.specs.Actions.{where_known}
use Rattle.step_replay.specs.DealerTrail.{DealerEntry, Lifted, entries_of}
use Rattle.step_replay.specs.OwnerLemmas.{owned_by}
use Rattle.step_replay.specs.PlaceLemmas.{dealer_grown, dealer_stays, other_trail, own_trail}
use Rattle.step_replay.specs.PlaceLemmas.{trail_at_investor, trail_in_room}
use Rattle.step_replay.specs.VenueFacts.{AtDealer, Fact, InRoom, of_dealer, of_room}
use Rattle.venue_text.specs.ReadBack.{is_short}
use Rattle.laws_dues.proofs.SayableDuties.{AllFit}
use Rattle.laws_dues.proofs.SayableTrails.{TrailFits, lifted_fits}
use Rattle.laws_dues.proofs.SayableTrails.{short_below}

-- no desk accepts more quotes than its row allows
abbrev pub AcceptsFew : Type 0
AcceptsFew = (date : List ℕ) (row : DealerRow) (events : List DealerEvent)
    → quotes_accepted (book_of (desk_after date row events).facts) ≤ row.quotes

module _ (config : Configuration) (facts : List Fact) where
  -- what an action brings
  pub record EffectFits (effect : Effect) : Type 0 where
    pub trails : (dealer : ℕ) → TrailFits config (of_dealer dealer facts)
        → TrailFits config (of_dealer dealer (facts ++ effect.facts))
    pub duties : AllFit config effect.duties

  -- Effects that say nothing of a dealer.

  quiet_fits : (effect : Effect) → ((dealer : ℕ) → of_dealer dealer effect.facts ≡ [])
      → AllFit config effect.duties → EffectFits effect
  quiet_fits effect none duties = record {
    trails = λ dealer before.
        subst (TrailFits config) (sym (dealer_stays dealer facts effect.facts (none dealer))) before;
    duties = duties;
  }

  pub nothing_fits : EffectFits nothing
  unfolding of_dealer
  nothing_fits = quiet_fits nothing (λ dealer. refl) tt

  pub room_fits : (room : RoomRef) (added : List RoomFact) (duties : List Duty)
      → AllFit config duties
      → EffectFits (record { facts = map (InRoom room) added; duties = duties })
  room_fits room added duties fit =
      quiet_fits (record { facts = map (InRoom room) added; duties = duties })
      (λ dealer. trail_in_room dealer room added) fit

  pub market_fits : (market : InvestorMarket) (event : InvestorEvent) (duties : List Duty)
      → AllFit config duties → EffectFits (at_market facts market event duties)
  market_fits market event duties fit =
      quiet_fits (at_market facts market event duties)
      (λ dealer. trail_at_investor dealer market.firm _) fit

  -- an effect where its test holds, and where it does not
  pub when_fits : (b : Bool) (effect : Effect) → (b ≡ true → EffectFits effect)
      → EffectFits (if b then effect else nothing)
  when_fits true effect fits = fits refl
  when_fits false effect fits = nothing_fits

  pub in_room_fits : (room : RoomRef) (may : Bool) (event : RoomEvent) (duties : List Duty)
      → (has_room config room.investor room.n ≡ true → AllFit config duties)
      → EffectFits (in_room config facts room may event duties)
  in_room_fits room may event duties fit =
      when_fits (has_room config room.investor room.n && may)
      (record { facts = map (InRoom room) (event_facts (of_room room facts) event); duties = duties })
      (λ test. room_fits room (event_facts (of_room room facts) event) duties
      (fit (and_parts (has_room config room.investor room.n) may test).0))

  pub known_fits : (request : ℕ) (quote : Option ℕ) (event : InvestorEvent)
      (market : InvestorMarket) → EffectFits (where_known facts request quote event market)
  known_fits request quote event market =
      when_fits _ (at_market facts market event []) (λ test. market_fits market event [] tt)

  -- Effects at one dealer.

  pub at_fits : (number : ℕ) (entries : List DealerEntry) (duties : List Duty)
      → (TrailFits config (of_dealer number facts)
      → TrailFits config (of_dealer number facts ++ entries))
      → AllFit config duties
      → EffectFits (record { facts = map (AtDealer number) entries; duties = duties })
  at_fits number entries duties grows fit = record {
    trails = λ dealer before. by_test dealer before (number == dealer) refl;
    duties = fit;
  }
    where
      own : TrailFits config (of_dealer number facts)
          → TrailFits config (of_dealer number (facts ++ map (AtDealer number) entries))
      own before =
          subst (TrailFits config) (sym (dealer_grown number facts (map (AtDealer number) entries)
          ∙ ap (λ l. of_dealer number facts ++ l) (own_trail number entries))) (grows before)

      by_test : (dealer : ℕ) → TrailFits config (of_dealer dealer facts) → (b : Bool)
          → (number == dealer) ≡ b
          → TrailFits config (of_dealer dealer (facts ++ map (AtDealer number) entries))
      by_test dealer before true test =
          let same : number ≡ dealer = grind (arith, nat_tests) in
          subst (λ (d : ℕ). TrailFits config (of_dealer d facts)
          → TrailFits config (of_dealer d (facts ++ map (AtDealer number) entries))) same own before
      by_test dealer before false test =
          subst (TrailFits config) (sym (dealer_stays dealer facts (map (AtDealer number) entries)
          (other_trail dealer number test entries))) before

  pub desk_fits : (number : ℕ) (row : DealerRow) (event : DealerEvent) (duties : List Duty)
      → (TrailFits config (of_dealer number facts)
      → TrailFits config (of_dealer number facts
      ++ entries_of config.date row (of_dealer number facts) event))
      → AllFit config duties
      → EffectFits (at_dealer config facts (dealer_of number row) event duties)
  desk_fits number row event duties grows fit =
      at_fits number (entries_of config.date row (of_dealer number facts) event) duties grows fit

  pub dealer_fits : (number : ℕ) (action : Dealer → Effect)
      → ((row : DealerRow) → dealer_numbered config number ≡ Some row
      → EffectFits (action (dealer_of number row)))
      → EffectFits (done_by (dealer_at config number) action)
  dealer_fits number action fits = by_found (dealer_numbered config number) refl
    where
      by_found : (found : Option DealerRow) → dealer_numbered config number ≡ found
          → EffectFits (done_by (option_map (dealer_of number) found) action)
      by_found None found = nothing_fits
      by_found (Some row) found = fits row found

  pub acting_fits : (by : Actor) (action : Dealer → Effect)
      → ((number : ℕ) (row : DealerRow) → dealer_numbered config number ≡ Some row
      → EffectFits (action (dealer_of number row)))
      → EffectFits (done_by (acting_dealer config by) action)
  acting_fits (actor.Firm number) action fits = dealer_fits number action (fits number)
  acting_fits actor.Clock action fits = nothing_fits

  -- Effects at an investor.

  pub investor_fits : (firm : ℕ) (action : InvestorMarket → Effect)
      → ((row : InvestorRow) → investor_numbered config firm ≡ Some row
      → EffectFits (action (market_of config firm row)))
      → EffectFits (done_for (market_for config firm) action)
  investor_fits firm action fits = by_found (investor_numbered config firm) refl
    where
      by_found : (found : Option InvestorRow) → investor_numbered config firm ≡ found
          → EffectFits (done_for (option_map (market_of config firm) found) action)
      by_found None found = nothing_fits
      by_found (Some row) found = fits row found

  -- A hit: where it awards, the quote that has its word is lifted.

  lifts_fit : (word : ℕ) (hit : Option QuoteRef) → quote_with_word config word ≡ hit
      → (outcome : Result End HitRefusal) (dealer : ℕ) → TrailFits config (of_dealer dealer facts)
      → TrailFits config (of_dealer dealer (facts ++ lifting hit outcome))
  lifts_fit word None is outcome dealer before =
      subst (λ (l : List Fact). TrailFits config (of_dealer dealer l)) (sym (append-nil facts)) before
  lifts_fit word (Some hit) is (Err refused) dealer before =
      subst (λ (l : List Fact). TrailFits config (of_dealer dealer l)) (sym (append-nil facts)) before
  lifts_fit word (Some hit) is (Ok award) dealer before =
      let owned = owned_by 0 config.dealers word hit is in
      let within : (nat_le 1 hit.quote && nat_le hit.quote owned.row.quotes) ≡ true = owned.within in
      let most : owned.row.quotes ≤ 4096 = owned.row.quotes_to in
      let low : hit.quote ≤ owned.row.quotes = grind (arith, nat_tests) in
      let short : is_short hit.quote ≡ true = short_below hit.quote (omega arith) in
      (at_fits hit.dealer (Lifted hit.quote ∷ []) [] (λ own. lifted_fits config config.date
      owned.row (of_dealer hit.dealer facts) own hit.quote short) tt).trails dealer before

  pub hit_fits : (room : RoomRef) (response : ResponseRef) (word moment : ℕ)
      (settlement : Option Settled)
      → AllFit config (hit_with config facts room response word moment settlement).duties
      → EffectFits (hit_with config facts room response word moment settlement)
  hit_fits room response word moment settlement left =
      let known = of_room room facts in
      let outcome = hit_outcome known word moment settlement in
      let lifted = lifting (quote_with_word config word) outcome in
      let happened = event_facts known (at_room.Hit word moment settlement) in
      record {
        trails = λ dealer before.
            subst (TrailFits config)
            (sym (ap (of_dealer dealer) (sym (append_assoc facts lifted (map (InRoom room) happened)))
            ∙ dealer_stays dealer (facts ++ lifted) (map (InRoom room) happened)
            (trail_in_room dealer room happened)))
            (lifts_fit word (quote_with_word config word) refl outcome dealer before);
        duties = left;
      }
