-- The step that settled a word: a word that is not settled before a step, and settled after it, was
-- asked by that step.
use Rattle.std.proofs.Common.{◌≡◌, ℕ, ◌==◌, Bool, true, false, ◌||◌, List, [], ◌∷◌, ◌++◌, map}
use Rattle.std.proofs.Common.{Option, Some, None, option_map, is_some, inl, inr, refl, sym, ap, ◌∙◌}
use Rattle.std.proofs.Common.{subst, arith, if◌then◌else◌}
use Rattle.std.specs.Prelude.{Result, Ok, Err}
use Rattle.std.specs.List.{cons_option, list_any}
use Rattle.std.specs.Option.{option_to_list}
use Rattle.std.proofs.lemmas.Bool.{both_ways, cases_Bool, or_cases}
use Rattle.std.proofs.lemmas.Bool.Decides.{nat_tests}
use Rattle.std.proofs.lemmas.List.{append-nil, append_assoc}
use Rattle.std.proofs.lemmas.Option.{same_Some}
use Rattle.std.proofs.lemmas.List.Elements.{filter_map-append}
use Rattle.std.proofs.lemmas.List.Folds.{list_any-append}
use Rattle.std.proofs.lemmas.List.Sums.{fold-append}
use Rattle.market_terms.specs.declared.asks.Ask.{Ask}
use Rattle.market_terms.specs.declared.closes.Close.{Close}
use Rattle.market_terms.specs.declared.closes.HitRefusal.{HitRefusal}
use Rattle.market_terms.specs.declared.duties.Duty.{Duty}
use Rattle.market_terms.specs.declared.duties.Duty.TheVariants as duty
use Rattle.market_terms.specs.declared.rooms.ResponseRef.{ResponseRef}
use Rattle.market_terms.specs.declared.rooms.RoomRef.{RoomRef}
use Rattle.quote_word.specs.declared.settled.Settled.{Settled}
use Rattle.quote_word.specs.declared.settled.Settled.TheVariants as settled
use Rattle.venue_rows.specs.Rows.{Configuration, dealer_numbered}
use Rattle.venue_rows.specs.declared.dealer_rows.DealerRow.{DealerRow}
use Rattle.dealer_desk.specs.DealerFacts.{DealerFact, Quoted, Told, number_to_drop}
use Rattle.dealer_desk.specs.DealerOutput.{answer_facts, event_facts, goes_through, settled_facts}
use Rattle.dealer_desk.specs.DealerOutput.{shown_room, verdict_facts, word_asked}
use Rattle.dealer_desk.specs.DeskLaws.{withdraws}
use Rattle.dealer_desk.specs.declared.accepted.AcceptedQuote.{AcceptedQuote}
use Rattle.dealer_desk.specs.declared.events.DealerEvent.{DealerEvent}
use Rattle.dealer_desk.specs.declared.events.DealerEvent.TheVariants as at_desk
use Rattle.dealer_desk.specs.declared.standing.Withdrawal.{Withdrawal}
use Rattle.dealer_desk.specs.declared.standing.Withdrawal.TheVariants as by
use Rattle.dealer_desk.specs.declared.verdicts.DealerVerdict.{DealerVerdict}
use Rattle.dealer_desk.specs.declared.verdicts.DealerVerdict.TheVariants as verdict
use Rattle.venue_rows.specs.declared.investor_rows.InvestorRow.{InvestorRow}
use Rattle.investor_desk.specs.InvestorDesk.{market_of}
use Rattle.investor_desk.specs.InvestorRules.{InvestorMarket}
use Rattle.investor_desk.specs.declared.events.InvestorEvent.{InvestorEvent}
use Rattle.request_room.specs.Book.{award_of, hit_outcome, hit_refusal, word_or}
use Rattle.request_room.specs.Book.{event_facts as room_facts}
use Rattle.request_room.specs.RoomFacts.{RoomFact}
use Rattle.request_room.specs.declared.ends.End.{End}
use Rattle.request_room.specs.declared.events.RoomEvent.{RoomEvent}
use Rattle.request_room.specs.declared.events.RoomEvent.TheVariants as at_room
use Rattle.request_room.proofs.KeptLemmas.{refused_none}
use Rattle.venue_steps.specs.RoomSteps.{hit_word, word_asked_by}
use Rattle.venue_steps.specs.Dealers.{Dealer, QuoteRef, acting_dealer, dealer_of}
use Rattle.venue_steps.specs.Dealers.{quote_with_word}
use Rattle.venue_steps.specs.declared.actors.Actor.{Actor}
use Rattle.venue_steps.specs.declared.actors.Actor.TheVariants as actor
use Rattle.step_replay.specs.Actions.{Effect, answer_to_drop, answer_to_hit}
use Rattle.step_replay.specs.Actions.{at_dealer, at_market, done_by}
use Rattle.step_replay.specs.Actions.{left_by, left_by_drop}
use Rattle.step_replay.specs.Actions.{drop_at, dropped_by, hit_in, lifting}
use Rattle.step_replay.specs.Actions.{nothing, quote_asked, received_by_dealer}
use Rattle.step_replay.specs.Actions.{received_by_investor, settlement_of, verdict_on}
use Rattle.step_replay.specs.AuditTrail.{AuditTrail, after_step, after_turn, audit_trail, no_steps}
use Rattle.step_replay.specs.AuditTrail.{pending}
use Rattle.step_replay.specs.DealerTrail.{DealerEntry, Lifted, book_by, entries_of, fact_in, facts_of, lifts}
use Rattle.step_replay.specs.DealerTrail.{message_by, was_lifted, was_withdrawn}
use Rattle.step_replay.specs.DutyEffects.{duty_effect, message_effect, sweep_effect}
use Rattle.step_replay.specs.PlaceLemmas.{dealer_grown, dealer_stays, other_trail, own_trail, trail_at_investor}
use Rattle.step_replay.specs.PlaceLemmas.{trail_in_room}
use Rattle.step_replay.specs.TrailLemmas.{facts_added, lifts_none}
use Rattle.step_replay.specs.VenueFacts.{AtDealer, Fact, InRoom, of_dealer, of_room}
use Rattle.step_replay.specs.declared.steps.Step.{Step}
use Rattle.step_replay.specs.declared.steps.Step.TheVariants as step
use Rattle.laws_days.specs.ActionCases.{if_does, invested_does, message_of, numbered_does}
use Rattle.laws_days.specs.DutyWalk.{AnyInvestor, AnyRoom, DealerMay, NoHitThere, RoomMay, Walks}
use Rattle.laws_days.specs.DutyWalk.{any_investor, any_room, duty_walks, sweep_walks}
use Rattle.laws_days.specs.AskedWords.{HasStep, IsAskedBy, IsDropped, IsHit, WouldLift}
use Rattle.laws_days.specs.AskedWords.{WouldWithdraw}

-- what is so and is not so
never : {A : Type 0} (b : Bool) → b ≡ false → b ≡ true → A
never b isnt is = absurd (both_ways b isnt is)

-- What comes to be in a day comes by a step of it.
module _ (config : Configuration) (Q : AuditTrail → Bool) (P : AuditTrail → Step → Type 0)
    (each : (venue : AuditTrail) (now : Step) → Q venue ≡ false
    → Q (after_step config venue now) ≡ true → P venue now) where
  one_more : (before : List Step) (now : Step)
      → audit_trail config (before ++ now ∷ []) ≡ after_step config (audit_trail config before) now
  unfolding audit_trail
  one_more before now = fold-append (after_step config) no_steps before (now ∷ [])

  found_in : (before later : List Step) → Q (audit_trail config before) ≡ false
      → Q (audit_trail config (before ++ later)) ≡ true → HasStep config (before ++ later) P
  found_in before [] isnt is =
      never (Q (audit_trail config before)) isnt
      (subst (λ (l : List Step). Q (audit_trail config l) ≡ true) (append-nil before) is)
  found_in before (now ∷ later) isnt is =
      elim (cases_Bool (Q (audit_trail config (before ++ now ∷ [])))) [
        | inl here ↦ record {
          before = before;
          now = now;
          after = later;
          parts = refl;
          is_so = each (audit_trail config before) now isnt (rw (one_more before now) at here);
        }
        | inr still ↦
            let same = append_assoc before (now ∷ []) later in
            subst (λ (l : List Step). HasStep config l P) same
            (found_in (before ++ now ∷ []) later still
            (subst (λ (l : List Step). Q (audit_trail config l) ≡ true) (sym same) is))
      ]

  pub found : Q no_steps ≡ false → (steps : List Step) → Q (audit_trail config steps) ≡ true
      → HasStep config steps P
  unfolding audit_trail
  found none steps is = found_in [] steps none is

module _ (config : Configuration) (own quote : ℕ) where
  -- what an effect says of the dealer's quote
  abbrev withdraws_it : Effect → Bool
  withdraws_it effect = was_withdrawn (of_dealer own effect.facts) quote

  abbrev lifts_it : Effect → Bool
  lifts_it effect = was_lifted (of_dealer own effect.facts) quote

  -- it settles it in no way
  record Leaves (effect : Effect) : Type 0 where
    pub stays : withdraws_it effect ≡ false
    pub keeps : lifts_it effect ≡ false

  nothing_leaves : Leaves nothing
  unfolding of_dealer
  nothing_leaves = record { stays = refl; keeps = refl }

  -- what adds nothing to the dealer's trail
  elsewhere : (effect : Effect) → of_dealer own effect.facts ≡ [] → Leaves effect
  elsewhere effect is = record { stays = rw is refl; keeps = rw is refl }

  market_leaves : (facts : List Fact) (market : InvestorMarket) (event : InvestorEvent)
      (duties : List Duty) → Leaves (at_market facts market event duties)
  market_leaves facts market event duties =
      elsewhere (at_market facts market event duties) (trail_at_investor own market.firm _)

  -- At a dealer's desk.

  -- an event lifts nothing, and withdraws what its facts withdraw
  event_lifts : (date : List ℕ) (row : DealerRow) (trail : List DealerEntry) (event : DealerEvent)
      → was_lifted (entries_of date row trail event) quote ≡ false
  unfolding entries_of
  event_lifts date row trail event =
      lifts_none (event_facts date row (book_by trail) event) (option_to_list (shown_room event))
      (option_to_list (message_by date row trail event)) quote

  event_withdraws : (date : List ℕ) (row : DealerRow) (trail : List DealerEntry)
      (event : DealerEvent) → was_withdrawn (entries_of date row trail event) quote
      ≡ list_any (withdraws quote) (event_facts date row (book_by trail) event)
  unfolding entries_of
  event_withdraws date row trail event =
      ap (list_any (withdraws quote))
      (facts_added (event_facts date row (book_by trail) event)
      (option_to_list (shown_room event)) (option_to_list (message_by date row trail event)))

  module _ (facts : List Fact) where
    desk_lifts : (dealer : Dealer) (event : DealerEvent) (duties : List Duty)
        → lifts_it (at_dealer config facts dealer event duties) ≡ false
    desk_lifts dealer event duties =
        let entries = entries_of config.date dealer.row (of_dealer dealer.number facts) event in
        elim (cases_Bool (dealer.number == own)) [
          | inl is ↦
              let same : dealer.number ≡ own = grind (arith, nat_tests) in
              rw (subst (λ (n : ℕ). of_dealer own (map (AtDealer n) entries) ≡ entries) (sym same)
              (own_trail own entries))
              (event_lifts config.date dealer.row (of_dealer dealer.number facts) event)
          | inr isnt ↦ rw (other_trail own dealer.number isnt entries) refl
        ]

    -- an event at the dealer's own desk withdraws the quote, where any does
    desk_withdraws : (dealer : Dealer) (event : DealerEvent) (duties : List Duty)
        → withdraws_it (at_dealer config facts dealer event duties) ≡ true
        → (dealer.number ≡ own) × (list_any (withdraws quote)
        (event_facts config.date dealer.row (book_by (of_dealer dealer.number facts)) event) ≡ true)
    desk_withdraws dealer event duties is =
        let trail = of_dealer dealer.number facts in
        let entries = entries_of config.date dealer.row trail event in
        elim (cases_Bool (dealer.number == own)) [
          | inl test ↦
              let same : dealer.number ≡ own = grind (arith, nat_tests) in (
                same,
                sym (event_withdraws config.date dealer.row trail event)
                    ∙ ap (λ (l : List DealerEntry). was_withdrawn l quote)
                    (sym (subst (λ (n : ℕ). of_dealer own (map (AtDealer n) entries) ≡ entries) (sym same)
                    (own_trail own entries))) ∙ is,
              )
          | inr isnt ↦
              never (withdraws_it (at_dealer config facts dealer event duties))
              (ap (λ (l : List DealerEntry). was_withdrawn l quote)
              (other_trail own dealer.number isnt entries)) is
        ]

    -- an event whose facts withdraw nothing
    desk_leaves : (dealer : Dealer) (event : DealerEvent) (duties : List Duty)
        → list_any (withdraws quote)
        (event_facts config.date dealer.row (book_by (of_dealer dealer.number facts)) event) ≡ false
        → Leaves (at_dealer config facts dealer event duties)
    desk_leaves dealer event duties none = record {
      stays = elim (cases_Bool (withdraws_it (at_dealer config facts dealer event duties))) [
        | inl is ↦ never (list_any (withdraws quote) (event_facts config.date dealer.row
            (book_by (of_dealer dealer.number facts)) event)) none
            (desk_withdraws dealer event duties is).1
        | inr isnt ↦ isnt
      ];
      keeps = desk_lifts dealer event duties;
    }

    shown_leaves : (room : RoomRef) (ask : Ask) (moment : ℕ) (dealer : Dealer)
        → Leaves (at_dealer config facts dealer (at_desk.Shown room ask moment) [])
    unfolding event_facts
    shown_leaves room ask moment dealer =
        desk_leaves dealer (at_desk.Shown room ask moment) [] refl

    told_leaves : (number : ℕ) (close : Close) (moment : ℕ) (dealer : Dealer)
        → Leaves (at_dealer config facts dealer (at_desk.Told number close moment) [])
    unfolding event_facts
    told_leaves number close moment dealer =
        desk_leaves dealer (at_desk.Told number close moment) [] (by_test _)
      where
        by_test : (b : Bool) → list_any (withdraws quote)
            (if b then Told number close moment ∷ [] else []) ≡ false
        by_test true = refl
        by_test false = refl

  -- A message of a dealer withdraws the quote whose word its verdict asks, and a drop the quote that
  -- it takes.

  answer_withdraws : (asked : ℕ) (how : Withdrawal) (settlement : Option Settled)
      → list_any (withdraws quote) (answer_facts asked how settlement) ≡ true → asked ≡ quote
  answer_withdraws asked how (Some settled.Withdrawn) is =
      elim (or_cases (asked == quote) false is) [
        | inl test ↦ grind (arith, nat_tests)
        | inr untrue ↦ cc
      ]
  answer_withdraws asked how (Some settled.Lifted) is = cc
  answer_withdraws asked how None is = cc

  settled_withdraws : (asked : Option ℕ) (how : Withdrawal) (settlement : Option Settled)
      → list_any (withdraws quote) (settled_facts asked how settlement) ≡ true
      → asked ≡ Some quote
  settled_withdraws None how settlement is = cc
  settled_withdraws (Some asked) how settlement is =
      ap (λ (n : ℕ). Some n) (answer_withdraws asked how settlement is)

  quoted_none : (b : Bool) (accepted : AcceptedQuote)
      → list_any (withdraws quote) (if b then Quoted accepted ∷ [] else []) ≡ false
  quoted_none true accepted = refl
  quoted_none false accepted = refl

  verdict_asks : (v : DealerVerdict) (settlement : Option Settled)
      → list_any (withdraws quote) (verdict_facts v settlement) ≡ true
      → word_asked v ≡ Some quote
  verdict_asks (verdict.QuoteAccepted request id accepted replaced) settlement is =
      let put : List DealerFact =
      if goes_through replaced settlement then Quoted accepted ∷ [] else [] in
      elim (or_cases (list_any (withdraws quote) (settled_facts replaced by.Replacement settlement))
      (list_any (withdraws quote) put)
      (sym (list_any-append (withdraws quote) (settled_facts replaced by.Replacement settlement) put)
      ∙ is)) [
        | inl found ↦ settled_withdraws replaced by.Replacement settlement found
        | inr other ↦ never (list_any (withdraws quote) put)
            (quoted_none (goes_through replaced settlement) accepted) other
      ]
  verdict_asks (verdict.CancelAccepted id asked request) settlement is =
      ap (λ (n : ℕ). Some n) (answer_withdraws asked by.Cancel settlement is)
  verdict_asks (verdict.DeclineAccepted request number) settlement is = cc
  verdict_asks other settlement is = cc

  module _ (venue : AuditTrail) where
    abbrev facts : List Fact
    facts = venue.facts

    -- a message of an investor
    taken_leaves : (firm moment : ℕ) (bytes : List ℕ) (row : InvestorRow)
        → Leaves (received_by_investor facts moment bytes (market_of config firm row))
    taken_leaves firm moment bytes row = market_leaves facts _ _ _

    -- a message of a dealer lifts nothing
    said_lifts : (firm moment : ℕ) (bytes : List ℕ) (row : DealerRow)
        → lifts_it (received_by_dealer config facts moment bytes (dealer_of firm row)) ≡ false
    said_lifts firm moment bytes row =
        if_does (λ (effect : Effect). lifts_it effect ≡ false) nothing_leaves.keeps _ _
        (desk_lifts facts (dealer_of firm row) _
        (left_by (of_dealer firm facts) moment
        (verdict_on config facts moment bytes (dealer_of firm row))))

    module _ (row : DealerRow) (is_row : dealer_numbered config own ≡ Some row) where
      -- an effect that withdraws the quote is that of a message which asks it
      abbrev IfAsked : ℕ → ℕ → List ℕ → Effect → Type 0
      IfAsked firm moment bytes effect =
          withdraws_it effect ≡ true → IsAskedBy config own quote venue row firm moment bytes

      said_by : (firm moment : ℕ) (bytes : List ℕ) (other : DealerRow)
          → dealer_numbered config firm ≡ Some other
          → IfAsked firm moment bytes
          (received_by_dealer config facts moment bytes (dealer_of firm other))
      unfolding event_facts
      said_by firm moment bytes other is =
          if_does (IfAsked firm moment bytes) (λ none. never _ nothing_leaves.stays none) _ _
          (λ found.
          let v = verdict_on config facts moment bytes (dealer_of firm other) in
          let withdrawn = desk_withdraws facts (dealer_of firm other)
          (at_desk.Received moment bytes (settlement_of (of_dealer firm facts) v))
          (left_by (of_dealer firm facts) moment v) found in
          let rows : other ≡ row = same_Some other row
          (sym is ∙ ap (dealer_numbered config) withdrawn.0 ∙ is_row) in
          record {
            firm_is = withdrawn.0;
            asks = subst
                (λ (d : Dealer). word_asked (verdict_on config facts moment bytes d) ≡ Some quote)
                (ap (λ (n : ℕ). dealer_of n other) withdrawn.0 ∙ ap (dealer_of own) rows)
                (verdict_asks v (settlement_of (of_dealer firm facts) v) withdrawn.1);
          })

      message_asks : (firm moment : ℕ) (bytes : List ℕ)
          → IfAsked firm moment bytes (message_effect config facts firm moment bytes)
      unfolding message_effect
      message_asks firm moment bytes = either (is_some (dealer_numbered config firm))
        where
          either : (b : Bool)
              → IfAsked firm moment bytes (message_of config facts firm moment bytes b)
          either true =
              numbered_does (IfAsked firm moment bytes)
              (λ none. never _ nothing_leaves.stays none) config firm
              (received_by_dealer config facts moment bytes) (said_by firm moment bytes)
          either false =
              invested_does (IfAsked firm moment bytes)
              (λ none. never _ nothing_leaves.stays none) config firm
              (received_by_investor facts moment bytes)
              (λ other found. never _ (taken_leaves firm moment bytes other).stays found)

    -- what a duty that withdraws or lifts the quote is
    abbrev IsDropBy : Actor → Duty → Type 0
    IsDropBy by (duty.Drop last moment) =
        (by ≡ actor.Firm own) × (number_to_drop (book_by (of_dealer own facts)) last ≡ Some quote)
    IsDropBy by other = ⊥

    abbrev IsHitBy : Duty → Type 0
    IsHitBy (duty.Hit room response word moment) =
        quote_asked config (hit_word (of_room room facts) word moment)
        ≡ Some (record { dealer = own; quote = quote })
    IsHitBy other = ⊥

    record IfSettles (by : Actor) (left : Duty) (effect : Effect) : Type 0 where
      pub withdraws : withdraws_it effect ≡ true → IsDropBy by left
      pub lifts : lifts_it effect ≡ true → IsHitBy left

    leaving : (by : Actor) (left : Duty) (effect : Effect) → Leaves effect
        → IfSettles by left effect
    leaving by left effect leaves = record {
      withdraws = λ found. never (withdraws_it effect) leaves.stays found;
      lifts = λ found. never (lifts_it effect) leaves.keeps found;
    }

    -- Drops.

    dropped_is : (number last moment : ℕ) (row : DealerRow)
        → IfSettles (actor.Firm number) (duty.Drop last moment)
        (dropped_by config facts last moment (dealer_of number row))
    unfolding event_facts
    dropped_is number last moment row =
        if_does (IfSettles (actor.Firm number) (duty.Drop last moment))
        (leaving (actor.Firm number) (duty.Drop last moment) nothing nothing_leaves) _ _ (record {
          withdraws = λ found.
              let withdrawn = desk_withdraws facts (dealer_of number row)
              (drop_at (of_dealer number facts) last moment)
              (left_by_drop config facts last moment (dealer_of number row)) found in (
                ap (λ (n : ℕ). actor.Firm n) withdrawn.0,
                subst
                    (λ (n : ℕ). number_to_drop (book_by (of_dealer n facts)) last ≡ Some quote) withdrawn.0
                    (settled_withdraws (number_to_drop (book_by (of_dealer number facts)) last) by.Cancel
                    (answer_to_drop (of_dealer number facts) last) withdrawn.1),
              );
          lifts = λ found. never _
              (desk_lifts facts (dealer_of number row)
              (drop_at (of_dealer number facts) last moment)
              (left_by_drop config facts last moment (dealer_of number row))) found;
        })

    drop_is : (by : Actor) (last moment : ℕ) → IfSettles by (duty.Drop last moment)
        (done_by (acting_dealer config by) (dropped_by config facts last moment))
    drop_is (actor.Firm number) last moment =
        numbered_does (IfSettles (actor.Firm number) (duty.Drop last moment))
        (leaving (actor.Firm number) (duty.Drop last moment) nothing nothing_leaves) config number
        (dropped_by config facts last moment) (λ row is. dropped_is number last moment row)
    drop_is actor.Clock last moment =
        leaving actor.Clock (duty.Drop last moment) nothing nothing_leaves

    -- Hits.

    abbrev this : QuoteRef
    this = record { dealer = own; quote = quote }

    lifting_withdraws : (hit : Option QuoteRef) (outcome : Result End HitRefusal)
        → was_withdrawn (of_dealer own (lifting hit outcome)) quote ≡ false
    unfolding of_dealer
    lifting_withdraws (Some hit) (Ok award) = by_test (hit.dealer == own)
      where
        by_test : (b : Bool) → list_any (withdraws quote) (facts_of
            (cons_option (if b then Some (Lifted hit.quote) else None) []))
            ≡ false
        by_test true = refl
        by_test false = refl
    lifting_withdraws (Some hit) (Err refused) = refl
    lifting_withdraws None outcome = refl

    lifting_lifts : (hit : Option QuoteRef) (outcome : Result End HitRefusal)
        → was_lifted (of_dealer own (lifting hit outcome)) quote ≡ true
        → (hit ≡ Some this) × ((award : End) × (outcome ≡ Ok award))
    unfolding of_dealer
    lifting_lifts (Some hit) (Ok award) is = by_test (hit.dealer == own) refl is
      where
        by_test : (b : Bool) → (hit.dealer == own) ≡ b
            → list_any (lifts quote) (cons_option (if b then Some (Lifted hit.quote) else None) [])
            ≡ true → (Some hit ≡ Some this)
            × ((given : End) × (◌≡◌ {A = Result End HitRefusal} (Ok award) (Ok given)))
        by_test true test some =
            let dealer_is : hit.dealer ≡ own = grind (arith, nat_tests) in
            let quote_is : hit.quote ≡ quote = elim (or_cases (hit.quote == quote) false some) [
              | inl same ↦ grind (arith, nat_tests)
              | inr untrue ↦ cc
            ] in (
              ap (λ (n : ℕ). Some (record { dealer = n; quote = hit.quote })) dealer_is
                  ∙ ap (λ (n : ℕ). Some (record { dealer = own; quote = n })) quote_is,
              (award, refl),
            )
        by_test false test some = cc
    lifting_lifts (Some hit) (Err refused) is = cc
    lifting_lifts None (Ok award) is = cc
    lifting_lifts None (Err refused) is = cc

    -- a hit that awards asks the word that it names
    asks_its_word : (room : RoomRef) (word moment : ℕ) (settlement : Option Settled) (award : End)
        → hit_outcome (of_room room facts) word moment settlement ≡ Ok award
        → hit_word (of_room room facts) word moment ≡ Some word
    asks_its_word room word moment settlement award is =
        let known = of_room room facts in
        ap (λ (refused : Option HitRefusal). word_asked_by (word_or word refused))
        (refused_none (hit_refusal known word moment) settlement (award_of known word) award is)

    hit_is : (by : Actor) (room : RoomRef) (response : ResponseRef) (word moment : ℕ)
        → IfSettles by (duty.Hit room response word moment)
        (hit_in config facts room response word moment)
    hit_is by room response word moment =
        if_does (IfSettles by (duty.Hit room response word moment))
        (leaving by (duty.Hit room response word moment) nothing nothing_leaves) _ _ (record {
          withdraws = λ found. never _
              (ap (λ (l : List DealerEntry). was_withdrawn l quote) trail_is
              ∙ lifting_withdraws hit outcome) found;
          lifts = λ found.
              let lifted = lifting_lifts hit outcome
              (ap (λ (l : List DealerEntry). was_lifted l quote) (sym trail_is) ∙ found) in
              ap (quote_asked config)
              (asks_its_word room word moment settlement lifted.1.0 lifted.1.1) ∙ lifted.0;
        })
      where
        known : List RoomFact
        known = of_room room facts

        hit : Option QuoteRef
        hit = quote_with_word config word

        settlement : Option Settled
        settlement = option_map (answer_to_hit facts) (quote_asked config (hit_word known word moment))

        outcome : Result End HitRefusal
        outcome = hit_outcome known word moment settlement

        happened : List Fact
        happened = map (InRoom room)
            (room_facts known (at_room.Hit word moment settlement))

        trail_is : of_dealer own (lifting hit outcome ++ happened)
            ≡ of_dealer own (lifting hit outcome)
        trail_is = dealer_stays own (lifting hit outcome) happened (trail_in_room own room _)

    -- All duties: any but a drop and a hit settles it in no way.

    abbrev DealerLeaves : ℕ → DealerRow → DealerEvent → List Duty → Type 0
    DealerLeaves number row event left =
        Leaves (at_dealer config facts (dealer_of number row) event left)

    abbrev RoomLeaves : RoomRef → RoomEvent → List Duty → Type 0
    RoomLeaves room event left = NoHitThere event

    walks : Walks DealerLeaves AnyInvestor RoomLeaves config facts Leaves
    walks = record {
      idle = nothing_leaves;
      at_a_dealer = λ number row found event left leaves. leaves;
      at_an_investor = λ number row found event any.
          market_leaves facts (market_of config number row) event [];
      in_a_room = λ room there event no_hit left is. elsewhere _ (trail_in_room own room _);
      by_a_hit = λ room there response word moment is. absurd is;
    }

    walked : (by : Actor) (left : Duty) → DealerMay DealerLeaves config facts by left
        → RoomMay RoomLeaves config facts by left
        → IfSettles by left (duty_effect config facts by left)
    walked by left at_dealers in_rooms =
        leaving by left (duty_effect config facts by left)
        (duty_walks DealerLeaves AnyInvestor RoomLeaves config facts Leaves walks by left at_dealers
        (any_investor AnyInvestor config by left (λ number row event at. tt)) in_rooms)

    duty_is : (by : Actor) (left : Duty) → IfSettles by left (duty_effect config facts by left)
    unfolding duty_effect
    duty_is by (duty.Show dealer room ask moment) =
        walked by (duty.Show dealer room ask moment)
        (λ row found none. shown_leaves facts room ask moment (dealer_of dealer row)) tt
    duty_is by (duty.Hit room response word moment) = hit_is by room response word moment
    duty_is by (duty.Tell dealer room close moment) =
        walked by (duty.Tell dealer room close moment)
        (λ row found request there may.
        told_leaves facts request close moment (dealer_of dealer row)) tt
    duty_is by (duty.Drop last moment) = drop_is by last moment
    duty_is by other =
        walked by other tt (any_room AnyRoom config facts by other (λ room event left at. tt))

    -- What the oldest duty of an actor is.

    to_dropped : (by : Actor) (left : Duty) (rest : List Duty) → pending by venue ≡ left ∷ rest
        → IsDropBy by left → IsDropped config own quote venue by
    to_dropped by (duty.Drop last moment) rest is drop = record {
      last = last;
      moment = moment;
      rest = rest;
      by_is = drop.0;
      duty_is = is;
      takes = drop.1;
    }
    to_dropped by other rest is drop = absurd drop

    to_hit : (by : Actor) (left : Duty) (rest : List Duty) → pending by venue ≡ left ∷ rest
        → IsHitBy left → IsHit config own quote venue by
    to_hit by (duty.Hit room response word moment) rest is hit = record {
      room = room;
      response = response;
      word = word;
      moment = moment;
      rest = rest;
      duty_is = is;
      asks = hit;
    }
    to_hit by other rest is hit = absurd hit

    -- What is new after a step, its effect brought.

    grown_withdraws : (more : List Fact) → was_withdrawn (of_dealer own facts) quote ≡ false
        → was_withdrawn (of_dealer own (facts ++ more)) quote ≡ true
        → was_withdrawn (of_dealer own more) quote ≡ true
    grown_withdraws more isnt is =
        let one = of_dealer own facts in
        let other = of_dealer own more in
        let parts : was_withdrawn (of_dealer own (facts ++ more)) quote
        ≡ (was_withdrawn one quote || was_withdrawn other quote) =
        ap (λ (l : List DealerEntry). was_withdrawn l quote) (dealer_grown own facts more)
        ∙ ap (list_any (withdraws quote)) (filter_map-append fact_in one other)
        ∙ list_any-append (withdraws quote) (facts_of one) (facts_of other) in
        elim (or_cases (was_withdrawn one quote) (was_withdrawn other quote) (sym parts ∙ is)) [
          | inl before ↦ never (was_withdrawn one quote) isnt before
          | inr now ↦ now
        ]

    grown_lifts : (more : List Fact) → was_lifted (of_dealer own facts) quote ≡ false
        → was_lifted (of_dealer own (facts ++ more)) quote ≡ true
        → was_lifted (of_dealer own more) quote ≡ true
    grown_lifts more isnt is =
        let one = of_dealer own facts in
        let other = of_dealer own more in
        let parts : was_lifted (of_dealer own (facts ++ more)) quote
        ≡ (was_lifted one quote || was_lifted other quote) =
        ap (λ (l : List DealerEntry). was_lifted l quote) (dealer_grown own facts more)
        ∙ list_any-append (lifts quote) one other in
        elim (or_cases (was_lifted one quote) (was_lifted other quote) (sym parts ∙ is)) [
          | inl before ↦ never (was_lifted one quote) isnt before
          | inr now ↦ now
        ]

    -- Steps.

    turn_withdraws : (by : Actor) → was_withdrawn (of_dealer own facts) quote ≡ false
        → was_withdrawn (of_dealer own (after_turn config by venue (pending by venue)).facts) quote
        ≡ true → IsDropped config own quote venue by
    turn_withdraws by isnt is = by_pending (pending by venue) refl is
      where
        by_pending : (duties : List Duty) → pending by venue ≡ duties
            → was_withdrawn (of_dealer own (after_turn config by venue duties).facts) quote ≡ true
            → IsDropped config own quote venue by
        by_pending [] are new = never _ isnt new
        by_pending (left ∷ rest) are new =
            to_dropped by left rest are ((duty_is by left).withdraws
            (grown_withdraws (duty_effect config facts by left).facts isnt new))

    turn_lifts : (by : Actor) → was_lifted (of_dealer own facts) quote ≡ false
        → was_lifted (of_dealer own (after_turn config by venue (pending by venue)).facts) quote
        ≡ true → IsHit config own quote venue by
    turn_lifts by isnt is = by_pending (pending by venue) refl is
      where
        by_pending : (duties : List Duty) → pending by venue ≡ duties
            → was_lifted (of_dealer own (after_turn config by venue duties).facts) quote ≡ true
            → IsHit config own quote venue by
        by_pending [] are new = never _ isnt new
        by_pending (left ∷ rest) are new =
            to_hit by left rest are ((duty_is by left).lifts
            (grown_lifts (duty_effect config facts by left).facts isnt new))

    sweep_leaves : (room : RoomRef) (moment : ℕ) → Leaves (sweep_effect config facts room moment)
    sweep_leaves room moment =
        sweep_walks DealerLeaves AnyInvestor RoomLeaves config facts Leaves walks room moment tt

    message_lifts : (firm moment : ℕ) (bytes : List ℕ)
        → lifts_it (message_effect config facts firm moment bytes) ≡ false
    unfolding message_effect
    message_lifts firm moment bytes = either (is_some (dealer_numbered config firm))
      where
        Keeps : Effect → Type 0
        Keeps effect = lifts_it effect ≡ false

        either : (b : Bool) → Keeps (message_of config facts firm moment bytes b)
        either true =
            numbered_does Keeps nothing_leaves.keeps config firm
            (received_by_dealer config facts moment bytes)
            (λ row is. said_lifts firm moment bytes row)
        either false =
            invested_does Keeps nothing_leaves.keeps config firm
            (received_by_investor facts moment bytes)
            (λ row. (taken_leaves firm moment bytes row).keeps)

    step_withdraws : (row : DealerRow) → dealer_numbered config own ≡ Some row → (now : Step)
        → was_withdrawn (of_dealer own facts) quote ≡ false
        → was_withdrawn (of_dealer own (after_step config venue now).facts) quote ≡ true
        → WouldWithdraw config own row quote venue now
    unfolding after_step
    step_withdraws row is_row (step.In firm moment bytes) isnt is =
        message_asks row is_row firm moment bytes
        (grown_withdraws (message_effect config facts firm moment bytes).facts isnt is)
    step_withdraws row is_row (step.Turn by) isnt is = turn_withdraws by isnt is
    step_withdraws row is_row (step.Expire room moment) isnt is =
        never _ (sweep_leaves room moment).stays
        (grown_withdraws (sweep_effect config facts room moment).facts isnt is)

    step_lifts : (now : Step) → was_lifted (of_dealer own facts) quote ≡ false
        → was_lifted (of_dealer own (after_step config venue now).facts) quote ≡ true
        → WouldLift config own quote venue now
    unfolding after_step
    step_lifts (step.In firm moment bytes) isnt is =
        never _ (message_lifts firm moment bytes)
        (grown_lifts (message_effect config facts firm moment bytes).facts isnt is)
    step_lifts (step.Turn by) isnt is = turn_lifts by isnt is
    step_lifts (step.Expire room moment) isnt is =
        never _ (sweep_leaves room moment).keeps
        (grown_lifts (sweep_effect config facts room moment).facts isnt is)

pub withdrawn_by : (config : Configuration) (steps : List Step) (dealer : ℕ) (row : DealerRow)
    (quote : ℕ) → dealer_numbered config dealer ≡ Some row
    → was_withdrawn (of_dealer dealer (audit_trail config steps).facts) quote ≡ true
    → HasStep config steps (WouldWithdraw config dealer row quote)
unfolding of_dealer
withdrawn_by config steps dealer row quote is_row is =
    found config (λ (venue : AuditTrail). was_withdrawn (of_dealer dealer venue.facts) quote)
    (WouldWithdraw config dealer row quote)
    (λ venue now. step_withdraws config dealer quote venue row is_row now) refl steps is

pub lifted_by : (config : Configuration) (steps : List Step) (dealer quote : ℕ)
    → was_lifted (of_dealer dealer (audit_trail config steps).facts) quote ≡ true
    → HasStep config steps (WouldLift config dealer quote)
unfolding of_dealer
lifted_by config steps dealer quote is =
    found config (λ (venue : AuditTrail). was_lifted (of_dealer dealer venue.facts) quote)
    (WouldLift config dealer quote) (λ venue now. step_lifts config dealer quote venue now) refl steps
    is
