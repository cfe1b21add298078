-- After every list of steps each quote that an investor was shown has a short number: of each
-- dealer it was shown, or is yet to be shown, no more quotes than were accepted.
use Rattle.std.proofs.Common.{◌≡◌, ◌≤◌, ℕ, ◌+◌, Bool, true, false, List, [], ◌∷◌, ◌++◌, length, map}
use Rattle.std.proofs.Common.{filter_map, count_by, Some, refl, sym, ap, ◌∙◌, subst, arith}
use Rattle.std.proofs.lemmas.List.{length-append}
use Rattle.std.proofs.lemmas.List.Elements.{filter_map-append}
use Rattle.market_terms.specs.declared.duties.Duty.{Duty}
use Rattle.venue_rows.specs.Rows.{Configuration, KeepsLimits, dealer_numbered}
use Rattle.venue_rows.specs.declared.dealer_rows.DealerRow.{DealerRow}
use Rattle.dealer_desk.specs.DealerFacts.{book_of, quotes_accepted}
use Rattle.dealer_desk.specs.DealerOutput.{DeskState}
use Rattle.investor_desk.specs.InvestorFacts.{InvestorFact, Offered, offers_shown}
use Rattle.venue_steps.specs.declared.actors.Actor.{Actor}
use Rattle.venue_steps.specs.declared.actors.Actor.TheVariants as actor
use Rattle.step_replay.specs.Actions.{Effect}
use Rattle.step_replay.specs.AuditTrail.{AuditTrail, Caused, duty_of, is_same_actor, pending, with_effect}
use Rattle.step_replay.specs.DealerTrail as dealer_trail
use Rattle.step_replay.specs.EachLemmas.{every_both, every_weaker}
use Rattle.step_replay.specs.Lists.{Every}
use Rattle.step_replay.specs.PlaceLemmas.{dealer_grown}
use Rattle.step_replay.specs.QueueLemmas.{one_actor, other_pending, other_turned, other_within}
use Rattle.step_replay.specs.QueueLemmas.{own_pending, own_turned, own_within, same_either, turned}
use Rattle.step_replay.specs.SeenLemmas.{Seen}
use Rattle.step_replay.specs.VenueFacts.{Fact, of_dealer}
use Rattle.laws_dues.proofs.SayableEffects.{AcceptsFew}
use Rattle.laws_dues.proofs.DealerNames.{none_brought, taken_more}
use Rattle.laws_dues.proofs.NumberedActions.{no_quote, quoted_at}
use Rattle.laws_dues.proofs.NumberedDesks.{FactNumbers}
use Rattle.laws_dues.proofs.NumberedDuties.{DutyNumbers, brings, is_quoting, leaves}
use Rattle.laws_dues.proofs.NumberedEffects.{EffectNumbers, book_at, desk_facts, desk_grown}
use Rattle.laws_dues.proofs.OfferCounts.{OfferBy, bit, count, count_append, few_offers}
use Rattle.laws_dues.proofs.OfferCounts.{is_offer_of, is_quoted, quotes_are}

-- Lists.

every_mapped : {A B : Type 0} (P : B → Type 0) (f : A → B) (xs : List A)
    → Every (λ x. P (f x)) xs → Every P (map f xs)
every_mapped P f [] all = tt
every_mapped P f (x ∷ xs) all = (all.0, every_mapped P f xs all.1)

-- Counts by more facts.

offered_grown : (facts more : List Fact) (investor : ℕ) (name : List ℕ)
    → count (is_offer_of name) (desk_facts (facts ++ more) investor)
    ≡ count (is_offer_of name) (desk_facts facts investor)
    + count (is_offer_of name) (desk_facts more investor)
offered_grown facts more investor name =
    ap (count (is_offer_of name)) (desk_grown facts more investor)
    ∙ count_append (is_offer_of name) (desk_facts facts investor) (desk_facts more investor)

quoted_grown : (facts more : List Fact) (dealer : ℕ)
    → quoted_at (facts ++ more) dealer ≡ quoted_at facts dealer + quoted_at more dealer
quoted_grown facts more dealer =
    ap (λ l. count is_quoted (dealer_trail.facts_of l)) (dealer_grown dealer facts more)
    ∙ ap (count is_quoted) (filter_map-append dealer_trail.fact_in (of_dealer dealer facts)
    (of_dealer dealer more))
    ∙ count_append is_quoted (dealer_trail.facts_of (of_dealer dealer facts))
    (dealer_trail.facts_of (of_dealer dealer more))

offer_by : (rows : List DealerRow) (fact : InvestorFact) → FactNumbers rows fact → OfferBy rows fact
offer_by rows (Offered shown) numbers = numbers.0
offer_by rows fact numbers = tt

abbrev left_by : Actor → List Duty → List Caused
left_by by duties = map (λ duty. record { by = by; duty = duty }) duties

module _ (config : Configuration) (limits : KeepsLimits config) (accepts : AcceptsFew) where
  -- no more quotes of a dealer were shown, or are to be, than were accepted
  abbrev FewIn : AuditTrail → Type 0
  FewIn venue = (investor dealer : ℕ) (row : DealerRow)
      → dealer_numbered config dealer ≡ Some row
      → count (is_offer_of row.name) (desk_facts venue.facts investor)
      + count is_quoting (pending (actor.Firm dealer) venue) ≤ quoted_at venue.facts dealer

  -- no actor did more than was left to it
  abbrev WithinIn : AuditTrail → Type 0
  WithinIn venue = (by : Actor)
      → count_by (is_same_actor by) venue.done ≤ length (filter_map (duty_of by) venue.caused)

  pub record DayNumbers (venue : AuditTrail) : Type 0 where
    pub within : WithinIn venue
    pub shown : (investor : ℕ) → Every (FactNumbers config.dealers) (desk_facts venue.facts investor)
    pub caused : Every (λ (c : Caused). DutyNumbers config c.by c.duty) venue.caused
    pub few : FewIn venue
    pub seen : (dealer : ℕ) (row : DealerRow) → dealer_numbered config dealer ≡ Some row
        → Seen config.date row (of_dealer dealer venue.facts)

  quoted_few : (venue : AuditTrail) → DayNumbers venue → (dealer : ℕ) (row : DealerRow)
      → dealer_numbered config dealer ≡ Some row → quoted_at venue.facts dealer ≤ 4096
  quoted_few venue day dealer row is =
      let seen = day.seen dealer row is in
      let own = dealer_trail.facts_of (of_dealer dealer venue.facts) in
      let kept : quotes_accepted (book_of own) ≤ row.quotes =
      subst (λ (state : DeskState). quotes_accepted (book_of state.facts) ≤ row.quotes)
      seen.state_is (accepts config.date row seen.events) in
      let are : quotes_accepted (book_of own) ≡ count is_quoted own = quotes_are own in
      let most : row.quotes ≤ 4096 = row.quotes_to in
      omega arith

  pub few_shown : (venue : AuditTrail) → DayNumbers venue → (investor : ℕ)
      → offers_shown (book_at config venue.facts actor.Clock investor) ≤ 262144
  few_shown venue day investor =
      few_offers config limits (desk_facts venue.facts investor)
      (every_weaker (FactNumbers config.dealers) (OfferBy config.dealers) (offer_by config.dealers)
      (desk_facts venue.facts investor) (day.shown investor))
      (λ place row at. low (count (is_offer_of row.name) (desk_facts venue.facts investor))
      (count is_quoting (pending (actor.Firm place) venue)) (quoted_at venue.facts place)
      (day.few investor place row at) (quoted_few venue day place row at))
    where
      low : (a b c : ℕ) → a + b ≤ c → c ≤ 4096 → a ≤ 4096
      low a b c most few = omega arith

  -- One step more.

  abbrev Keeps : List Fact → Effect → Type 0
  Keeps facts effect = (dealer : ℕ) (row : DealerRow) → dealer_numbered config dealer ≡ Some row
      → Seen config.date row (of_dealer dealer facts)
      → Seen config.date row (of_dealer dealer (facts ++ effect.facts))

  pub day_after : (venue : AuditTrail) (by : Actor) (most : ℕ) (shows : List ℕ → ℕ) (effect : Effect)
      (after : AuditTrail) → DayNumbers venue
      → EffectNumbers config venue.facts by most shows effect → Keeps venue.facts effect
      → after.facts ≡ venue.facts ++ effect.facts
      → after.caused ≡ venue.caused ++ left_by by effect.duties → WithinIn after → FewIn after
      → DayNumbers after
  day_after venue by most shows effect after day numbers keeps facts caused within few = record {
    within = within;
    shown = λ investor.
        subst (λ (f : List Fact). Every (FactNumbers config.dealers) (desk_facts f investor))
        (sym facts)
        (subst (Every (FactNumbers config.dealers)) (sym (desk_grown venue.facts effect.facts investor))
        (every_both (FactNumbers config.dealers) (desk_facts venue.facts investor)
        (desk_facts effect.facts investor) (day.shown investor) (numbers.shown investor).numbers));
    caused = subst (Every (λ (c : Caused). DutyNumbers config c.by c.duty)) (sym caused)
        (every_both (λ (c : Caused). DutyNumbers config c.by c.duty) venue.caused
        (left_by by effect.duties) day.caused
        (every_mapped (λ (c : Caused). DutyNumbers config c.by c.duty)
        (λ (left : Duty). record { by = by; duty = left }) effect.duties numbers.left.numbers));
    few = few;
    seen = λ dealer row is.
        subst (λ (f : List Fact). Seen config.date row (of_dealer dealer f)) (sym facts)
        (keeps dealer row is (day.seen dealer row is));
  }

  -- a message or a sweep, which does no duty
  pub within_more : (venue : AuditTrail) (by : Actor) (effect : Effect) → WithinIn venue
      → WithinIn (with_effect by venue effect)
  within_more venue by effect within other =
      let more = left_by by effect.duties in
      let grown : length (filter_map (duty_of other) (venue.caused ++ more))
      ≡ length (filter_map (duty_of other) venue.caused)
      + length (filter_map (duty_of other) more) =
      ap length (filter_map-append (duty_of other) venue.caused more)
      ∙ length-append (filter_map (duty_of other) venue.caused) (filter_map (duty_of other) more) in
      let before : count_by (is_same_actor other) venue.done
      ≤ length (filter_map (duty_of other) venue.caused) = within other in
      omega arith

  -- what is counted after it, of one dealer
  module _ (venue : AuditTrail) (by : Actor) (most : ℕ) (shows : List ℕ → ℕ) (effect : Effect)
      (numbers : EffectNumbers config venue.facts by most shows effect) (investor dealer : ℕ)
      (row : DealerRow) where
    abbrev offers_now : ℕ
    offers_now = count (is_offer_of row.name) (desk_facts (venue.facts ++ effect.facts) investor)

    abbrev offers_before : ℕ
    offers_before = count (is_offer_of row.name) (desk_facts venue.facts investor)

    offers_most : offers_now ≤ offers_before + shows row.name
    offers_most =
        let grown : offers_now
        ≡ offers_before + count (is_offer_of row.name) (desk_facts effect.facts investor) =
        offered_grown venue.facts effect.facts investor row.name in
        let more : count (is_offer_of row.name) (desk_facts effect.facts investor) ≤ shows row.name =
        (numbers.shown investor).few row.name in
        omega arith

    queue_most : (queue : List Duty)
        → count is_quoting (queue ++ effect.duties) ≤ count is_quoting queue + most
    queue_most queue =
        let grown : count is_quoting (queue ++ effect.duties)
        ≡ count is_quoting queue + count is_quoting effect.duties =
        count_append is_quoting queue effect.duties in
        let left : count is_quoting effect.duties ≤ most = numbers.left.few in
        omega arith

    quotes_least : quoted_at venue.facts dealer ≤ quoted_at (venue.facts ++ effect.facts) dealer
    quotes_least =
        let grown : quoted_at (venue.facts ++ effect.facts) dealer
        ≡ quoted_at venue.facts dealer + quoted_at effect.facts dealer =
        quoted_grown venue.facts effect.facts dealer in
        omega arith

  pub few_more : (venue : AuditTrail) (by : Actor) (most : ℕ) (effect : Effect) → DayNumbers venue
      → EffectNumbers config venue.facts by most no_quote effect
      → ((dealer : ℕ) → is_same_actor by (actor.Firm dealer) ≡ true
      → most ≤ quoted_at effect.facts dealer)
      → FewIn (with_effect by venue effect)
  few_more venue by most effect day numbers paid investor dealer row is =
      by_test (is_same_actor by (actor.Firm dealer)) refl
    where
      by_test : (b : Bool) → is_same_actor by (actor.Firm dealer) ≡ b
          → count (is_offer_of row.name) (desk_facts (venue.facts ++ effect.facts) investor)
          + count is_quoting (pending (actor.Firm dealer) (with_effect by venue effect))
          ≤ quoted_at (venue.facts ++ effect.facts) dealer
      by_test true same =
          let before : count (is_offer_of row.name) (desk_facts venue.facts investor)
          + count is_quoting (pending (actor.Firm dealer) venue)
          ≤ quoted_at venue.facts dealer = day.few investor dealer row is in
          let offers = offers_most venue by most no_quote effect numbers investor dealer row in
          let queue : pending (actor.Firm dealer) (with_effect by venue effect)
          ≡ pending (actor.Firm dealer) venue ++ effect.duties =
          subst (λ (a : Actor). pending a (with_effect by venue effect)
          ≡ pending a venue ++ effect.duties) (one_actor by (actor.Firm dealer) same)
          (own_pending by venue effect (day.within by)) in
          let counted : count is_quoting (pending (actor.Firm dealer) (with_effect by venue effect))
          ≡ count is_quoting (pending (actor.Firm dealer) venue ++ effect.duties) =
          ap (count is_quoting) queue in
          let left = queue_most venue by most no_quote effect numbers investor dealer row
          (pending (actor.Firm dealer) venue) in
          let grown : quoted_at (venue.facts ++ effect.facts) dealer
          ≡ quoted_at venue.facts dealer + quoted_at effect.facts dealer =
          quoted_grown venue.facts effect.facts dealer in
          let enough : most ≤ quoted_at effect.facts dealer = paid dealer same in
          omega arith
      by_test false differs =
          let before : count (is_offer_of row.name) (desk_facts venue.facts investor)
          + count is_quoting (pending (actor.Firm dealer) venue)
          ≤ quoted_at venue.facts dealer = day.few investor dealer row is in
          let offers = offers_most venue by most no_quote effect numbers investor dealer row in
          let counted : count is_quoting (pending (actor.Firm dealer) (with_effect by venue effect))
          ≡ count is_quoting (pending (actor.Firm dealer) venue) = ap (count is_quoting)
          (other_pending by (actor.Firm dealer) venue effect differs) in
          let quotes = quotes_least venue by most no_quote effect numbers investor dealer row in
          omega arith

  -- a turn, which does the oldest duty
  pub within_turned : (venue : AuditTrail) (by : Actor) (effect : Effect) (left : Duty)
      (rest : List Duty) → pending by venue ≡ left ∷ rest → WithinIn venue
      → WithinIn (turned by venue effect)
  within_turned venue by effect left rest next within other =
      by_test (is_same_actor by other) refl
    where
      by_test : (b : Bool) → is_same_actor by other ≡ b
          → count_by (is_same_actor other) (turned by venue effect).done
          ≤ length (filter_map (duty_of other) (turned by venue effect).caused)
      by_test true same =
          subst (λ (a : Actor). count_by (is_same_actor a) (turned by venue effect).done
          ≤ length (filter_map (duty_of a) (turned by venue effect).caused)) (one_actor by other same)
          (own_within by venue effect left rest next)
      by_test false differs =
          other_within by other venue effect differs (same_either by other differs) (within other)

  pub few_turned : (venue : AuditTrail) (by : Actor) (left : Duty) (rest : List Duty) (effect : Effect)
      → DayNumbers venue → pending by venue ≡ left ∷ rest → DutyNumbers config by left
      → EffectNumbers config venue.facts by (leaves left) (brings left) effect
      → FewIn (turned by venue effect)
  few_turned venue by left rest effect day next says numbers investor dealer row is =
      by_test (is_same_actor by (actor.Firm dealer)) refl
    where
      by_test : (b : Bool) → is_same_actor by (actor.Firm dealer) ≡ b
          → count (is_offer_of row.name) (desk_facts (venue.facts ++ effect.facts) investor)
          + count is_quoting (pending (actor.Firm dealer) (turned by venue effect))
          ≤ quoted_at (venue.facts ++ effect.facts) dealer
      by_test true same =
          let who = one_actor by (actor.Firm dealer) same in
          let before : count (is_offer_of row.name) (desk_facts venue.facts investor)
          + count is_quoting (pending (actor.Firm dealer) venue)
          ≤ quoted_at venue.facts dealer = day.few investor dealer row is in
          let offers = offers_most venue by (leaves left) (brings left) effect numbers investor
          dealer row in
          let had : count is_quoting (pending (actor.Firm dealer) venue)
          ≡ bit (is_quoting left) + count is_quoting rest =
          ap (count is_quoting) (subst (λ (a : Actor). pending a venue ≡ left ∷ rest) who next) in
          let counted : count is_quoting (pending (actor.Firm dealer) (turned by venue effect))
          ≡ count is_quoting (rest ++ effect.duties) = ap (count is_quoting)
          (subst (λ (a : Actor). pending a (turned by venue effect) ≡ rest ++ effect.duties) who
          (own_turned by venue effect left rest next)) in
          let queue = queue_most venue by (leaves left) (brings left) effect numbers investor dealer
          row rest in
          let quotes = quotes_least venue by (leaves left) (brings left) effect numbers investor
          dealer row in
          let more : brings left row.name + leaves left ≤ bit (is_quoting left) =
          taken_more left row.name in
          omega arith
      by_test false differs =
          let before : count (is_offer_of row.name) (desk_facts venue.facts investor)
          + count is_quoting (pending (actor.Firm dealer) venue)
          ≤ quoted_at venue.facts dealer = day.few investor dealer row is in
          let offers = offers_most venue by (leaves left) (brings left) effect numbers investor
          dealer row in
          let none : brings left row.name ≡ 0 =
          none_brought config limits by left dealer row says is differs in
          let counted : count is_quoting (pending (actor.Firm dealer) (turned by venue effect))
          ≡ count is_quoting (pending (actor.Firm dealer) venue) = ap (count is_quoting)
          (other_turned by (actor.Firm dealer) venue effect differs
          (same_either by (actor.Firm dealer) differs)) in
          let quotes = quotes_least venue by (leaves left) (brings left) effect numbers investor
          dealer row in
          omega arith
