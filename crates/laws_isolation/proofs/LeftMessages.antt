-- A message of a firm that is no dealer, in two days of which the same is left: where it leaves a
-- hit in both or in neither, it adds and leaves the same, but for what is left out.
use Rattle.std.proofs.Common.{◌≡◌, ℕ, ◌⊎◌, Bool, true, false, List, [], ◌∷◌, map, filter_map}
use Rattle.std.proofs.Common.{Option, Some, None, is_some, refl, sym, ap, ◌∙◌, if◌then◌else◌, inl}
use Rattle.std.proofs.Common.{inr}
use Rattle.std.specs.Option.{option_to_list}
use Rattle.std.proofs.lemmas.Bool.{cases_Bool}
use Rattle.market_terms.specs.declared.duties.Duty.{Duty}
use Rattle.market_terms.specs.declared.duties.Duty.TheVariants as duty
use Rattle.venue_rows.specs.Rows.{Configuration, dealer_numbered}
use Rattle.investor_desk.specs.InvestorDesk.{market_for}
use Rattle.investor_desk.specs.InvestorFacts.{Came, InvestorBook, InvestorFact}
use Rattle.investor_desk.specs.InvestorOutput as investor_output
use Rattle.step_replay.specs.Actions.{Effect}
use Rattle.investor_desk.specs.InvestorOutput.{event_facts, uses_number, verdict_duty}
use Rattle.investor_desk.specs.InvestorOutput.{verdict_facts}
use Rattle.investor_desk.specs.InvestorRules.{InvestorMarket, investor_verdict}
use Rattle.investor_desk.specs.declared.events.InvestorEvent.TheVariants as at_investor
use Rattle.investor_desk.specs.declared.verdicts.InvestorVerdict.{InvestorVerdict}
use Rattle.investor_desk.specs.declared.verdicts.InvestorVerdict.TheVariants as verdict
use Rattle.venue_steps.specs.declared.actors.Actor.{Actor}
use Rattle.step_replay.specs.Actions.{done_for, received_by_investor}
use Rattle.step_replay.specs.DutyEffects.{message_effect}
use Rattle.step_replay.specs.InvestorTrail as investor_trail
use Rattle.step_replay.specs.VenueFacts.{Fact, of_investor}
use Rattle.laws_isolation.specs.Presence.{hit_left}
use Rattle.laws_isolation.proofs.OtherHits.{IsSaidAlike, said_back}
use Rattle.laws_isolation.specs.Silence.{is_hit}
use Rattle.laws_isolation.proofs.Left.{AreAlike, left, left_duty, no_response, no_room}
use Rattle.laws_isolation.proofs.Left.{nothing_alike}
use Rattle.laws_isolation.proofs.LeftActions as actions
use Rattle.laws_isolation.proofs.LeftInvestor.{hits, left_book, verdict_heard}
use Rattle.laws_isolation.proofs.LeftPlaces.{at_investor as desk_fact, investor_added, left_desk}

-- who leaves hits by these duties
abbrev pub hits_by : Actor → List Duty → List Actor
hits_by by duties =
    filter_map hit_left (map (λ (more : Duty). record { by = by; duty = more }) duties)

-- whether a verdict leaves one
hits_of : (market : InvestorMarket) (moment : ℕ) (by : Actor) (v : InvestorVerdict)
    → hits_by by (option_to_list (verdict_duty market moment v)) ≡ (if hits v then by ∷ [] else [])
hits_of market moment by (verdict.RequestAccepted id request) = refl
hits_of market moment by (verdict.Hits request response word) = refl
hits_of market moment by (verdict.Passes request response) = refl
hits_of market moment by other = refl

-- what is left of a hit
hit_only : (market : InvestorMarket) (moment : ℕ) (v : InvestorVerdict) → hits v ≡ true
    → map left_duty (option_to_list (verdict_duty market moment v))
    ≡ duty.Hit no_room no_response 0 moment ∷ []
hit_only market moment (verdict.Hits request response word) is = refl
hit_only market moment other is = cc

both_hit : (by : Actor) (b c : Bool)
    → (if b then by ∷ [] else []) ≡ (if c then by ∷ [] else []) → b ≡ c
both_hit by true true same = refl
both_hit by false false same = refl
both_hit by true false same = cc
both_hit by false true same = cc

-- One of two messages leaves a hit, and the other leaves nothing.
pub record IsLone (effect effect_too : Effect) : Type 0 where
  pub hit : Duty
  pub hits_it : is_hit hit ≡ true
  pub duties_are : effect.duties ≡ hit ∷ []
  pub none_too : effect_too.duties ≡ []

-- what two messages leave: as many hits, or one of them alone a hit
abbrev pub HitsOrLone : Actor → Effect → Effect → Type 0
HitsOrLone by effect effect_too =
    (hits_by by effect.duties ≡ hits_by by effect_too.duties)
    ⊎ IsLone effect effect_too ⊎ IsLone effect_too effect

hit_alone : (market : InvestorMarket) (moment : ℕ) (v : InvestorVerdict) → hits v ≡ true
    → (hit : Duty) × (is_hit hit ≡ true) × (verdict_duty market moment v ≡ Some hit)
hit_alone market moment (verdict.Hits request response word) is =
    (duty.Hit (investor_output.room_of market request) response word moment, refl, refl)
hit_alone market moment other is = cc

module _ (own : ℕ) (one other : List Fact) (same : left own one ≡ left own other) (by : Actor)
    (market : InvestorMarket) (moment : ℕ) (bytes bytes_too : List ℕ)
    (said : (book : InvestorBook) → IsSaidAlike market moment
    (investor_verdict market book moment bytes)
    (investor_verdict market book moment bytes_too)) where
  -- the books
  abbrev book : InvestorBook
  book = actions.book own one market

  abbrev book_too : InvestorBook
  book_too = actions.book own other market

  books_are : left_book book ≡ left_book book_too
  books_are =
      sym (actions.book_known own one market)
      ∙ ap (λ (l : List Fact). investor_trail.book_by (of_investor market.firm l)) same
      ∙ actions.book_known own other market

  -- the verdicts
  abbrev v : InvestorVerdict
  v = investor_verdict market book moment bytes

  abbrev w : InvestorVerdict
  w = investor_verdict market book_too moment bytes_too

  abbrev v_left : InvestorVerdict
  v_left = investor_verdict market (left_book book) moment bytes

  abbrev w_left : InvestorVerdict
  w_left = investor_verdict market (left_book book_too) moment bytes_too

  left_said : IsSaidAlike market moment v_left w_left
  left_said = rw (← books_are) (said (left_book book))

  uses_are : uses_number v ≡ uses_number w
  uses_are =
      sym (verdict_heard book market moment bytes).uses_are ∙ left_said.uses_are
      ∙ (verdict_heard book_too market moment bytes_too).uses_are

  said_facts_are : verdict_facts v ≡ verdict_facts w
  said_facts_are =
      sym (verdict_heard book market moment bytes).facts_are ∙ left_said.facts_are
      ∙ (verdict_heard book_too market moment bytes_too).facts_are

  facts_are : left own (received_by_investor one moment bytes market).facts
      ≡ left own (received_by_investor other moment bytes_too market).facts
  unfolding event_facts
  facts_are =
      investor_added own market.firm market (of_investor market.firm one)
      (at_investor.Received moment bytes)
      ∙ ap (map (desk_fact market.firm))
      (ap (λ (b : Bool). Came moment [] b ∷ left_desk (verdict_facts v)) uses_are
      ∙ ap (λ (l : List InvestorFact). Came moment [] (uses_number w) ∷ left_desk l) said_facts_are)
      ∙ sym (investor_added own market.firm market (of_investor market.firm other)
      (at_investor.Received moment bytes_too))

  duties_are : hits v ≡ hits w
      → map left_duty (option_to_list (verdict_duty market moment v))
      ≡ map left_duty (option_to_list (verdict_duty market moment w))
  duties_are both = elim (cases_Bool (hits v)) [
    | inl is ↦ hit_only market moment v is ∙ sym (hit_only market moment w (sym both ∙ is))
    | inr isnt ↦
        let isnt_too = sym both ∙ isnt in
        let is_left = (verdict_heard book market moment bytes).duty_is isnt in
        let is_left_too = (verdict_heard book_too market moment bytes_too).duty_is isnt_too in
        ap (λ (o : Option Duty). map left_duty (option_to_list o))
        (ap (verdict_duty market moment) (sym is_left)
        ∙ left_said.duty_is (ap hits is_left ∙ isnt) (ap hits is_left_too ∙ isnt_too)
        ∙ ap (verdict_duty market moment) is_left_too)
  ]

  pub said_alike :
      hits_by by (received_by_investor one moment bytes market).duties
      ≡ hits_by by (received_by_investor other moment bytes_too market).duties
      → AreAlike own (received_by_investor one moment bytes market)
      (received_by_investor other moment bytes_too market)
  said_alike same_hits = record {
    facts_are = facts_are;
    duties_are = duties_are (both_hit by (hits v) (hits w)
        (sym (hits_of market moment by v) ∙ same_hits ∙ hits_of market moment by w));
  }

  -- where one leaves a hit and the other none, the other leaves nothing
  pub lone_hit : hits v ≡ true → hits w ≡ false → verdict_duty market moment w ≡ None
  lone_hit is isnt_too =
      let heard = verdict_heard book market moment bytes in
      let heard_too = verdict_heard book_too market moment bytes_too in
      ap (verdict_duty market moment) (sym (heard_too.duty_is isnt_too))
      ∙ sym (left_said.duty_is heard.never_hits heard_too.never_hits) ∙ heard.lone is market moment

  pub said_lone : hits v ≡ true → hits w ≡ false
      → IsLone (received_by_investor one moment bytes market)
      (received_by_investor other moment bytes_too market)
  said_lone is isnt_too =
      let alone = hit_alone market moment v is in record {
        hit = alone.0;
        hits_it = alone.1;
        duties_are = ap option_to_list alone.2;
        none_too = ap option_to_list (lone_hit is isnt_too);
      }

-- which hits messages of an investor leave
said_hits : (own : ℕ) (one other : List Fact) → left own one ≡ left own other → (by : Actor)
    (market : InvestorMarket) (moment : ℕ) (bytes bytes_too : List ℕ)
    → ((book : InvestorBook) → IsSaidAlike market moment
    (investor_verdict market book moment bytes) (investor_verdict market book moment bytes_too))
    → HitsOrLone by (received_by_investor one moment bytes market)
    (received_by_investor other moment bytes_too market)
said_hits own one other same by market moment bytes bytes_too said =
    let v_is = investor_verdict market (actions.book own one market) moment bytes in
    let w_is = investor_verdict market (actions.book own other market) moment bytes_too in
    elim (cases_Bool (hits v_is)) [
      | inl is ↦ elim (cases_Bool (hits w_is)) [
        | inl is_too ↦ inl (hits_of market moment by v_is ∙ rw (is, is_too) refl
            ∙ sym (hits_of market moment by w_is))
        | inr isnt_too ↦ inr (inl
            (said_lone own one other same by market moment bytes bytes_too said is isnt_too))
      ]
      | inr isnt ↦ elim (cases_Bool (hits w_is)) [
        | inl is_too ↦ inr (inr
            (said_lone own other one (sym same) by market moment bytes_too bytes
            (λ book. said_back market moment _ _ (said book)) is_too isnt))
        | inr isnt_too ↦ inl (hits_of market moment by v_is ∙ rw (isnt, isnt_too) refl
            ∙ sym (hits_of market moment by w_is))
      ]
    ]

-- a message of a firm that is no dealer
pub message_alike : (config : Configuration) (own : ℕ) (one other : List Fact)
    → left own one ≡ left own other → (firm moment : ℕ) (bytes bytes_too : List ℕ) (by : Actor)
    → is_some (dealer_numbered config firm) ≡ false
    → ((market : InvestorMarket) (book : InvestorBook) → IsSaidAlike market moment
    (investor_verdict market book moment bytes) (investor_verdict market book moment bytes_too))
    → hits_by by (message_effect config one firm moment bytes).duties
    ≡ hits_by by (message_effect config other firm moment bytes_too).duties
    → AreAlike own (message_effect config one firm moment bytes)
    (message_effect config other firm moment bytes_too)
unfolding message_effect
message_alike config own one other same firm moment bytes bytes_too by isnt said same_hits =
    rw isnt (by_market (market_for config firm) (rw isnt at same_hits))
  where
    by_market : (found : Option InvestorMarket)
        → hits_by by (done_for found (received_by_investor one moment bytes)).duties
        ≡ hits_by by (done_for found (received_by_investor other moment bytes_too)).duties
        → AreAlike own (done_for found (received_by_investor one moment bytes))
        (done_for found (received_by_investor other moment bytes_too))
    by_market None so = nothing_alike own
    by_market (Some market) so =
        said_alike own one other same by market moment bytes bytes_too (said market) so

-- what is left of it is the same, whether it leaves a hit or not
pub message_facts : (config : Configuration) (own : ℕ) (one other : List Fact)
    → left own one ≡ left own other → (firm moment : ℕ) (bytes bytes_too : List ℕ) (by : Actor)
    → is_some (dealer_numbered config firm) ≡ false
    → ((market : InvestorMarket) (book : InvestorBook) → IsSaidAlike market moment
    (investor_verdict market book moment bytes) (investor_verdict market book moment bytes_too))
    → left own (message_effect config one firm moment bytes).facts
    ≡ left own (message_effect config other firm moment bytes_too).facts
unfolding message_effect
message_facts config own one other same firm moment bytes bytes_too by isnt said =
    rw isnt (by_market (market_for config firm))
  where
    by_market : (found : Option InvestorMarket)
        → left own (done_for found (received_by_investor one moment bytes)).facts
        ≡ left own (done_for found (received_by_investor other moment bytes_too)).facts
    by_market None = refl
    by_market (Some market) =
        facts_are own one other same by market moment bytes bytes_too (said market)

-- and which hits both leave
pub message_hits : (config : Configuration) (own : ℕ) (one other : List Fact)
    → left own one ≡ left own other → (firm moment : ℕ) (bytes bytes_too : List ℕ) (by : Actor)
    → is_some (dealer_numbered config firm) ≡ false
    → ((market : InvestorMarket) (book : InvestorBook) → IsSaidAlike market moment
    (investor_verdict market book moment bytes) (investor_verdict market book moment bytes_too))
    → HitsOrLone by (message_effect config one firm moment bytes)
    (message_effect config other firm moment bytes_too)
unfolding message_effect
message_hits config own one other same firm moment bytes bytes_too by isnt said =
    rw isnt (by_market (market_for config firm))
  where
    by_market : (found : Option InvestorMarket)
        → HitsOrLone by (done_for found (received_by_investor one moment bytes))
        (done_for found (received_by_investor other moment bytes_too))
    by_market None = inl refl
    by_market (Some market) =
        said_hits own one other same by market moment bytes bytes_too (said market)
