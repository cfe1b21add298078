-- What is found of trades in a venue, by what stands in it: how a room ended, whose a word is, what
-- was asked for.
use Rattle.laws_days.proofs.Common.{Bool, List, Option, Some, ℕ, [], ap, arith, eq-eqb}
use Rattle.laws_days.proofs.Common.{filter, if◌then◌else◌, inl, inr, refl, subst, sym}
use Rattle.laws_days.proofs.Common.{true, false, ◌&&◌, ◌++◌, ◌+◌, ◌-◌, ◌==◌, ◌∙◌, ◌∷◌, ◌≡◌}
use Rattle.laws_days.proofs.Common.{nat_le, cases_Bool, eqb-true}
use Rattle.laws_days.proofs.Common.{same_Some, slice_get, list_any}
use Rattle.laws_days.proofs.Common.{Ask, RoomRef, Configuration, dealer_numbered, DealerRow}
use Rattle.laws_days.proofs.Common.{DealerFact, Quoted}
use Rattle.laws_days.proofs.Common.{number_in, StandingQuote}
use Rattle.laws_days.proofs.Common.{ShownOffer, InvestorFact, Offered, offers_of, Ended}
use Rattle.laws_days.proofs.Common.{RoomFact, end_of, ended_as, first_said, is_named, End, close_for}
use Rattle.laws_days.proofs.Common.{AuditTrail, dealer_of, word_for, QuoteRef}
use Rattle.laws_days.proofs.Common.{quote_with_word, DealerEntry, Lifted, lifts}
use Rattle.laws_days.proofs.Common.{facts_of, rooms_by, was_lifted, Every}
use Rattle.laws_days.proofs.Common.{every_weaker, In, all_in, AtDealer, AtInvestor}
use Rattle.laws_days.proofs.Common.{Fact, InRoom, of_dealer, of_investor, of_room, InvestorEntry}
use Rattle.market_terms.specs.declared.closes.Close.TheVariants as closes
use Rattle.dealer_desk.specs.DealerFacts.{standings}
use Rattle.request_room.specs.declared.ends.EndKind.{EndKind}
use Rattle.request_room.specs.declared.ends.EndKind.TheVariants as ends
use Rattle.venue_steps.specs.RoomSteps.{close_by, is_cover, is_winner}
use Rattle.step_replay.specs.InvestorTrail as investor_trail
use Rattle.step_replay.specs.OwnerLemmas.{owner_among, quote_at}
use Rattle.laws_days.proofs.ListLemmas.{slice_holds}
use Rattle.laws_days.proofs.PlainFacts.{at_dealer_all, in_room_all, rooms_all}
use Rattle.laws_days.proofs.ShownRequests.{number_place}
use Rattle.laws_days.proofs.VenueInvariant.{ShownTo, VenueOk}
use Rattle.laws_days.proofs.VenueKnown.{rooms_shown}
use Rattle.laws_days.proofs.VenueParts.{Still, investor_facts}
use Rattle.laws_days.proofs.VenueParts.{later_same, number_for}
use Rattle.laws_trades.proofs.QuoteNumbers.{asks_in}
use Rattle.laws_trades.proofs.TradeParts.{AskOf, AwardLeft, AwardedTo, EndLeft}
use Rattle.laws_trades.proofs.TradeParts.{LiftedAt, LiftedBy, ShownAs, TradeFact}
use Rattle.laws_trades.proofs.TradeParts.{TradeOk}

-- Lists.

pub filter_in : {A : Type 0} (test : A → Bool) (x : A) (xs : List A) → In x (filter test xs) → In x xs
filter_in test x [] is = absurd is
filter_in test x (y ∷ xs) is = elim (cases_Bool (test y)) [
  | inl passes ↦ elim (rw passes at is) [
    | inl here ↦ inl here
    | inr later ↦ inr (filter_in test x xs later)
  ]
  | inr fails ↦ inr (filter_in test x xs (rw fails at is))
]

pub in_split : {A : Type 0} (x : A) (xs : List A) → In x xs
    → (front : List A) × (rest : List A) × (xs ≡ front ++ x ∷ rest)
in_split x [] is = absurd is
in_split x (y ∷ xs) (inl is) = ([], xs, ap (λ z. z ∷ xs) is)
in_split x (y ∷ xs) (inr is) =
    let later = in_split x xs is in (y ∷ later.0, later.1, ap (λ l. y ∷ l) later.2)

-- Places.

pub at_investor_all : (P : Fact → Type 0) (investor : ℕ) (some : List Fact) → Every P some
    → Every (λ (entry : InvestorEntry). P (AtInvestor investor entry)) (of_investor investor some)
unfolding of_investor
at_investor_all P investor [] every = tt
at_investor_all P investor (AtInvestor other entry ∷ some) every =
    elim (cases_Bool (other == investor)) [
      | inl test ↦ rw test (
        rw (eqb-true other investor test) at every.0,
        at_investor_all P investor some every.1,
      )
      | inr differs ↦ rw differs (at_investor_all P investor some every.1)
    ]
at_investor_all P investor (fact ∷ some) every = at_investor_all P investor some every.1

in_market : (fact : InvestorFact) (trail : List InvestorEntry)
    → In fact (investor_trail.facts_of trail) → In (investor_trail.AtDesk fact) trail
in_market fact [] is = absurd is
in_market fact (investor_trail.AtDesk other ∷ trail) (inl is) = inl (ap investor_trail.AtDesk is)
in_market fact (investor_trail.AtDesk other ∷ trail) (inr is) = inr (in_market fact trail is)
in_market fact (entry ∷ trail) is = inr (in_market fact trail is)

pub offer_in : (shown : ShownOffer) (facts : List InvestorFact) → In shown (offers_of facts)
    → In (Offered shown) facts
offer_in shown [] is = absurd is
offer_in shown (Offered other ∷ facts) (inl is) = inl (ap Offered is)
offer_in shown (Offered other ∷ facts) (inr is) = inr (offer_in shown facts is)
offer_in shown (fact ∷ facts) is = inr (offer_in shown facts is)

pub lifted_in : (quote : ℕ) (trail : List DealerEntry) → list_any (lifts quote) trail ≡ true
    → In (Lifted quote) trail
lifted_in quote [] is = cc
lifted_in quote (Lifted other ∷ trail) is = elim (cases_Bool (other == quote)) [
  | inl test ↦ inl (ap Lifted (eqb-true other quote test))
  | inr differs ↦ inr (lifted_in quote trail (rw differs at is))
]
lifted_in quote (entry ∷ trail) is = inr (lifted_in quote trail is)

pub standing_in : (own : StandingQuote) (facts : List DealerFact) → In own (standings facts)
    → In (Quoted own.quote) facts
standing_in own [] is = absurd is
standing_in own (Quoted quote ∷ facts) (inl is) =
    inl (ap (λ (s : StandingQuote). Quoted s.quote) is)
standing_in own (Quoted quote ∷ facts) (inr is) = inr (standing_in own facts is)
standing_in own (fact ∷ facts) is = inr (standing_in own facts is)

ended_fact : (P : RoomFact → Type 0) (end : End) (facts : List RoomFact)
    → first_said ended_as facts ≡ Some end → Every P facts → (moment : ℕ) × P (Ended end moment)
ended_fact P end [] is every = cc
ended_fact P end (Ended other moment ∷ facts) is every =
    (moment, subst (λ (e : End). P (Ended e moment)) (same_Some other end is) every.0)
ended_fact P end (fact ∷ facts) is every = ended_fact P end facts is every.1

pub one_number : (rooms : List RoomRef) (one other : RoomRef) (number : ℕ)
    → number_in rooms one ≡ Some number → number_in rooms other ≡ Some number → one ≡ other
one_number rooms one other number is also =
    let first = number_place 1 rooms one number is in
    let second = number_place 1 rooms other number also in
    let first_is : number ≡ 1 + first.0 = first.1 in
    let second_is : number ≡ 1 + second.0 = second.1 in
    let same : first.0 ≡ second.0 = omega arith in
    same_Some one other (sym first.2 ∙ ap (slice_get rooms) same ∙ second.2)

-- How a room ended.

-- who is told of a hit is the winner of an award
pub hit_kind : (kind : EndKind) (end : End) (dealer : ℕ) → close_by kind end dealer ≡ closes.Hit
    → kind ≡ ends.Awarded
hit_kind ends.Awarded end dealer is = refl
hit_kind ends.Passed end dealer is = cc
hit_kind ends.Expired end dealer is = cc

pub hit_first : (b c : Bool)
    → (if b then closes.Hit else if c then closes.Cover else closes.DoneAway) ≡ closes.Hit
    → b ≡ true
hit_first true c is = refl
hit_first false true is = cc
hit_first false false is = cc

module _ {facts : List Fact} {room : RoomRef} {dealer word : ℕ}
    (award : AwardedTo facts room dealer word) where
  -- the winner is told that it was hit, and nobody else
  pub winner_told : close_for award.end dealer ≡ closes.Hit
  winner_told =
      ap (λ (k : EndKind). close_by k award.end dealer) award.kind_is
      ∙ ap (λ (w : Option (ℕ × ℕ)).
      if is_winner w dealer then closes.Hit
      else if is_cover award.end.cover dealer then closes.Cover else closes.DoneAway) award.winner_is
      ∙ ap (λ (b : Bool).
      if b then closes.Hit
      else if is_cover award.end.cover dealer then closes.Cover else closes.DoneAway)
      (eq-eqb dealer dealer refl)

  pub told_winner : (end : End) (other : ℕ) → end_of (of_room room facts) ≡ Some end
      → close_for end other ≡ closes.Hit → other ≡ dealer
  told_winner end other is hit =
      let same : award.end ≡ end = same_Some award.end end (sym award.end_is ∙ is) in
      let told : close_by award.end.kind award.end other ≡ closes.Hit = rw same hit in
      let wins : is_winner award.end.winner other ≡ true =
      hit_first (is_winner award.end.winner other) (is_cover award.end.cover other)
      (rw award.kind_is at told) in
      sym (eqb-true dealer other (rw award.winner_is at wins))

pub one_winner : {facts : List Fact} {room : RoomRef} {dealer word other also : ℕ}
    → AwardedTo facts room dealer word → AwardedTo facts room other also
    → (dealer ≡ other) × (word ≡ also)
one_winner {facts} {room} {dealer} {word} {other} {also} one two =
    let same : one.end ≡ two.end = same_Some one.end two.end (sym one.end_is ∙ two.end_is) in
    let pair = same_Some (dealer, word) (other, also)
    (sym one.winner_is ∙ ap (λ (e : End). e.winner) same ∙ two.winner_is) in
    (ap (λ (p : ℕ × ℕ). p.0) pair, ap (λ (p : ℕ × ℕ). p.1) pair)

-- Words.

pub owner : (config : Configuration) (dealer : ℕ) (row : DealerRow) (quote : ℕ)
    → dealer_numbered config dealer ≡ Some row
    → (nat_le 1 quote && nat_le quote row.quotes) ≡ true
    → quote_with_word config (word_for config (dealer_of dealer row) quote)
    ≡ Some (quote_at dealer quote)
owner config dealer row quote is within =
    let number : 0 + dealer ≡ dealer = omega arith in
    owner_among 0 config.dealers dealer row quote is within
    ∙ ap (λ (n : ℕ). Some (quote_at n quote)) number

module _ {config : Configuration} {venue : AuditTrail} (stood : VenueOk config venue)
    (trades : TradeOk config venue) where
  -- What stands.

  abbrev pub trail : ℕ → List DealerEntry
  trail dealer = of_dealer dealer venue.facts

  abbrev Stands : Fact → Type 0
  Stands fact = TradeFact config fact venue

  pub all_facts : Every Stands venue.facts
  all_facts =
      every_weaker (λ fact. Still (TradeFact config fact) venue) Stands
      (λ fact stands. stands venue (later_same venue)) venue.facts trades.facts

  pub lifted_by : (dealer quote : ℕ) → was_lifted (trail dealer) quote ≡ true
      → LiftedBy config dealer quote venue.facts
  lifted_by dealer quote is =
      all_in (λ entry. Stands (AtDealer dealer entry)) (Lifted quote) (trail dealer)
      (at_dealer_all Stands dealer venue.facts all_facts) (lifted_in quote (trail dealer) is)

  pub award_left : (room : RoomRef) (end : End) → end_of (of_room room venue.facts) ≡ Some end
      → end.kind ≡ ends.Awarded → AwardLeft config room venue
  award_left room end is kind =
      subst (λ (k : EndKind). EndLeft config k room venue) kind
      (ended_fact (λ fact. Stands (InRoom room fact)) end (of_room room venue.facts) is
      (in_room_all Stands room venue.facts all_facts)).1

  pub at_market : (investor : ℕ) (fact : InvestorFact) → In fact (investor_facts venue.facts investor)
      → Stands (AtInvestor investor (investor_trail.AtDesk fact))
  at_market investor fact is =
      all_in (λ entry. Stands (AtInvestor investor entry)) (investor_trail.AtDesk fact)
      (of_investor investor venue.facts) (at_investor_all Stands investor venue.facts all_facts)
      (in_market fact (of_investor investor venue.facts) is)

  pub rooms_stand : (dealer : ℕ) → Every (λ room. ShownAs venue.facts dealer room) (rooms_by (trail dealer))
  rooms_stand dealer =
      rooms_all (λ entry. Stands (AtDealer dealer entry)) (λ room. ShownAs venue.facts dealer room)
      (λ room is. is) (trail dealer) (at_dealer_all Stands dealer venue.facts all_facts)

  -- what was asked for in a room, by the number that a dealer has for it
  pub asks_for : (dealer : ℕ) (row : DealerRow) → dealer_numbered config dealer ≡ Some row
      → (room : RoomRef) (request : ℕ) → number_for venue.facts dealer room ≡ Some request
      → (ask : Ask) × (slice_get (asks_in (facts_of (trail dealer))) (request - 1) ≡ Some ask)
      × AskOf venue.facts room ask
  asks_for dealer row is room request found =
      let rooms = rooms_by (trail dealer) in
      let there = number_place 1 rooms room request found in
      let shown = slice_holds (λ r. ShownAs venue.facts dealer r) rooms there.0 room there.2
      (rooms_stand dealer) in
      let number : shown.place + 1 ≡ request = same_Some (shown.place + 1) request
      (sym ((stood.desks dealer row is).numbered shown.place room shown.there) ∙ found) in
      let place : request - 1 ≡ shown.place = omega arith in
      (shown.ask, ap (slice_get (asks_in (facts_of (trail dealer)))) place ∙ shown.shows, shown.ask_of)

  pub is_named_in : (dealer : ℕ) (room : RoomRef) (request : ℕ)
      → number_for venue.facts dealer room ≡ Some request
      → is_named (of_room room venue.facts) dealer ≡ true
  is_named_in dealer room request found =
      let rooms = rooms_by (trail dealer) in
      let there = number_place 1 rooms room request found in
      (slice_holds (λ r. ShownTo config dealer r venue) rooms there.0 room there.2
      (rooms_shown stood dealer)).2.ok.named

  -- two liftings in one room are one
  pub one_lifting : (dealer quote other also : ℕ) (room : RoomRef)
      → LiftedAt config venue.facts dealer quote room → LiftedAt config venue.facts other also room
      → (dealer ≡ other) × (quote ≡ also)
  one_lifting dealer quote other also room one two =
      let words = (one_winner one.award two.award).1 in
      let same = same_Some (quote_at dealer quote) (quote_at other also)
      (sym (owner config dealer one.row quote one.row_is one.within)
      ∙ ap (quote_with_word config) words ∙ owner config other two.row also two.row_is two.within) in
      (ap (λ (r : QuoteRef). r.dealer) same, ap (λ (r : QuoteRef). r.quote) same)
