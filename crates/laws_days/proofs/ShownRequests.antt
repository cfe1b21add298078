-- The requests that some facts show, by their numbers: which of them were told to be closed, and
-- which may still be.
use Rattle.laws_days.proofs.Common.{Bool, List, None, Option, Some, ℕ, [], ap, arith, false}
use Rattle.laws_days.proofs.Common.{filter_map, find, inl, inr, is_some, length, refl, suc, true}
use Rattle.laws_days.proofs.Common.{◌&&◌, ◌++◌, ◌+◌, ◌==◌, ◌∷◌, ◌≡◌, ◌≤◌, or-false, cases_Bool}
use Rattle.laws_days.proofs.Common.{eqb-true, nat_tests, list_any-append, same_Some, list_any}
use Rattle.laws_days.proofs.Common.{slice_get, Ask, Close, RoomRef, DealerFact, Shown, Told}
use Rattle.laws_days.proofs.Common.{requests_from, tells, is_same_room, untold, StandingRequest}
use Rattle.laws_days.proofs.Common.{AtDesk, DealerEntry, facts_of, In, same_room}
use Rattle.std.proofs.Common.{◌||◌}
use Rattle.dealer_desk.specs.DealerOutput.{number_from}

-- Requests.

-- the request with a number among those that some facts show, the first of which has this number
abbrev pub found : ℕ → ℕ → List DealerFact → Option StandingRequest
found number first facts =
    find (λ (request : StandingRequest). request.number == number) (requests_from first facts)

-- whether its notice was told
abbrev pub has_notice : Option StandingRequest → Bool
has_notice None = false
has_notice (Some request) = request.is_told

-- what may be closed was shown, and was not told
pub untold_is : (request : Option StandingRequest) → is_some (untold request) ≡ true
    → (untold request ≡ request) × (is_some request ≡ true) × (has_notice request ≡ false)
untold_is None may = cc
untold_is (Some request) may = elim (cases_Bool request.is_told) [
  | inl told ↦ cc (rw told at may)
  | inr still ↦ (rw still refl, refl, still)
]

pub noticed_push : (number first : ℕ) (facts : List DealerFact) (fact : DealerFact)
    → has_notice (found number first (facts ++ fact ∷ []))
    ≡ (has_notice (found number first facts)
    || (is_some (found number first facts) && tells number fact))
noticed_push number first [] (Shown ask moment) = elim (cases_Bool (first == number)) [
  | inl same ↦ rw same refl
  | inr differs ↦ rw differs refl
]
noticed_push number first [] fact = refl
noticed_push number first (Shown ask moment ∷ later) fact = elim (cases_Bool (first == number)) [
  | inl test ↦
      let both = list_any-append (tells number) later (fact ∷ []) in
      rw (test, eqb-true first number test, both, or-false) refl
  | inr differs ↦ rw differs (noticed_push number (first + 1) later fact)
]
noticed_push number first (other ∷ later) fact = noticed_push number first later fact

-- what was shown and may not be closed was told
pub told_is : (request : Option StandingRequest) → is_some request ≡ true
    → is_some (untold request) ≡ false → has_notice request ≡ true
told_is None is closed = cc
told_is (Some request) is closed = elim (cases_Bool request.is_told) [
  | inl told ↦ told
  | inr still ↦ cc (rw still at closed)
]

-- Notices.

-- a request that was told of has a notice
pub told_in : (request : ℕ) (facts : List DealerFact) → list_any (tells request) facts ≡ true
    → (close : Close) × (moment : ℕ) × In (Told request close moment) facts
told_in request [] is = cc
told_in request (Told other close moment ∷ facts) is = elim (cases_Bool (other == request)) [
  | inl test ↦
      let same = eqb-true other request test in
      (close, moment, inl (ap (λ (n : ℕ). Told n close moment) same))
  | inr differs ↦
      let later = told_in request facts (rw differs at is) in (later.0, later.1, inr later.2)
]
told_in request (fact ∷ facts) is =
    let later = told_in request facts is in (later.0, later.1, inr later.2)

pub in_facts : (fact : DealerFact) (trail : List DealerEntry) → In fact (facts_of trail)
    → In (AtDesk fact) trail
in_facts fact [] is = absurd is
in_facts fact (AtDesk other ∷ trail) (inl is) = inl (ap AtDesk is)
in_facts fact (AtDesk other ∷ trail) (inr is) = inr (in_facts fact trail is)
in_facts fact (entry ∷ trail) is = inr (in_facts fact trail is)

-- what a fact shows
abbrev pub shown_in : DealerFact → Option Ask
shown_in (Shown ask moment) = Some ask
shown_in fact = None

-- A number of a room is that of a request.

-- the place of a room in which a request was shown
pub number_place : (first : ℕ) (rooms : List RoomRef) (room : RoomRef) (number : ℕ)
    → number_from first rooms room ≡ Some number
    → (place : ℕ) × (number ≡ first + place) × (slice_get rooms place ≡ Some room)
number_place first [] room number is = cc
number_place first (shown ∷ rooms) room number is =
    elim (cases_Bool (is_same_room shown room)) [
      | inl same ↦
          let here = same_Some first number (rw same at is) in
          (0, omega arith, ap (λ (r : RoomRef). Some r) (same_room shown room same))
      | inr other ↦
          let later = number_place (first + 1) rooms room number (rw other at is) in
          (suc later.0, omega arith, later.2)
    ]

pub request_within : (first : ℕ) (facts : List DealerFact) (number : ℕ) → first ≤ number
    → suc number ≤ first + length (filter_map shown_in facts)
    → is_some (found number first facts) ≡ true
request_within first [] number low high = absurd (omega arith)
request_within first (Shown ask moment ∷ later) number low high =
    elim (cases_Bool (first == number)) [
      | inl same ↦ rw same refl
      | inr differs ↦
          let test = differs in
          let least : first + 1 ≤ number = grind (arith, nat_tests) in
          let most : suc number ≤ first + 1 + length (filter_map shown_in later) = omega arith in
          rw differs (request_within (first + 1) later number least most)
    ]
request_within first (fact ∷ later) number low high = request_within first later number low high
