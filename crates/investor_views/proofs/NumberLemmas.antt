-- The quotes that an investor is shown have the numbers 1, 2, 3 and so on, so those that stand on a
-- request have rising numbers, and a number finds the quote that has it.
use Rattle.std.proofs.Common.{◌≡◌, ◌<◌, ◌≤◌, ℕ, ◌+◌, ◌==◌, Bool, true, false, cond, List, [], ◌∷◌}
use Rattle.std.proofs.Common.{◌++◌, length, find, Option, Some, None, option_map, if◌then◌else◌}
use Rattle.std.proofs.Common.{refl, sym, ap, subst, ◌∙◌, arith, eq-eqb}
use Rattle.std.proofs.lemmas.Bool.Decides.{nat_tests}
use Rattle.std.proofs.lemmas.Option.{same_Some}
use Rattle.investor_desk.specs.InvestorFacts.{InvestorFact, StandingRequest, Asked, Offered}
use Rattle.investor_desk.specs.InvestorFacts.{book_of, is_open, offer_with_word, offers_of}
use Rattle.investor_desk.specs.InvestorFacts.{open_request, request_numbered, requests_of}
use Rattle.investor_desk.specs.InvestorFacts.{standing_on, stands_on, while_open}
use Rattle.investor_desk.specs.declared.standing.ShownOffer.{ShownOffer}
use Rattle.step_replay.specs.Lists.{Every}
use Rattle.investor_views.specs.InvestorDues.{number_of}
use Rattle.investor_views.proofs.ListLemmas.{find_changed, found_has}
use Rattle.investor_views.proofs.Renamed.{renamed, renamed_request}

-- the quotes that facts show are numbered on behind so many
abbrev pub NumberedFrom : ℕ → List InvestorFact → Type 0
NumberedFrom count [] = Unit {0}
NumberedFrom count (Offered shown ∷ later) =
    (shown.number ≡ count + 1) × NumberedFrom (count + 1) later
NumberedFrom count (fact ∷ later) = NumberedFrom count later

pub numbered_both : (count all : ℕ) (facts more : List InvestorFact)
    → all ≡ count + length (offers_of facts) → NumberedFrom count facts → NumberedFrom all more
    → NumberedFrom count (facts ++ more)
numbered_both count all [] more is first second =
    let same : all ≡ count = omega arith in
    subst (λ (n : ℕ). NumberedFrom n more) same second
numbered_both count all (Offered shown ∷ later) more is first second =
    let rest : all ≡ count + 1 + length (offers_of later) = omega arith in
    (first.0, numbered_both (count + 1) all later more rest first.1 second)
numbered_both count all (fact ∷ later) more is first second =
    numbered_both count all later more is first second

-- quotes have rising numbers, above this one
abbrev pub Rising : ℕ → List ShownOffer → Type 0
Rising least [] = Unit {0}
Rising least (shown ∷ later) = (least < shown.number) × Rising shown.number later

rising_above : (least more : ℕ) (quotes : List ShownOffer) → least ≤ more → Rising more quotes
    → Rising least quotes
rising_above least more [] under rising = tt
rising_above least more (shown ∷ later) under rising =
    let above : more < shown.number = rising.0 in
    let now : least < shown.number = omega arith in
    (now, rising.1)

standing_rises : (request count : ℕ) (facts : List InvestorFact) → NumberedFrom count facts
    → Rising count (standing_on request facts)
standing_rises request count [] numbered = tt
standing_rises request count (Offered shown ∷ later) numbered =
    by_test (stands_on request shown later) (standing_rises request (count + 1) later numbered.1)
  where
    by_test : (b : Bool) → Rising (count + 1) (standing_on request later) → Rising count
        (if b then shown ∷ standing_on request later else standing_on request later)
    by_test true rest =
        let is : shown.number ≡ count + 1 = numbered.0 in
        let above : count < shown.number = omega arith in
        (above, subst (λ (n : ℕ). Rising n (standing_on request later)) (sym is) rest)
    by_test false rest =
        let under : count ≤ count + 1 = omega arith in
        rising_above count (count + 1) (standing_on request later) under rest
standing_rises request count (fact ∷ later) numbered = standing_rises request count later numbered

-- the quotes that stand on a request do so
abbrev pub Rises : StandingRequest → Type 0
Rises own = Rising 0 own.standing

requests_rise : (count : ℕ) (facts : List InvestorFact) → NumberedFrom count facts
    → Every Rises (requests_of facts)
requests_rise count [] numbered = tt
requests_rise count (Asked request ∷ later) numbered =
    let under : 0 ≤ count = omega arith in (
      rising_above 0 count (standing_on request.number later) under
          (standing_rises request.number count later numbered),
      requests_rise count later numbered,
    )
requests_rise count (Offered shown ∷ later) numbered = requests_rise (count + 1) later numbered.1
requests_rise count (fact ∷ later) numbered = requests_rise count later numbered

pub open_rises : (facts : List InvestorFact) (request : ℕ) (own : StandingRequest)
    → NumberedFrom 0 facts → open_request (book_of facts) request ≡ Some own → Rises own
unfolding request_numbered
open_rises facts request own numbered is =
    by_found (request_numbered (book_of facts) request) refl is
  where
    by_open : (b : Bool) (found : StandingRequest)
        → request_numbered (book_of facts) request ≡ Some found
        → (if b then Some found else None) ≡ Some own → Rises own
    by_open true found at same =
        found_has Rises (λ (own : StandingRequest). own.request.number == request)
        (requests_of facts) (requests_rise 0 facts numbered) own (at ∙ same)
    by_open false found at same = cc

    by_found : (found : Option StandingRequest) → request_numbered (book_of facts) request ≡ found
        → while_open found ≡ Some own → Rises own
    by_found None at same = cc
    by_found (Some found) at same = by_open (is_open found) found at same

-- What is found by its number.

found_above : (least : ℕ) (p : ShownOffer → Bool) (quotes : List ShownOffer) → Rising least quotes
    → (found : ShownOffer) → find p quotes ≡ Some found → least < found.number
found_above least p [] rising found is = cc
found_above least p (shown ∷ later) rising found is =
    by_test (p shown) (found_above shown.number p later rising.1 found) is
  where
    by_test : (b : Bool) → (find p later ≡ Some found → shown.number < found.number)
        → cond b (Some shown) (find p later) ≡ Some found → least < found.number
    by_test true behind same =
        subst (λ (s : ShownOffer). least < s.number) (same_Some shown found same) rising.0
    by_test false behind same =
        let first : least < shown.number = rising.0 in
        let above : shown.number < found.number = behind same in
        omega arith

found_again : (least : ℕ) (p : ShownOffer → Bool) (quotes : List ShownOffer) → Rising least quotes
    → (found : ShownOffer) → find p quotes ≡ Some found
    → find (λ (shown : ShownOffer). shown.number == found.number) quotes ≡ Some found
found_again least p [] rising found is = cc
found_again least p (shown ∷ later) rising found is =
    by_test (p shown) (found_again shown.number p later rising.1 found) is
  where
    by_test : (b : Bool)
        → (find p later ≡ Some found
        → find (λ (shown : ShownOffer). shown.number == found.number) later ≡ Some found)
        → cond b (Some shown) (find p later) ≡ Some found
        → cond (shown.number == found.number) (Some shown)
        (find (λ (shown : ShownOffer). shown.number == found.number) later) ≡ Some found
    by_test true behind same =
        let test : (shown.number == found.number) ≡ true =
        eq-eqb shown.number found.number
        (ap (λ (s : ShownOffer). s.number) (same_Some shown found same)) in
        rw test same
    by_test false behind same =
        let above : shown.number < found.number =
        found_above shown.number p later rising.1 found same in
        let test : (shown.number == found.number) ≡ false = grind (arith, nat_tests) in
        rw test (behind same)

none_is_0 : (least : ℕ) (quotes : List ShownOffer) → Rising least quotes
    → find (λ (shown : ShownOffer). shown.number == 0) quotes ≡ None
none_is_0 least [] rising = refl
none_is_0 least (shown ∷ later) rising =
    let first : least < shown.number = rising.0 in
    let test : (shown.number == 0) ≡ false = grind (arith, nat_tests) in
    rw test (none_is_0 shown.number later rising.1)

-- the quote that is meant by a word is meant by its number
pub meant_same : (own : StandingRequest) (word : ℕ) → Rises own
    → offer_with_word (renamed_request own) (number_of (offer_with_word own word))
    ≡ option_map renamed (offer_with_word own word)
meant_same own word rises = by_found (offer_with_word own word) refl
  where
    numbers : (number : ℕ) → offer_with_word (renamed_request own) number
        ≡ option_map renamed (find (λ (shown : ShownOffer). shown.number == number) own.standing)
    numbers number =
        find_changed renamed (λ (shown : ShownOffer). shown.number == number)
        (λ (shown : ShownOffer). shown.offer.word == number) (λ shown. refl) own.standing

    by_found : (found : Option ShownOffer) → offer_with_word own word ≡ found
        → offer_with_word (renamed_request own) (number_of found) ≡ option_map renamed found
    by_found None is = numbers 0 ∙ ap (option_map renamed) (none_is_0 0 own.standing rises)
    by_found (Some found) is =
        numbers found.number
        ∙ ap (option_map renamed)
        (found_again 0 (λ (shown : ShownOffer). shown.offer.word == word) own.standing rises found
        is)
