-- The numbers of the dealers that a request names.
use Rattle.std.proofs.Common.{◌≡◌, ◌<◌, ℕ, suc, Bool, true, false, ◌||◌, ◌&&◌, ◌==◌, not}
use Rattle.std.proofs.Common.{nat_lt, List, [], ◌∷◌, ◌++◌, length, Option, Some, None}
use Rattle.std.proofs.Common.{is_none, get_or, inl, inr, All, refl, sym, ap, subst, ◌∙◌, arith}
use Rattle.std.specs.List.{list_any, cons_option}
use Rattle.std.proofs.lemmas.Bool.Decides.{nat_tests}
use Rattle.std.proofs.lemmas.List.{append_assoc}
use Rattle.std.proofs.lemmas.List.Elements.{All-cons, All-nil}
use Rattle.std.proofs.lemmas.List.Quantifiers.{position-Some}
use Rattle.std.proofs.lemmas.Bool.{cases_Bool, eq-eqb, eqb-true, or_parts}
use Rattle.std.proofs.lemmas.Slice.Eq.{bytes_eq-Decides}
use Rattle.venue_rows.specs.Texts.{same_text}
use Rattle.market_terms.specs.Checks.{first_refusal}
use Rattle.market_terms.specs.Dealers.{are_distinct}
use Rattle.market_terms.specs.declared.rooms.TheConstants.AskedDealers.{MOST}
use Rattle.investor_desk.specs.InvestorRules.{InvestorMarket, dealer_named, is_unknown_dealer}
use Rattle.investor_desk.specs.InvestorRules.{dealer_numbers}
use Rattle.investor_desk.specs.RuleCuts.{are_different, dealer_checks}
use Rattle.investor_desk.specs.declared.refusals.RequestRefusal.TheVariants.{NoDealer, UnknownDealer}
use Rattle.investor_desk.specs.declared.refusals.RequestRefusal.TheVariants.{DealerTwice, TooManyDealers}

-- a dealer that has a name is one of those of the venue
pub named_within : (market : InvestorMarket) (name : List ℕ) (number : ℕ) → dealer_named market name ≡ Some number → number < length market.dealers
unfolding dealer_named
named_within market name number is = (position-Some (λ (own : List ℕ). same_text own name) market.dealers number [] is).0

-- numbers that are found by a rule
found_within : (limit : ℕ) (found : Option ℕ) (numbers : List ℕ) → ((number : ℕ) → found ≡ Some number → number < limit) → All (λ (number : ℕ). number < limit) numbers
    → All (λ (number : ℕ). number < limit) (cons_option found numbers)
found_within limit None numbers rule all = all
found_within limit (Some number) numbers rule all = All-cons (λ (n : ℕ). n < limit) number numbers (rule number refl) all

-- all dealers that are named are those of the venue
pub numbers_within : (market : InvestorMarket) (names : List (List ℕ)) → All (λ (number : ℕ). number < length market.dealers) (dealer_numbers market names)
numbers_within market [] = All-nil (λ (n : ℕ). n < length market.dealers)
numbers_within market (name ∷ names) =
    found_within (length market.dealers) (dealer_named market name) (dealer_numbers market names) (named_within market name) (numbers_within market names)

-- as many as are named, where all are known
one_more : (found : Option ℕ) (numbers : List ℕ) (many : ℕ) → is_none found ≡ false → length numbers ≡ many → length (cons_option found numbers) ≡ suc many
one_more None numbers many known same = cc
one_more (Some number) numbers many known same = ap suc same

pub numbers_many : (market : InvestorMarket) (names : List (List ℕ)) → list_any (is_unknown_dealer market) names ≡ false → length (dealer_numbers market names) ≡ length names
numbers_many market [] known = refl
numbers_many market (name ∷ names) known =
    let parts = or_parts (is_unknown_dealer market name) (list_any (is_unknown_dealer market) names) known in
    one_more (dealer_named market name) (dealer_numbers market names) (length names) parts.0 (numbers_many market names parts.1)

-- The checks of the dealers that a request names, by what each of them says.

no_dealer : (a b c d : Bool) → a ≡ true → first_refusal ((a, NoDealer) ∷ (b, UnknownDealer) ∷ (c, DealerTwice) ∷ (d, TooManyDealers) ∷ []) ≡ Some NoDealer
no_dealer a b c d x = rw x refl

unknown_dealer : (a b c d : Bool) → a ≡ false → b ≡ true → first_refusal ((a, NoDealer) ∷ (b, UnknownDealer) ∷ (c, DealerTwice) ∷ (d, TooManyDealers) ∷ []) ≡ Some UnknownDealer
unknown_dealer a b c d x y = rw (x, y) refl

dealer_twice : (a b c d : Bool) → a ≡ false → b ≡ false → c ≡ true → first_refusal ((a, NoDealer) ∷ (b, UnknownDealer) ∷ (c, DealerTwice) ∷ (d, TooManyDealers) ∷ []) ≡ Some DealerTwice
dealer_twice a b c d x y z = rw (x, y, z) refl

too_many_dealers : (a b c d : Bool) → a ≡ false → b ≡ false → c ≡ false → d ≡ true → first_refusal ((a, NoDealer) ∷ (b, UnknownDealer) ∷ (c, DealerTwice) ∷ (d, TooManyDealers) ∷ []) ≡ Some TooManyDealers
too_many_dealers a b c d x y z w = rw (x, y, z, w) refl

-- somebody is named where one is unknown, where one stands twice, and where they are many

some_named : (n : ℕ) → (suc n == 0) ≡ false
some_named n = grind (arith, nat_tests)

some_unknown : (market : InvestorMarket) (names : List (List ℕ)) → list_any (is_unknown_dealer market) names ≡ true → (length names == 0) ≡ false
some_unknown market [] h = cc
some_unknown market (name ∷ names) h = some_named (length names)

some_twice : (market : InvestorMarket) (names : List (List ℕ)) → not (are_distinct (dealer_numbers market names)) ≡ true → (length names == 0) ≡ false
some_twice market [] h = cc
some_twice market (name ∷ names) h = some_named (length names)

some_many : (m n : ℕ) → nat_lt m n ≡ true → (n == 0) ≡ false
some_many m n h = grind (arith, nat_tests)

or_right : (a b : Bool) → a ≡ false → (a || b) ≡ true → b ≡ true
or_right true b x h = cc
or_right false b x h = h

pub unknown_refuses : (market : InvestorMarket) (names : List (List ℕ)) → list_any (is_unknown_dealer market) names ≡ true → first_refusal (dealer_checks market names) ≡ Some UnknownDealer
unknown_refuses market names unknown =
    unknown_dealer (length names == 0) (list_any (is_unknown_dealer market) names) (not (are_distinct (dealer_numbers market names))) (nat_lt MOST (length names))
    (some_unknown market names unknown) unknown

pub twice_refuses : (market : InvestorMarket) (names : List (List ℕ)) → list_any (is_unknown_dealer market) names ≡ false → not (are_distinct (dealer_numbers market names)) ≡ true → first_refusal (dealer_checks market names) ≡ Some DealerTwice
twice_refuses market names known twice =
    dealer_twice (length names == 0) (list_any (is_unknown_dealer market) names) (not (are_distinct (dealer_numbers market names))) (nat_lt MOST (length names))
    (some_twice market names twice) known twice

pub many_refuse : (market : InvestorMarket) (names : List (List ℕ)) → list_any (is_unknown_dealer market) names ≡ false → not (are_distinct (dealer_numbers market names)) ≡ false
    → (list_any (is_unknown_dealer market) names || nat_lt MOST (length names)) ≡ true → first_refusal (dealer_checks market names) ≡ Some TooManyDealers
many_refuse market names known distinct either =
    let many = or_right (list_any (is_unknown_dealer market) names) (nat_lt MOST (length names)) known either in
    too_many_dealers (length names == 0) (list_any (is_unknown_dealer market) names) (not (are_distinct (dealer_numbers market names))) (nat_lt MOST (length names))
    (some_many MOST (length names) many) known distinct many

pub nobody_refuses : (market : InvestorMarket) (names : List (List ℕ)) → list_any (is_unknown_dealer market) names ≡ false → (length (dealer_numbers market names) == 0) ≡ true → first_refusal (dealer_checks market names) ≡ Some NoDealer
nobody_refuses market names known none =
    no_dealer (length names == 0) (list_any (is_unknown_dealer market) names) (not (are_distinct (dealer_numbers market names))) (nat_lt MOST (length names))
    (ap (λ (n : ℕ). n == 0) (sym (numbers_many market names known)) ∙ none)

-- Known dealers stand twice where their names do.

text_same : (one other : List ℕ) → same_text one other ≡ true → one ≡ other
text_same one other is = (bytes_eq-Decides one other).0 is

same_self : (text : List ℕ) → same_text text text ≡ true
same_self text = (bytes_eq-Decides text text).1 refl

named_text : (market : InvestorMarket) (name : List ℕ) (number : ℕ) → dealer_named market name ≡ Some number → get_or market.dealers number [] ≡ name
unfolding dealer_named
named_text market name number is =
    text_same (get_or market.dealers number []) name (position-Some (λ (own : List ℕ). same_text own name) market.dealers number [] is).1

-- two names of one number are one
one_name : (market : InvestorMarket) (one other : List ℕ) (number : ℕ) → dealer_named market one ≡ Some number → dealer_named market other ≡ Some number → one ≡ other
one_name market one other number is is2 = sym (named_text market one number is) ∙ named_text market other number is2

abbrev number_in : Option ℕ → ℕ
number_in None = 0
number_in (Some number) = number

same_number : (market : InvestorMarket) (other name : List ℕ) (k number : ℕ) → dealer_named market other ≡ Some k → dealer_named market name ≡ Some number → (k == number) ≡ same_text other name
same_number market other name k number is named = elim (cases_Bool (k == number)) [
  | inl same ↦ same ∙ sym (subst (λ (text : List ℕ). same_text other text ≡ true)
      (one_name market other name number (subst (λ (n : ℕ). dealer_named market other ≡ Some n) (eqb-true k number same) is) named) (same_self other))
  | inr differs ↦ elim (cases_Bool (same_text other name)) [
    | inl same ↦ cc (sym differs ∙ eq-eqb k number (ap number_in (sym is ∙ ap (dealer_named market) (text_same other name same) ∙ named)))
    | inr other_text ↦ differs ∙ sym other_text
  ]
]

named_again : (market : InvestorMarket) (name : List ℕ) (number : ℕ) (later : List (List ℕ)) → list_any (is_unknown_dealer market) later ≡ false → dealer_named market name ≡ Some number
    → list_any (λ (named : ℕ). named == number) (dealer_numbers market later) ≡ list_any (λ (other : List ℕ). same_text other name) later
named_again market name number [] known is = refl
named_again market name number (other ∷ later) known is =
    by_found (dealer_named market other) refl (named_again market name number later (or_parts (is_unknown_dealer market other) (list_any (is_unknown_dealer market) later) known).1 is)
  where
    parts : (is_unknown_dealer market other ≡ false) × (list_any (is_unknown_dealer market) later ≡ false)
    parts = or_parts (is_unknown_dealer market other) (list_any (is_unknown_dealer market) later) known

    by_found : (found : Option ℕ) → dealer_named market other ≡ found
        → list_any (λ (named : ℕ). named == number) (dealer_numbers market later) ≡ list_any (λ (text : List ℕ). same_text text name) later
        → list_any (λ (named : ℕ). named == number) (cons_option found (dealer_numbers market later)) ≡ (same_text other name || list_any (λ (text : List ℕ). same_text text name) later)
    by_found None none others = cc (sym parts.0 ∙ ap is_none none)
    by_found (Some k) some others =
        ap (λ (b : Bool). b || list_any (λ (named : ℕ). named == number) (dealer_numbers market later)) (same_number market other name k number some is)
        ∙ ap (λ (b : Bool). same_text other name || b) others

pub different_dealers : (market : InvestorMarket) (names : List (List ℕ)) → list_any (is_unknown_dealer market) names ≡ false → are_distinct (dealer_numbers market names) ≡ are_different names
different_dealers market [] known = refl
different_dealers market (name ∷ names) known =
    by_found (dealer_named market name) refl (different_dealers market names (or_parts (is_unknown_dealer market name) (list_any (is_unknown_dealer market) names) known).1)
  where
    parts : (is_unknown_dealer market name ≡ false) × (list_any (is_unknown_dealer market) names ≡ false)
    parts = or_parts (is_unknown_dealer market name) (list_any (is_unknown_dealer market) names) known

    by_found : (found : Option ℕ) → dealer_named market name ≡ found
        → are_distinct (dealer_numbers market names) ≡ are_different names
        → are_distinct (cons_option found (dealer_numbers market names)) ≡ (not (list_any (λ (other : List ℕ). same_text other name) names) && are_different names)
    by_found None none others = cc (sym parts.0 ∙ ap is_none none)
    by_found (Some number) some others =
        ap (λ (b : Bool). not b && are_distinct (dealer_numbers market names)) (named_again market name number names parts.1 some)
        ∙ ap (λ (b : Bool). not (list_any (λ (other : List ℕ). same_text other name) names) && b) others

-- One name after the other.

-- numbers that were found so far, and what is left to be looked at
pub number_next : (market : InvestorMarket) (name : List ℕ) (number : ℕ) (found : List ℕ) (rest : List (List ℕ)) (all : List ℕ) → dealer_named market name ≡ Some number
    → found ++ dealer_numbers market (name ∷ rest) ≡ all → (found ++ number ∷ []) ++ dealer_numbers market rest ≡ all
number_next market name number found rest all is were =
    append_assoc found (number ∷ []) (dealer_numbers market rest)
    ∙ ap (λ (o : Option ℕ). found ++ cons_option o (dealer_numbers market rest)) (sym is)
    ∙ were

pub known_next : (market : InvestorMarket) (name : List ℕ) (number : ℕ) (rest : List (List ℕ)) → dealer_named market name ≡ Some number
    → list_any (is_unknown_dealer market) (name ∷ rest) ≡ list_any (is_unknown_dealer market) rest
known_next market name number rest is = ap (λ (o : Option ℕ). is_none o || list_any (is_unknown_dealer market) rest) is

pub unknown_next : (market : InvestorMarket) (name : List ℕ) (rest : List (List ℕ)) → dealer_named market name ≡ None → list_any (is_unknown_dealer market) (name ∷ rest) ≡ true
unknown_next market name rest is = ap (λ (o : Option ℕ). is_none o || list_any (is_unknown_dealer market) rest) is

pub too_many : (unknown : Bool) (m n : ℕ) → m < n → (unknown || nat_lt m n) ≡ true
too_many true m n h = refl
too_many false m n h = grind (arith, nat_tests)

pub known_refuses : (many : Bool) (unknown : Bool) → unknown ≡ true → (unknown || many) ≡ true
known_refuses many true h = refl
known_refuses many false h = cc
