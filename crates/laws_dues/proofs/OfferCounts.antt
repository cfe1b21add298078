-- How many quotes an investor was shown, by the dealers that gave them.
use Rattle.std.proofs.Common.{◌≡◌, ◌≤◌, ℕ, zero, suc, ◌+◌, ◌*◌, Bool, true, false, List, [], ◌∷◌}
use Rattle.std.proofs.Common.{◌++◌, length, sum_by, Some, refl, sym, ap, subst, arith}
use Rattle.std.specs.Prelude.{slice_get}
use Rattle.std.proofs.lemmas.List.Sums.{sum_by-cons}
use Rattle.std.proofs.lemmas.Option.{same_Some}
use Rattle.std.proofs.lemmas.Slice.Eq.{bytes_eq-Decides}
use Rattle.venue_rows.specs.Rows.{Configuration, KeepsLimits}
use Rattle.venue_rows.specs.Texts.{same_text}
use Rattle.venue_rows.specs.declared.dealer_rows.DealerRow.{DealerRow}
use Rattle.dealer_desk.specs.DealerFacts as dealer
use Rattle.dealer_desk.specs.DealerFacts.{DealerFact, Quoted, quotes_accepted}
use Rattle.investor_desk.specs.InvestorFacts.{InvestorFact, Offered, offers_of}
use Rattle.step_replay.specs.Lists.{Every}

-- Counts.

abbrev pub bit : Bool → ℕ
bit true = 1
bit false = 0

abbrev pub count : {A : Type 0} → (A → Bool) → List A → ℕ
count test [] = 0
count test (x ∷ xs) = bit (test x) + count test xs

pub count_append : {A : Type 0} (test : A → Bool) (xs ys : List A)
    → count test (xs ++ ys) ≡ count test xs + count test ys
count_append test [] ys = omega arith
count_append test (x ∷ xs) ys =
    let later : count test (xs ++ ys) ≡ count test xs + count test ys =
    count_append test xs ys in
    omega arith

pub count_none : {A : Type 0} (test : A → Bool) (xs : List A)
    → Every (λ x. test x ≡ false) xs → count test xs ≡ 0
count_none test [] none = refl
count_none test (x ∷ xs) none =
    let here : bit (test x) ≡ 0 = ap bit none.0 in
    let later : count test xs ≡ 0 = count_none test xs none.1 in
    omega arith

-- Quotes that were shown, and quotes that were accepted.

abbrev pub is_offer : InvestorFact → Bool
is_offer (Offered shown) = true
is_offer fact = false

abbrev pub is_offer_of : List ℕ → InvestorFact → Bool
is_offer_of name (Offered shown) = same_text shown.offer.dealer name
is_offer_of name fact = false

pub offers_are : (facts : List InvestorFact) → length (offers_of facts) ≡ count is_offer facts
offers_are [] = refl
offers_are (Offered shown ∷ facts) =
    let later : length (offers_of facts) ≡ count is_offer facts = offers_are facts in
    omega arith
offers_are (fact ∷ facts) =
    let later : length (offers_of facts) ≡ count is_offer facts = offers_are facts in
    omega arith

abbrev pub is_quoted : DealerFact → Bool
is_quoted (Quoted quote) = true
is_quoted fact = false

pub quotes_are : (facts : List DealerFact)
    → quotes_accepted (dealer.book_of facts) ≡ count is_quoted facts
quotes_are [] = refl
quotes_are (Quoted quote ∷ facts) =
    let later : quotes_accepted (dealer.book_of facts) ≡ count is_quoted facts = quotes_are facts in
    omega arith
quotes_are (fact ∷ facts) =
    let later : quotes_accepted (dealer.book_of facts) ≡ count is_quoted facts = quotes_are facts in
    omega arith

-- The dealers of a venue.

-- one of these rows has the name
pub record ByRow (rows : List DealerRow) (name : List ℕ) : Type 0 where
  pub place : ℕ
  pub row : DealerRow
  pub row_is : slice_get rows place ≡ Some row
  pub name_is : name ≡ row.name

-- a quote that is shown is one of theirs
abbrev pub OfferBy : List DealerRow → InvestorFact → Type 0
OfferBy rows (Offered shown) = ByRow rows shown.offer.dealer
OfferBy rows fact = Unit {0}

sum_weaker : (f g : DealerRow → ℕ) → ((row : DealerRow) → f row ≤ g row) → (rows : List DealerRow)
    → sum_by f rows ≤ sum_by g rows
sum_weaker f g each [] = omega arith
sum_weaker f g each (row ∷ rows) =
    let one : sum_by f (row ∷ rows) ≡ f row + sum_by f rows = sum_by-cons f row rows in
    let other : sum_by g (row ∷ rows) ≡ g row + sum_by g rows = sum_by-cons g row rows in
    let here : f row ≤ g row = each row in
    let later : sum_by f rows ≤ sum_by g rows = sum_weaker f g each rows in
    omega arith

sum_more : (f g : DealerRow → ℕ) → ((row : DealerRow) → f row ≤ g row) → (rows : List DealerRow)
    (place : ℕ) (row : DealerRow) → slice_get rows place ≡ Some row → f row + 1 ≤ g row
    → sum_by f rows + 1 ≤ sum_by g rows
sum_more f g each [] place row at more = cc
sum_more f g each (first ∷ rows) zero row at more =
    let one : sum_by f (first ∷ rows) ≡ f first + sum_by f rows = sum_by-cons f first rows in
    let other : sum_by g (first ∷ rows) ≡ g first + sum_by g rows = sum_by-cons g first rows in
    let here : f first + 1 ≤ g first =
    subst (λ (r : DealerRow). f r + 1 ≤ g r) (sym (same_Some first row at)) more in
    let later : sum_by f rows ≤ sum_by g rows = sum_weaker f g each rows in
    omega arith
sum_more f g each (first ∷ rows) (suc place) row at more =
    let one : sum_by f (first ∷ rows) ≡ f first + sum_by f rows = sum_by-cons f first rows in
    let other : sum_by g (first ∷ rows) ≡ g first + sum_by g rows = sum_by-cons g first rows in
    let here : f first ≤ g first = each first in
    let later : sum_by f rows + 1 ≤ sum_by g rows = sum_more f g each rows place row at more in
    omega arith

sum_most : (f : DealerRow → ℕ) (rows : List DealerRow)
    → ((place : ℕ) (row : DealerRow) → slice_get rows place ≡ Some row → f row ≤ 4096)
    → sum_by f rows ≤ 4096 * length rows
sum_most f [] each = omega arith
sum_most f (row ∷ rows) each =
    let one : sum_by f (row ∷ rows) ≡ f row + sum_by f rows = sum_by-cons f row rows in
    let here : f row ≤ 4096 = each zero row refl in
    let later : sum_by f rows ≤ 4096 * length rows =
    sum_most f rows (λ place r at. each (suc place) r at) in
    omega arith

-- the quotes of one row
abbrev of_row : List InvestorFact → DealerRow → ℕ
of_row facts row = count (is_offer_of row.name) facts

one_more : (fact : InvestorFact) (facts : List InvestorFact) (row : DealerRow)
    → of_row facts row ≤ of_row (fact ∷ facts) row
one_more fact facts row = omega arith

all_offers : (rows : List DealerRow) (facts : List InvestorFact) → Every (OfferBy rows) facts
    → count is_offer facts ≤ sum_by (of_row facts) rows
all_offers rows [] each = omega arith
all_offers rows (Offered shown ∷ facts) each =
    let by = each.0 in
    let test : same_text shown.offer.dealer by.row.name ≡ true =
    (bytes_eq-Decides shown.offer.dealer by.row.name).1 by.name_is in
    let here : bit (same_text shown.offer.dealer by.row.name) ≡ 1 = ap bit test in
    let own : of_row facts by.row + 1 ≤ of_row (Offered shown ∷ facts) by.row = omega arith in
    let later : count is_offer facts ≤ sum_by (of_row facts) rows =
    all_offers rows facts each.1 in
    let grown : sum_by (of_row facts) rows + 1 ≤ sum_by (of_row (Offered shown ∷ facts)) rows =
    sum_more (of_row facts) (of_row (Offered shown ∷ facts)) (one_more (Offered shown) facts) rows
    by.place by.row by.row_is own in
    omega arith
all_offers rows (fact ∷ facts) each =
    let later : count is_offer facts ≤ sum_by (of_row facts) rows =
    all_offers rows facts each.1 in
    let grown : sum_by (of_row facts) rows ≤ sum_by (of_row (fact ∷ facts)) rows =
    sum_weaker (of_row facts) (of_row (fact ∷ facts)) (one_more fact facts) rows in
    omega arith

-- an investor was shown few, where each dealer gave few
pub few_offers : (config : Configuration) → KeepsLimits config → (facts : List InvestorFact)
    → Every (OfferBy config.dealers) facts
    → ((place : ℕ) (row : DealerRow) → slice_get config.dealers place ≡ Some row
    → count (is_offer_of row.name) facts ≤ 4096)
    → length (offers_of facts) ≤ 262144
few_offers config limits facts each few =
    let are : length (offers_of facts) ≡ count is_offer facts = offers_are facts in
    let all : count is_offer facts ≤ sum_by (of_row facts) config.dealers =
    all_offers config.dealers facts each in
    let most : sum_by (of_row facts) config.dealers ≤ 4096 * length config.dealers =
    sum_most (of_row facts) config.dealers few in
    let dealers : length config.dealers ≤ 64 = limits.dealers_most in
    omega arith
