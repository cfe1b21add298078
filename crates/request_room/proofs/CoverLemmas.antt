-- The cover is the best of the quotes of the other dealers.
use Rattle.std.proofs.Common.{◌≡◌, ◌≢◌, ◌↔◌, ℕ, suc, zero, ◌<◌, Bool, true, false, ◌==◌}
use Rattle.std.proofs.Common.{not, cond, List, [], ◌∷◌, length, Option, Some, None, IfSome, filter}
use Rattle.std.proofs.Common.{find, get_or, ltb, refl, ap, sym, ◌∙◌, arith}
use Rattle.std.specs.Cmp.{IsStrictWeakOrder}
use Rattle.std.specs.List.{list_any, IsFirstBest, best_of as best_so_far}
use Rattle.std.proofs.lemmas.List.{get_or_default}
use Rattle.std.proofs.lemmas.Bool.Decides.{nat_tests}
use Rattle.std.proofs.lemmas.List.Folds.{list_any_none, list_any_at}
use Rattle.std.proofs.lemmas.List.MinMax.{IsFirstBest-from_best_of, IsStrictWeakOrder-by_number}
use Rattle.std.proofs.lemmas.List.MinMax.{IsStrictWeakOrder-flip}
use Rattle.market_terms.specs.declared.asks.Side.{Side}
use Rattle.market_terms.specs.declared.asks.Side.TheVariants.{Buy, Sell}
use Rattle.request_room.specs.declared.quotes.PostedQuote.{PostedQuote}
use Rattle.request_room.specs.Book.{has_better_price, others, best_of, cover_of, IsBest}

-- The best of some quotes.

find_first : {X : Type 0} (p : X → Bool) (xs : List X) (b : ℕ) (d : X) → b < length xs
    → p (get_or xs b d) ≡ true → ((k : ℕ) → k < b → p (get_or xs k d) ≡ false) → find p xs
    ≡ Some (get_or xs b d)
find_first p [] b d within here before = absurd (omega arith)
find_first p (x ∷ xs) zero d within here before = ap (λ t. cond t (Some x) (find p xs)) here
find_first p (x ∷ xs) (suc b) d within here before =
    ap (λ t. cond t (Some x) (find p xs)) (before 0 (omega arith))
    ∙ find_first p xs b d (omega arith) here (λ k below. before (suc k) (omega arith))

by_price : (side : Side) → IsStrictWeakOrder (has_better_price side)
by_price Buy = IsStrictWeakOrder-by_number (λ quote. quote.price)
by_price Sell =
    IsStrictWeakOrder-flip (λ quote other. ltb quote.price other.price)
    (IsStrictWeakOrder-by_number (λ quote. quote.price))

-- what stands at the first place at which none is better is found
best_found : (side : Side) (quotes : List PostedQuote) (b : ℕ) (d : PostedQuote)
    → IsFirstBest (has_better_price side) quotes (length quotes) b → best_of side quotes
    ≡ Some (get_or quotes b d)
best_found side quotes b d best =
    let none_better : list_any (λ other. has_better_price side other (get_or quotes b d)) quotes
    ≡ false =
    list_any_none (λ other. has_better_price side other (get_or quotes b d)) quotes
    (λ k e below. rw (get_or_default quotes b d e best.0) (best.1 k e below)) in
    find_first (λ quote. not (list_any (λ other. has_better_price side other quote) quotes)) quotes
    b d best.0
    (ap not none_better)
    (λ k below. ap not (list_any_at (λ other. has_better_price side other (get_or quotes k d))
    quotes b d best.0 (best.2 k d below)))

-- there is a best of some quotes where there are any
best_of_some : (side : Side) (first : PostedQuote) (later : List PostedQuote)
    → (best : PostedQuote) × (best_of side (first ∷ later) ≡ Some best)
    × IsBest side (first ∷ later) best
best_of_some side first later =
    let found = IsFirstBest-from_best_of (by_price side) first later in
    let best : PostedQuote = get_or (first ∷ later) found.0 first in
    let is_best : IsBest side (first ∷ later) best =
    record {
      place = found.0;
      stands_there =
          get_or_default (first ∷ later) found.0 best first found.1.0;
      first_best = found.1;
    } in
    (best, best_found side (first ∷ later) found.0 first found.1, is_best)

best_is_best : (side : Side) (quotes : List PostedQuote)
    → IfSome (best_of side quotes) (λ best. IsBest side quotes best)
best_is_best side [] = tt
best_is_best side (first ∷ later) = let found = best_of_some side first later in rw found.1 found.2

best_if_any : (side : Side) (quotes : List PostedQuote) → best_of side quotes ≡ None → quotes ≡ []
best_if_any side [] h = refl
best_if_any side (first ∷ later) h = let found = best_of_some side first later in
    let clash : Some found.0 ≡ None = sym found.1 ∙ h in absurd (cc)

-- The cover.

-- the cover is the best of the quotes of the other dealers
pub cover_is_best : (side : Side) (winner : ℕ) (book : List PostedQuote)
    → IfSome (cover_of side winner book) (λ cover. IsBest side (others winner book) cover)
unfolding cover_of
cover_is_best side winner book = best_is_best side (others winner book)

no_best : (side : Side) (quotes : List PostedQuote) → quotes ≡ [] → best_of side quotes ≡ None
no_best side quotes h = ap (best_of side) h

-- there is none exactly where no other dealer's quote stands
pub cover_if_any : (side : Side) (winner : ℕ) (book : List PostedQuote)
    → (cover_of side winner book ≡ None) ↔ (others winner book ≡ [])
unfolding cover_of
cover_if_any side winner book =
    (best_if_any side (others winner book), no_best side (others winner book))

-- what is found among those that pass a test passes it
found_step : {X : Type 0} (p q : X → Bool) (x : X) (xs : List X) (here : Bool) → p x ≡ here
    → IfSome (find q (filter p xs)) (λ y. p y ≡ true)
    → IfSome (find q (cond here (x ∷ filter p xs) (filter p xs))) (λ y. p y ≡ true)
found_step p q x xs true h more =
    elim (q x) as (λ b. IfSome (cond b (Some x) (find q (filter p xs))) (λ y. p y ≡ true))
    [ true ↦ h | false ↦ more ]
found_step p q x xs false h more = more

found_passes : {X : Type 0} (p q : X → Bool) (xs : List X)
    → IfSome (find q (filter p xs)) (λ x. p x ≡ true)
found_passes p q [] = tt
found_passes p q (x ∷ xs) = found_step p q x xs (p x) refl (found_passes p q xs)

another : (dealer winner : ℕ) → not (dealer == winner) ≡ true → dealer ≢ winner
another dealer winner h = grind (arith, nat_tests)

passes_another : (winner : ℕ) (found : Option PostedQuote)
    → IfSome found (λ quote. not (quote.dealer == winner) ≡ true)
    → IfSome found (λ quote. quote.dealer ≢ winner)
passes_another winner None h = tt
passes_another winner (Some quote) h = another quote.dealer winner h

-- the cover is never the winner's quote
pub cover_is_another : (side : Side) (winner : ℕ) (book : List PostedQuote)
    → IfSome (cover_of side winner book) (λ cover. cover.dealer ≢ winner)
unfolding cover_of
cover_is_another side winner book =
    passes_another winner (best_of side (others winner book))
    (found_passes (λ quote. not (quote.dealer == winner))
    (λ quote. not (list_any (λ other. has_better_price side other quote) (others winner book)))
    book)

-- The best so far, quote by quote.

-- the best of some quotes is the first that no later one beats
pub best_is_so_far : (side : Side) (first : PostedQuote) (later : List PostedQuote)
    → best_of side (first ∷ later) ≡ Some (best_so_far (has_better_price side) first later)
best_is_so_far side first later =
    let found = IsFirstBest-from_best_of (by_price side) first later in
    best_found side (first ∷ later) found.0 first found.1 ∙ ap Some found.2
