-- The first place of a byte in a text, and texts that the byte stands nowhere in.
use Rattle.std.proofs.Common.{◌≡◌, ◌≢◌, ℕ, ◌+◌, ◌<◌, ◌≤◌, ◌==◌, ◌⊎◌, Bool, false, List, [], ◌∷◌}
use Rattle.std.proofs.Common.{◌++◌, length, take, drop, get_or, ap, ◌∙◌, refl, arith, inl, inr}
use Rattle.std.proofs.Common.{zero, suc, add-one, zero-add}
use Rattle.std.specs.List.{position_or_len, AllByRecursion}
use Rattle.std.specs.Str.Parse.{AllDigits}
use Rattle.std.proofs.lemmas.Bool.Decides.{nat_tests}
use Rattle.std.proofs.lemmas.Bool.{cases_Bool}
use Rattle.std.proofs.Math.Nat.{add_comm}
use Rattle.std.proofs.lemmas.List.Sums.{split_at_first, passes_at_first}
use Rattle.std.proofs.lemmas.Str.Parse.{digit_from_value}
use Rattle.fix_fields.specs.Frame.{is_value}

-- a byte stands nowhere in a list
abbrev pub IsFree : ℕ → List ℕ → Type 0
IsFree c xs = AllByRecursion (λ x. x ≢ c) xs

abbrev pub place_of : ℕ → List ℕ → ℕ
place_of c xs = position_or_len (λ x. x == c) xs

pub place_behind : (c : ℕ) (xs rest : List ℕ) → IsFree c xs → place_of c (xs ++ c ∷ rest) ≡ length xs
place_behind c [] rest free = grind (arith, nat_tests)
place_behind c (x ∷ xs) rest free =
    let other : (x == c) ≡ false = (let h = free.0 in grind (arith, nat_tests)) in
    rw (other, place_behind c xs rest free.1) (omega arith)

-- bytes that are passed over
pub place_from : (c n : ℕ) (xs : List ℕ) → n ≤ length xs → ((k : ℕ) → k < n → (get_or xs k 0 == c) ≡ false)
    → n + place_of c (drop n xs) ≡ place_of c xs
place_from c zero xs fits each = zero-add (place_of c xs)
place_from c (suc n) [] fits each = absurd (omega arith)
place_from c (suc n) (x ∷ xs) fits each =
    let here : (x == c) ≡ false = each 0 (omega arith) in
    rw here (omega (arith, place_from c n xs (omega arith) (λ k less. each (suc k) (omega arith))))

-- what stands before the first such byte is free of it
pub free_before : (c : ℕ) (xs : List ℕ) → IsFree c (take (place_of c xs) xs)
free_before c [] = tt
free_before c (x ∷ xs) =
    elim (cases_Bool (x == c)) [
      | inl same ↦ rw same tt
      | inr other ↦ rw (other, add_comm 1 (place_of c xs), add-one) ((let t = other in grind (arith, nat_tests)), free_before c xs)
    ]

pub free_digits : (c : ℕ) (text : List ℕ) → (c < 48) ⊎ (57 < c) → AllDigits 10 text → IsFree c text
free_digits c [] out all = tt
free_digits c (x ∷ text) out all =
    ((let range = digit_from_value x all.0 in elim out [ inl low ↦ omega arith | inr high ↦ omega arith ]), free_digits c text out all.1)

pub free_append : (c : ℕ) (xs ys : List ℕ) → IsFree c xs → IsFree c ys → IsFree c (xs ++ ys)
free_append c [] ys f g = g
free_append c (x ∷ xs) ys f g = (f.0, free_append c xs ys f.1 g)

-- a text is a value exactly where it has no place of an SOH
pub value_by_place : (text : List ℕ) → (place_of 1 text == length text) ≡ is_value text
value_by_place [] = refl
value_by_place (x ∷ text) =
    elim (cases_Bool (x == 1)) [
      | inl same ↦ (let t = same in rw same (grind (arith, nat_tests)))
      | inr other ↦ rw (other, ← value_by_place text) (grind (arith, nat_tests))
    ]

-- a list is cut at the first such byte
pub cut_at : (c : ℕ) (xs : List ℕ) → place_of c xs < length xs
    → xs ≡ take (place_of c xs) xs ++ (c ∷ drop (place_of c xs + 1) xs)
cut_at c xs inside =
    let p : ℕ → Bool = λ x. x == c in
    let passes = passes_at_first p xs 0 inside in
    let here : get_or xs (place_of c xs) 0 ≡ c = grind (arith, nat_tests) in
    split_at_first p xs 0 inside ∙ ap (λ x. take (place_of c xs) xs ++ (x ∷ drop (place_of c xs + 1) xs)) here
