-- What stands at a place of a list that is changed, cut or one item longer.
use Rattle.std.proofs.Common.{◌≡◌, ◌<◌, ℕ, zero, suc, ◌+◌, ◌⊎◌, inl, inr, List, [], ◌∷◌, ◌++◌}
use Rattle.std.proofs.Common.{length, take, drop, slice_get, slice_set, Some, arith, refl, sym, ap}
use Rattle.std.proofs.Common.{◌∙◌}

-- Lists.

pub set_else : {A : Type 0} (xs : List A) (i j : ℕ) (y : A) → (i ≡ j → ⊥)
    → slice_get (slice_set xs i y) j ≡ slice_get xs j
set_else [] i j y apart = refl
set_else (x ∷ xs) zero zero y apart = absurd (apart refl)
set_else (x ∷ xs) zero (suc j) y apart = refl
set_else (x ∷ xs) (suc i) zero y apart = refl
set_else (x ∷ xs) (suc i) (suc j) y apart =
    set_else xs i j y (λ same. apart (ap (λ (n : ℕ). suc n) same))

pub got_end : {A : Type 0} (xs : List A) (y : A) → slice_get (xs ++ y ∷ []) (length xs) ≡ Some y
got_end [] y = refl
got_end (x ∷ xs) y = got_end xs y

-- what stands in a list with one item more is that item or stood there
pub got_push : {A : Type 0} (xs : List A) (y : A) (j : ℕ) (z : A)
    → slice_get (xs ++ y ∷ []) j ≡ Some z
    → (slice_get xs j ≡ Some z) ⊎ ((j ≡ length xs) × (z ≡ y))
got_push [] y zero z is = let same : y ≡ z = cc in inr (refl, sym same)
got_push [] y (suc j) z is = cc
got_push (x ∷ xs) y zero z is = inl is
got_push (x ∷ xs) y (suc j) z is = by_rest (got_push xs y j z is)
  where
    by_rest : (slice_get xs j ≡ Some z) ⊎ ((j ≡ length xs) × (z ≡ y))
        → (slice_get (x ∷ xs) (suc j) ≡ Some z) ⊎ ((suc j ≡ length (x ∷ xs)) × (z ≡ y))
    by_rest (inl there) = inl there
    by_rest (inr last) = inr (ap (λ (n : ℕ). suc n) last.0, last.1)

pub got_take : {A : Type 0} (n : ℕ) (xs : List A) (j : ℕ) (z : A)
    → slice_get (take n xs) j ≡ Some z → (j < n) × (slice_get xs j ≡ Some z)
got_take zero xs j z is = cc
got_take (suc n) [] j z is = cc
got_take (suc n) (x ∷ xs) zero z is = let least : 0 < suc n = omega arith in (least, is)
got_take (suc n) (x ∷ xs) (suc j) z is =
    let rest = got_take n xs j z is in
    let below : j < n = rest.0 in
    let more : suc j < suc n = omega arith in
    (more, rest.1)

pub take_got : {A : Type 0} (n : ℕ) (xs : List A) (j : ℕ) (z : A) → j < n
    → slice_get xs j ≡ Some z → slice_get (take n xs) j ≡ Some z
take_got zero xs j z below is = absurd (omega arith)
take_got (suc n) [] j z below is = cc
take_got (suc n) (x ∷ xs) zero z below is = is
take_got (suc n) (x ∷ xs) (suc j) z below is =
    let rest : j < n = omega arith in
    take_got n xs j z rest is

pub got_drop : {A : Type 0} (n : ℕ) (xs : List A) (j : ℕ)
    → slice_get (drop n xs) j ≡ slice_get xs (n + j)
got_drop zero xs j = let same : 0 + j ≡ j = omega arith in ap (slice_get xs) (sym same)
got_drop (suc n) [] j = refl
got_drop (suc n) (x ∷ xs) j =
    let same : suc n + j ≡ suc (n + j) = omega arith in
    got_drop n xs j ∙ ap (slice_get (x ∷ xs)) (sym same)
