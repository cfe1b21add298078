-- An item of a list by how many of those before it pass a test.
use Rattle.std.proofs.Common.{◌≡◌, ◌<◌, ◌≤◌, ℕ, zero, suc, ◌+◌, Bool, true, false, ◌||◌, List, []}
use Rattle.std.proofs.Common.{◌∷◌, take, count_by, slice_get, Some, arith, cond, refl, sym, ap, ◌∙◌}
use Rattle.std.specs.List.{list_any}
use Rattle.std.proofs.lemmas.List.Sums.{sum_by-cons}

-- Lists.

counted : {A : Type 0} (p : A → Bool) (x : A) (xs : List A)
    → count_by p (x ∷ xs) ≡ cond (p x) 1 0 + count_by p xs
counted p x xs = sum_by-cons (λ (y : _). cond (p y) 1 0) x xs

-- more items count no less
pub mono : {A : Type 0} (p : A → Bool) (xs : List A) (n m : ℕ) → n ≤ m
    → count_by p (take n xs) ≤ count_by p (take m xs)
mono p xs zero m le = omega arith
mono p [] (suc n) m le = omega arith
mono p (x ∷ xs) (suc n) zero le = absurd (omega arith)
mono p (x ∷ xs) (suc n) (suc m) le =
    let rest : n ≤ m = omega arith in
    let less : count_by p (take n xs) ≤ count_by p (take m xs) = mono p xs n m rest in
    omega (arith, counted p x (take n xs), counted p x (take m xs), less)

-- the place of an item that passes, by how many pass before it
pub record Nth {A : Type 0} (p : A → Bool) (xs : List A) (j : ℕ) : Type 0 where
  pub place : ℕ
  pub item : A
  pub there : slice_get xs place ≡ Some item
  pub passes : p item ≡ true
  pub before : count_by p (take place xs) ≡ j

pub nth : {A : Type 0} (p : A → Bool) (xs : List A) (j : ℕ) → j < count_by p xs → Nth p xs j
nth p [] j below = absurd (omega arith)
nth p (x ∷ xs) j below =
    by_test (λ (i : ℕ) (under : i < count_by p xs). nth p xs i under) (p x) refl j below
  where
    by_test : ((i : ℕ) → i < count_by p xs → Nth p xs i) → (b : Bool) → p x ≡ b → (i : ℕ)
        → i < count_by p (x ∷ xs) → Nth p (x ∷ xs) i
    by_test later true passes zero under = record {
      place = 0;
      item = x;
      there = refl;
      passes = passes;
      before = refl;
    }
    by_test later true passes (suc i) under =
        let one : count_by p (x ∷ xs) ≡ 1 + count_by p xs =
        counted p x xs ∙ ap (λ (b : Bool). cond b 1 0 + count_by p xs) passes in
        let rest : i < count_by p xs = omega arith in
        let found = later i rest in
        let front : count_by p (x ∷ take found.place xs) ≡ 1 + count_by p (take found.place xs) =
        counted p x (take found.place xs)
        ∙ ap (λ (b : Bool). cond b 1 0 + count_by p (take found.place xs)) passes in
        record {
          place = suc found.place;
          item = found.item;
          there = found.there;
          passes = found.passes;
          before = omega (arith, front, found.before);
        }
    by_test later false fails i under =
        let none : count_by p (x ∷ xs) ≡ 0 + count_by p xs =
        counted p x xs ∙ ap (λ (b : Bool). cond b 1 0 + count_by p xs) fails in
        let rest : i < count_by p xs = omega arith in
        let found = later i rest in
        let front : count_by p (x ∷ take found.place xs) ≡ 0 + count_by p (take found.place xs) =
        counted p x (take found.place xs)
        ∙ ap (λ (b : Bool). cond b 1 0 + count_by p (take found.place xs)) fails in
        record {
          place = suc found.place;
          item = found.item;
          there = found.there;
          passes = found.passes;
          before = omega (arith, front, found.before);
        }

-- where none of some items passes, an item of them does not
pub none_passes : {A : Type 0} (p : A → Bool) (xs : List A) (n place : ℕ) (x : A)
    → slice_get xs place ≡ Some x → place < n → list_any p (take n xs) ≡ false → p x ≡ false
none_passes p [] n place x there below none = cc
none_passes p (y ∷ ys) zero place x there below none = absurd (omega arith)
none_passes p (y ∷ ys) (suc n) zero x there below none =
    let same : y ≡ x = cc in
    ap p (sym same) ∙ first (p y) (list_any p (take n ys)) none
  where
    first : (a b : Bool) → (a || b) ≡ false → a ≡ false
    first true b both = both
    first false b both = refl
none_passes p (y ∷ ys) (suc n) (suc place) x there below none =
    let rest : place < n = omega arith in
    none_passes p ys n place x there rest (second (p y) (list_any p (take n ys)) none)
  where
    second : (a b : Bool) → (a || b) ≡ false → b ≡ false
    second true b both = absurd cc
    second false b both = both
