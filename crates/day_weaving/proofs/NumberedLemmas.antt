-- Options, and lists whose items are numbered from 1.
use Rattle.std.proofs.Common.{◌≡◌, ◌<◌, ◌≤◌, ℕ, zero, suc, ◌-◌, Bool, true, false, nat_lt, length}
use Rattle.std.proofs.Common.{Option, Some, None, is_some, slice_get, arith, if◌then◌else◌, refl}
use Rattle.std.proofs.Common.{ap, ◌∙◌, List, [], ◌∷◌}
use Rattle.std.specs.Prelude.{IfNone, option_and_then}
use Rattle.std.specs.Option.{option_map}
use Rattle.std.proofs.lemmas.Bool.Decides.{nat_tests}
use Rattle.std.proofs.lemmas.Option.{slice_get_within}

-- Options and lists.

-- what was found, by what was made of it
pub mapped : {A B : Type 0} (f : A → B) (found : Option A) (y : B) → option_map f found ≡ Some y
    → (x : A) × (found ≡ Some x) × (f x ≡ y)
mapped f None y is = cc
mapped f (Some x) y is = let same : f x ≡ y = cc in (x, refl, same)

pub some_is : {A : Type 0} (found : Option A) → is_some found ≡ true
    → (x : A) × (found ≡ Some x)
some_is None is = cc
some_is (Some x) is = (x, refl)

pub then_some : {A B : Type 0} (f : A → Option B) (found : Option A)
    → is_some (option_and_then f found) ≡ true
    → (x : A) × (found ≡ Some x) × (is_some (f x) ≡ true)
then_some f None is = cc
then_some f (Some x) is = (x, refl, is)

pub within_some : {A : Type 0} (xs : List A) (i : ℕ) → i < length xs
    → (x : A) × (slice_get xs i ≡ Some x)
within_some [] i within = absurd (omega arith)
within_some (x ∷ xs) zero within = (x, refl)
within_some (x ∷ xs) (suc i) within =
    let rest : i < length xs = omega arith in
    within_some xs i rest

pub none_then : {A : Type 0} (found : Option A) (P Q : Type 0) → (P → Q) → IfNone found P
    → IfNone found Q
none_then None P Q so holds = so holds
none_then (Some x) P Q so holds = tt

-- of a list whose items are numbered from 1, the one with a number
abbrev pub numbered : {A : Type 0} → ℕ → List A → Option A
numbered number xs = if nat_lt 0 number then slice_get xs (number - 1) else None

pub numbered_at : {A : Type 0} (xs : List A) (number : ℕ) → 0 < number
    → numbered number xs ≡ slice_get xs (number - 1)
numbered_at xs number least =
    let test : nat_lt 0 number ≡ true = grind (arith, nat_tests) in
    rw test refl

pub numbered_in : {A : Type 0} (xs : List A) (number : ℕ) → 0 < number → number ≤ length xs
    → is_some (numbered number xs) ≡ true
numbered_in xs number least within =
    let inside : number - 1 < length xs = omega arith in
    let there = within_some xs (number - 1) inside in
    ap is_some (numbered_at xs number least ∙ there.1)

pub numbered_some : {A : Type 0} (xs : List A) (number : ℕ) → is_some (numbered number xs) ≡ true
    → (0 < number) × (number ≤ length xs)
numbered_some xs number is = by_test (nat_lt 0 number) refl is
  where
    by_test : (b : Bool) → nat_lt 0 number ≡ b
        → is_some (if b then slice_get xs (number - 1) else None) ≡ true
        → (0 < number) × (number ≤ length xs)
    by_test true test found =
        let there = some_is (slice_get xs (number - 1)) found in
        let least : 0 < number = grind (arith, nat_tests) in
        let within : number - 1 < length xs = slice_get_within xs (number - 1) there.0 there.1 in
        let most : number ≤ length xs = omega arith in
        (least, most)
    by_test false test found = cc
