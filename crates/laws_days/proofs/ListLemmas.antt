-- Options and lists: what the lemmas on a venue take of them.
use Rattle.laws_days.proofs.Common.{Bool, IfSome, List, None, Option, Some, ℕ, [], ap, arith}
use Rattle.laws_days.proofs.Common.{eq-eqb, false, filter, filter_map, find, inl, inr, is_none}
use Rattle.laws_days.proofs.Common.{is_some, length, map, refl, subst, suc, true, zero, ◌++◌, ◌==◌}
use Rattle.laws_days.proofs.Common.{◌∷◌, ◌≡◌, ◌≤◌, ◌⊎◌, cases_Bool, eqb-true, or_cases, or_left}
use Rattle.laws_days.proofs.Common.{or_right, same_Some, list_any, slice_get, Every, In}
use Rattle.std.proofs.lemmas.List.Folds.{find-append}
use Rattle.std.specs.Option.{option_or}

-- Options.

pub none_is : {A : Type 0} (o : Option A) → is_none o ≡ true → o ≡ None
none_is None is = refl
none_is (Some x) is = cc

pub none_some : {A : Type 0} (o : Option A) → is_some o ≡ false → o ≡ None
none_some None is = refl
none_some (Some x) is = cc

pub some_of : {A : Type 0} (o : Option A) → is_some o ≡ true → (x : A) × (o ≡ Some x)
some_of None is = cc
some_of (Some x) is = (x, refl)

pub cases_some : {A : Type 0} (o : Option A) → (o ≡ None) ⊎ ((x : A) × (o ≡ Some x))
cases_some None = inl refl
cases_some (Some x) = inr (x, refl)

-- What holds of each item.

pub every_map : {A B : Type 0} (P : B → Type 0) (f : A → B) (xs : List A)
    → ((x : A) → In x xs → P (f x)) → Every P (map f xs)
every_map P f [] each = tt
every_map P f (x ∷ xs) each = (each x (inl refl), every_map P f xs (λ y is. each y (inr is)))

pub slice_holds : {A : Type 0} (P : A → Type 0) (xs : List A) (place : ℕ) (x : A)
    → slice_get xs place ≡ Some x → Every P xs → P x
slice_holds P [] place x is all = cc
slice_holds P (y ∷ xs) zero x is all = subst P (same_Some y x is) all.0
slice_holds P (y ∷ xs) (suc place) x is all = slice_holds P xs place x is all.1

pub found_all : {A B : Type 0} (Q : B → Type 0) (says : A → Option B)
    → ((x : A) (y : B) → says x ≡ Some y → Q y) → (xs : List A) → Every Q (filter_map says xs)
found_all Q says each [] = tt
found_all Q says each (x ∷ xs) = elim (cases_some (says x)) [
  | inl none ↦ rw none (found_all Q says each xs)
  | inr some ↦ rw (some.1) (each x some.0 some.1, found_all Q says each xs)
]

-- What stands in a list.

pub in_map : {A B : Type 0} (f : A → B) (x : A) (xs : List A) → In x xs → In (f x) (map f xs)
in_map f x [] is = absurd is
in_map f x (y ∷ xs) (inl is) = inl (ap f is)
in_map f x (y ∷ xs) (inr is) = inr (in_map f x xs is)

pub in_both : {A : Type 0} (x : A) (xs ys : List A) → In x (xs ++ ys) → In x xs ⊎ In x ys
in_both x [] ys is = inr is
in_both x (y ∷ xs) ys (inl is) = inl (inl is)
in_both x (y ∷ xs) ys (inr is) =
    elim (in_both x xs ys is) [ inl before ↦ inl (inr before) | inr behind ↦ inr behind ]

pub in_one : {A : Type 0} (x y : A) → In x (y ∷ []) → y ≡ x
in_one x y (inl is) = is
in_one x y (inr is) = absurd is

-- what is found in an item
pub in_found : {A B : Type 0} (says : A → Option B) (y : B) (xs : List A)
    → In y (filter_map says xs) → (x : A) × (says x ≡ Some y) × In x xs
in_found says y [] is = absurd is
in_found says y (x ∷ xs) is = elim (cases_some (says x)) [
  | inl none ↦
      let later = in_found says y xs (rw none at is) in (later.0, later.1, inr later.2)
  | inr some ↦ elim (rw (some.1) at is) [
    | inl here ↦ (x, rw here at some.1, inl refl)
    | inr behind ↦ let later = in_found says y xs behind in (later.0, later.1, inr later.2)
  ]
]

pub found_in : {A B : Type 0} (says : A → Option B) (x : A) (y : B) (xs : List A)
    → says x ≡ Some y → In x xs → In y (filter_map says xs)
found_in says x y [] so is = absurd is
found_in says x y (z ∷ xs) so (inl is) = rw (is, so) (inl refl)
found_in says x y (z ∷ xs) so (inr is) = elim (cases_some (says z)) [
  | inl none ↦ rw none (found_in says x y xs so is)
  | inr some ↦ rw (some.1) (inr (found_in says x y xs so is))
]

-- one that passes a test is left
pub in_filter : {A : Type 0} (test : A → Bool) (x : A) (xs : List A) → In x xs → test x ≡ true
    → In x (filter test xs)
in_filter test x [] is passes = absurd is
in_filter test x (y ∷ xs) (inl is) passes = rw (ap test is, passes) (inl is)
in_filter test x (y ∷ xs) (inr is) passes = elim (cases_Bool (test y)) [
  | inl also ↦ rw also (inr (in_filter test x xs is passes))
  | inr fails ↦ rw fails (in_filter test x xs is passes)
]

pub only_one : {A : Type 0} (x : A) (xs : List A) → In x xs → length xs ≤ 1 → xs ≡ x ∷ []
only_one x [] is few = absurd is
only_one x (y ∷ []) (inl is) few = ap (λ z. z ∷ []) is
only_one x (y ∷ []) (inr is) few = absurd is
only_one x (y ∷ z ∷ xs) is few = absurd (omega arith)

pub named_in : (dealer : ℕ) (dealers : List ℕ) → In dealer dealers
    → list_any (λ (named : ℕ). named == dealer) dealers ≡ true
named_in dealer [] is = absurd is
named_in dealer (other ∷ dealers) (inl is) = or_left _ _ (eq-eqb other dealer is)
named_in dealer (other ∷ dealers) (inr is) =
    or_right (other == dealer) _ (named_in dealer dealers is)

pub in_named : (dealer : ℕ) (dealers : List ℕ)
    → list_any (λ (named : ℕ). named == dealer) dealers ≡ true → In dealer dealers
in_named dealer [] is = cc
in_named dealer (other ∷ dealers) is = elim (or_cases (other == dealer) _ is) [
  | inl test ↦ inl (eqb-true other dealer test)
  | inr later ↦ inr (in_named dealer dealers later)
]

-- What is found first.

-- the first that is found passes the test
pub found_passes : {X : Type 0} (test : X → Bool) (xs : List X) (x : X) → find test xs ≡ Some x
    → test x ≡ true
found_passes test [] x is = cc
found_passes test (y ∷ ys) x is = elim (cases_Bool (test y)) [
  | inl passes ↦ rw (same_Some y x (rw passes at is)) at passes
  | inr fails ↦ found_passes test ys x (rw fails at is)
]

-- what is found, if something is, is one of the list
pub first_of_every : {X : Type 0} (P : X → Type 0) (test : X → Bool) (xs : List X) → Every P xs
    → IfSome (find test xs) P
first_of_every P test [] all = tt
first_of_every P test (x ∷ xs) all = elim (cases_Bool (test x)) [
  | inl passes ↦ rw passes (all.0)
  | inr fails ↦ rw fails (first_of_every P test xs all.1)
]

pub find_grown : {A : Type 0} (test : A → Bool) (xs ys : List A) (x : A)
    → find test xs ≡ Some x → find test (xs ++ ys) ≡ Some x
find_grown test xs ys x is = rw (find-append test xs ys, is) refl

-- the first that some items say stays the first
pub first_grown : {E A : Type 0} (first : List E → Option A) (says : E → Option A)
    → ((x : E) (xs : List E) → first (x ∷ xs) ≡ option_or (says x) (first xs)) → first [] ≡ None
    → (y : A) (xs more : List E) → first xs ≡ Some y → first (xs ++ more) ≡ Some y
first_grown first says step none y [] more is = cc
first_grown first says step none y (x ∷ xs) more is = elim (cases_some (says x)) [
  | inl silent ↦ rw (step x (xs ++ more), silent)
      (first_grown first says step none y xs more (rw (step x xs, silent) at is))
  | inr some ↦ rw (step x (xs ++ more), some.1) (rw (step x xs, some.1) at is)
]
