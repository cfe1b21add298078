-- Options and lists: what the lemmas on what is shown take of them.
use Rattle.std.proofs.Common.{◌<◌, ◌≡◌, ◌≤◌, ℕ, zero, suc, ◌+◌, Bool, true, List, [], ◌∷◌, ◌++◌}
use Rattle.std.proofs.Common.{filter_map, map, find, length, Option, Some, None, ◌⊎◌, inl, inr, refl}
use Rattle.std.proofs.Common.{sym, ap, ◌∙◌, subst, arith, is_some}
use Rattle.std.specs.Prelude.{slice_get}
use Rattle.std.specs.List.{AllZip}
use Rattle.std.proofs.lemmas.Bool.{cases_Bool}
use Rattle.std.proofs.lemmas.Option.{same_Some, slice_get_within}
use Rattle.step_replay.specs.GrowthLemmas.{in_right}
use Rattle.step_replay.specs.Lists.{Every, In}
use Rattle.step_replay.specs.PlaceLemmas.{get_first}

pub cases_some : {A : Type 0} (o : Option A) → (o ≡ None) ⊎ ((x : A) × (o ≡ Some x))
cases_some None = inl refl
cases_some (Some x) = inr (x, refl)

pub some_of : {A : Type 0} (o : Option A) → is_some o ≡ true → (x : A) × (o ≡ Some x)
some_of None is = cc
some_of (Some x) is = (x, refl)

-- What stands in a list.

pub in_map : {A B : Type 0} (f : A → B) (x : A) (xs : List A) → In x xs → In (f x) (map f xs)
in_map f x [] is = absurd is
in_map f x (y ∷ xs) (inl is) = inl (ap f is)
in_map f x (y ∷ xs) (inr is) = inr (in_map f x xs is)

pub in_found : {A B : Type 0} (says : A → Option B) (y : B) (xs : List A)
    → In y (filter_map says xs) → (x : A) × (says x ≡ Some y) × In x xs
in_found says y [] is = absurd is
in_found says y (x ∷ xs) is = elim (cases_some (says x)) [
  | inl none ↦
      let later = in_found says y xs (rw none at is) in (later.0, later.1, inr later.2)
  | inr some ↦ elim (rw (some.1) at is) [
    | inl here ↦ (x, rw here at some.1, inl refl)
    | inr behind ↦ let later = in_found says y xs behind in (later.0, later.1, inr later.2)
  ]
]

pub found_in : {A B : Type 0} (says : A → Option B) (x : A) (y : B) (xs : List A)
    → says x ≡ Some y → In x xs → In y (filter_map says xs)
found_in says x y [] so is = absurd is
found_in says x y (z ∷ xs) so (inl is) = rw (is, so) (inl refl)
found_in says x y (z ∷ xs) so (inr is) = elim (cases_some (says z)) [
  | inl none ↦ rw none (found_in says x y xs so is)
  | inr some ↦ rw (some.1) (inr (found_in says x y xs so is))
]

pub every_map : {A B : Type 0} (P : B → Type 0) (f : A → B) (xs : List A)
    → ((x : A) → In x xs → P (f x)) → Every P (map f xs)
every_map P f [] each = tt
every_map P f (x ∷ xs) each = (each x (inl refl), every_map P f xs (λ y is. each y (inr is)))

pub in_every : {A : Type 0} (P : A → Type 0) (xs : List A) → ((x : A) → In x xs → P x)
    → Every P xs
in_every P [] each = tt
in_every P (x ∷ xs) each = (each x (inl refl), in_every P xs (λ y is. each y (inr is)))

-- what stands at a place stands there whatever comes behind
pub get_grown : {A : Type 0} (xs ys : List A) (place : ℕ) (x : A) → slice_get xs place ≡ Some x
    → slice_get (xs ++ ys) place ≡ Some x
get_grown xs ys place x is = get_first xs ys place (slice_get_within xs place x is) ∙ is

-- the first that passes a test is one of the list, and passes it
pub found_first : {A : Type 0} (test : A → Bool) (xs : List A) (x : A) → find test xs ≡ Some x
    → (test x ≡ true) × In x xs
found_first test [] x found = cc
found_first test (y ∷ xs) x found = elim (cases_Bool (test y)) [
  | inl is ↦
      let same = same_Some y x (rw is at found) in (subst (λ z. test z ≡ true) same is, inl same)
  | inr isnt ↦ let later = found_first test xs x (rw isnt at found) in (later.0, inr later.1)
]

-- Two lists of which the items stand so to each other, place by place.

abbrev pub Paired : {X Y : Type 0} → (X → Y → Type 0) → List X → List Y → Type 0
Paired P [] [] = Unit {0}
Paired P [] (y ∷ ys) = ⊥
Paired P (x ∷ xs) [] = ⊥
Paired P (x ∷ xs) (y ∷ ys) = P x y × Paired P xs ys

pub paired_weaker : {X Y : Type 0} (P Q : X → Y → Type 0) → ((x : X) (y : Y) → P x y → Q x y)
    → (xs : List X) (ys : List Y) → Paired P xs ys → Paired Q xs ys
paired_weaker P Q weaker [] [] pairs = tt
paired_weaker P Q weaker [] (y ∷ ys) pairs = absurd pairs
paired_weaker P Q weaker (x ∷ xs) [] pairs = absurd pairs
paired_weaker P Q weaker (x ∷ xs) (y ∷ ys) pairs =
    (weaker x y pairs.0, paired_weaker P Q weaker xs ys pairs.1)

pub paired_both : {X Y : Type 0} (P : X → Y → Type 0) (xs more : List X) (ys too : List Y)
    → Paired P xs ys → Paired P more too → Paired P (xs ++ more) (ys ++ too)
paired_both P [] more [] too pairs others = others
paired_both P [] more (y ∷ ys) too pairs others = absurd pairs
paired_both P (x ∷ xs) more [] too pairs others = absurd pairs
paired_both P (x ∷ xs) more (y ∷ ys) too pairs others =
    (pairs.0, paired_both P xs more ys too pairs.1 others)

pub paired_at : {X Y : Type 0} (P : X → Y → Type 0) (xs : List X) (ys : List Y)
    → Paired P xs ys → (place : ℕ) (x : X) → slice_get xs place ≡ Some x
    → (y : Y) × (slice_get ys place ≡ Some y) × P x y
paired_at P [] [] pairs place x is = cc
paired_at P [] (y ∷ ys) pairs place x is = absurd pairs
paired_at P (z ∷ xs) [] pairs place x is = absurd pairs
paired_at P (z ∷ xs) (y ∷ ys) pairs zero x is =
    (y, refl, subst (λ w. P w y) (same_Some z x is) pairs.0)
paired_at P (z ∷ xs) (y ∷ ys) pairs (suc place) x is = paired_at P xs ys pairs.1 place x is

-- Items that bear their numbers, from one on.

module _ {X : Type 0} (number_of : X → ℕ) where
  abbrev pub AreFrom : ℕ → List X → Type 0
  AreFrom first [] = Unit {0}
  AreFrom first (x ∷ xs) = (number_of x ≡ first) × AreFrom (first + 1) xs

  least_of : (first : ℕ) (xs : List X) → AreFrom first xs → (x : X) → In x xs
      → first ≤ number_of x
  least_of first [] from x is = absurd is
  least_of first (y ∷ xs) from x (inl is) =
      let same : number_of x ≡ first = sym (ap number_of is) ∙ from.0 in omega arith
  least_of first (y ∷ xs) from x (inr is) =
      let later = least_of (first + 1) xs from.1 x is in omega arith

  -- one that stands before another has the lower number
  pub from_apart : (first : ℕ) (xs : List X) (x : X) (ys : List X) (y : X) (zs : List X)
      → AreFrom first (xs ++ x ∷ (ys ++ y ∷ zs)) → number_of x < number_of y
  from_apart first [] x ys y zs from =
      let here : number_of x ≡ first = from.0 in
      let later = least_of (first + 1) (ys ++ y ∷ zs) from.1 y
      (in_right y ys (y ∷ zs) (inl refl)) in
      omega arith
  from_apart first (z ∷ xs) x ys y zs from = from_apart (first + 1) xs x ys y zs from.1

  pub one_with : (first : ℕ) (xs : List X) → AreFrom first xs → (x y : X) → In x xs → In y xs
      → number_of x ≡ number_of y → x ≡ y
  one_with first [] from x y is also same = absurd is
  one_with first (z ∷ xs) from x y (inl is) (inl also) same = sym is ∙ also
  one_with first (z ∷ xs) from x y (inl is) (inr also) same =
      let later = least_of (first + 1) xs from.1 y also in
      let here : number_of x ≡ first = sym (ap number_of is) ∙ from.0 in
      absurd (omega arith)
  one_with first (z ∷ xs) from x y (inr is) (inl also) same =
      let later = least_of (first + 1) xs from.1 x is in
      let here : number_of y ≡ first = sym (ap number_of also) ∙ from.0 in
      absurd (omega arith)
  one_with first (z ∷ xs) from x y (inr is) (inr also) same =
      one_with (first + 1) xs from.1 x y is also same

  pub from_both : (first : ℕ) (xs ys : List X) → AreFrom first xs
      → AreFrom (first + length xs) ys → AreFrom first (xs ++ ys)
  from_both first [] ys from more =
      let same : first + 0 ≡ first = omega arith in subst (λ n. AreFrom n ys) same more
  from_both first (x ∷ xs) ys from more =
      let same : first + suc (length xs) ≡ first + 1 + length xs = omega arith in
      (from.0, from_both (first + 1) xs ys from.1 (subst (λ n. AreFrom n ys) same more))

pub zip_weaker : {X Y : Type 0} (P Q : X → Y → Type 0) → ((x : X) (y : Y) → P x y → Q x y)
    → (xs : List X) (ys : List Y) → AllZip P xs ys → AllZip Q xs ys
zip_weaker P Q weaker [] [] pairs = tt
zip_weaker P Q weaker [] (y ∷ ys) pairs = elim pairs [ ]
zip_weaker P Q weaker (x ∷ xs) [] pairs = elim pairs [ ]
zip_weaker P Q weaker (x ∷ xs) (y ∷ ys) pairs =
    (weaker x y pairs.0, zip_weaker P Q weaker xs ys pairs.1)

pub zip_both : {X Y : Type 0} (P : X → Y → Type 0) (xs more : List X) (ys too : List Y)
    → AllZip P xs ys → AllZip P more too → AllZip P (xs ++ more) (ys ++ too)
zip_both P [] more [] too pairs others = others
zip_both P [] more (y ∷ ys) too pairs others = elim pairs [ ]
zip_both P (x ∷ xs) more [] too pairs others = elim pairs [ ]
zip_both P (x ∷ xs) more (y ∷ ys) too pairs others =
    (pairs.0, zip_both P xs more ys too pairs.1 others)
