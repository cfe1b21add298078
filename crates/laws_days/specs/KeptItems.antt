-- Lists of which some items are kept: who does not ask for the others finds the same.
use Rattle.std.proofs.Common.{◌≡◌, ℕ, zero, suc, Bool, true, false, ◌||◌, cond, List, [], ◌∷◌, ◌++◌}
use Rattle.std.proofs.Common.{map, filter, filter_map, count_by, drop, length, Option, Some, None}
use Rattle.std.proofs.Common.{IfSome, refl, sym, ap, ◌∙◌}
use Rattle.std.specs.List.{cons_option, list_any}
use Rattle.std.proofs.lemmas.Bool.{cond_both, or_parts}
use Rattle.std.proofs.lemmas.List.{append-nil}
use Rattle.std.proofs.lemmas.List.Elements.{filter-append}
use Rattle.std.proofs.lemmas.List.Sums.{length-filter}
use Rattle.step_replay.specs.Lists.{Every}

module _ {X : Type 0} (p : X → Bool) where
  -- What is kept.

  pub none_kept : (xs : List X) → Every (λ (x : X). p x ≡ false) xs → filter p xs ≡ []
  none_kept [] none = refl
  none_kept (x ∷ xs) none = rw (none.0) (none_kept xs none.1)

  -- Who asks for what is kept alone.

  pub kept_for : (q : X → Bool) → ((x : X) → p x ≡ false → q x ≡ false) → (xs : List X)
      → filter q (filter p xs) ≡ filter q xs
  kept_for q none [] = refl
  kept_for q none (x ∷ xs) =
      let rest = kept_for q none xs in
      cond_both (p x) (x ∷ filter p xs) (filter p xs)
      (λ (l : List X). filter q l ≡ filter q (x ∷ xs))
      (λ is. ap (λ (l : List X). cond (q x) (x ∷ l) l) rest) (λ isnt. rw (none x isnt) rest)

  pub count_kept : (q : X → Bool) → ((x : X) → p x ≡ false → q x ≡ false) → (xs : List X)
      → count_by q (filter p xs) ≡ count_by q xs
  count_kept q none xs =
      sym (length-filter q (filter p xs)) ∙ ap length (kept_for q none xs) ∙ length-filter q xs

  pub found_kept : {Y : Type 0} (h : X → Option Y) → ((x : X) → p x ≡ false → h x ≡ None)
      → (xs : List X) → filter_map h (filter p xs) ≡ filter_map h xs
  found_kept h none [] = refl
  found_kept {Y} h none (x ∷ xs) =
      let rest = found_kept h none xs in
      cond_both (p x) (x ∷ filter p xs) (filter p xs)
      (λ (l : List X). filter_map h l ≡ filter_map h (x ∷ xs))
      (λ is. ap (λ (l : List Y). cons_option (h x) l) rest) (λ isnt. rw (none x isnt) rest)

  pub filter_twice : (xs : List X) → filter p (filter p xs) ≡ filter p xs
  filter_twice xs = kept_for p (λ x isnt. isnt) xs

  -- What comes behind.

  pub both_kept : (xs ys more too : List X) → filter p xs ≡ filter p ys
      → filter p more ≡ filter p too → filter p (xs ++ more) ≡ filter p (ys ++ too)
  both_kept xs ys more too same added =
      rw (filter-append p xs more, filter-append p ys too, same, added) refl

  pub none_behind : (xs more : List X) → filter p more ≡ [] → filter p (xs ++ more) ≡ filter p xs
  none_behind xs more none = rw (filter-append p xs more, none) (append-nil (filter p xs))

-- Each item.

pub every_all : {X : Type 0} (P : X → Type 0) → ((x : X) → P x) → (xs : List X) → Every P xs
every_all P each [] = tt
every_all P each (x ∷ xs) = (each x, every_all P each xs)

-- what holds of each item behind a constructor
pub every_in : {X Y : Type 0} (P : X → Type 0) (Q : Y → Type 0) (f : X → Y)
    → ((x : X) → P x → Q (f x)) → (xs : List X) → Every P xs → Every Q (map f xs)
every_in P Q f each [] every = tt
every_in P Q f each (x ∷ xs) every = (each x every.0, every_in P Q f each xs every.1)

pub every_map : {X Y : Type 0} (Q : Y → Type 0) (f : X → Y) → ((x : X) → Q (f x)) → (xs : List X)
    → Every Q (map f xs)
every_map Q f each [] = tt
every_map Q f each (x ∷ xs) = (each x, every_map Q f each xs)

pub every_drop : {X : Type 0} (P : X → Type 0) (n : ℕ) (xs : List X) → Every P xs
    → Every P (drop n xs)
every_drop P zero xs every = every
every_drop P (suc n) [] every = every
every_drop P (suc n) (x ∷ xs) every = every_drop P n xs every.1

pub every_found : {X Y : Type 0} (P : X → Type 0) (Q : Y → Type 0) (h : X → Option Y)
    → ((x : X) → P x → IfSome (h x) Q) → (xs : List X) → Every P xs → Every Q (filter_map h xs)
every_found P Q h each [] every = tt
every_found {X} {Y} P Q h each (x ∷ xs) every =
    by_found (h x) (each x every.0) (every_found P Q h each xs every.1)
  where
    by_found : (o : Option Y) → IfSome o Q → Every Q (filter_map h xs)
        → Every Q (cons_option o (filter_map h xs))
    by_found None is rest = rest
    by_found (Some y) is rest = (is, rest)

-- what holds of each item that passes no test, where none passes it
pub every_met : {X : Type 0} (test : X → Bool) (Q : X → Type 0) (xs : List X)
    → Every (λ (x : X). test x ≡ false → Q x) xs → list_any test xs ≡ false → Every Q xs
every_met test Q [] each none = tt
every_met test Q (x ∷ xs) each none =
    let parts = or_parts (test x) (list_any test xs) none in
    (each.0 parts.0, every_met test Q xs each.1 parts.1)

pub none_any : {X : Type 0} (test : X → Bool) (xs : List X) → Every (λ (x : X). test x ≡ false) xs
    → list_any test xs ≡ false
none_any test [] none = refl
none_any test (x ∷ xs) none = rw (none.0) (none_any test xs none.1)

pub any_in : {X Y : Type 0} (test : Y → Bool) (f : X → Y) (xs : List X)
    → list_any test (map f xs) ≡ list_any (λ (x : X). test (f x)) xs
any_in test f [] = refl
any_in test f (x ∷ xs) = ap (λ (b : Bool). test (f x) || b) (any_in test f xs)

-- Items behind a constructor, and what is found of each.

pub either_same : {Y : Type 0} (b : Bool) (y : Y) → y ≡ cond b y y
either_same true y = refl
either_same false y = refl

module _ {X : Type 0} (p : X → Bool) where
  pub any_kept : (q : X → Bool) → ((x : X) → p x ≡ false → q x ≡ false) → (xs : List X)
      → list_any q (filter p xs) ≡ list_any q xs
  any_kept q none [] = refl
  any_kept q none (x ∷ xs) =
      let rest = any_kept q none xs in
      cond_both (p x) (x ∷ filter p xs) (filter p xs)
      (λ (l : List X). list_any q l ≡ list_any q (x ∷ xs))
      (λ is. ap (λ (b : Bool). q x || b) rest) (λ isnt. rw (none x isnt) rest)

  -- items behind a constructor
  pub kept_in : {Y : Type 0} (f : Y → X) (q : Y → Bool) → ((y : Y) → p (f y) ≡ q y)
      → (ys : List Y) → filter p (map f ys) ≡ map f (filter q ys)
  kept_in f q same [] = refl
  kept_in {Y} f q same (y ∷ ys) = rw (same y) (by_test (q y) (kept_in f q same ys))
    where
      by_test : (b : Bool) → filter p (map f ys) ≡ map f (filter q ys)
          → cond b (f y ∷ filter p (map f ys)) (filter p (map f ys))
          ≡ map f (cond b (y ∷ filter q ys) (filter q ys))
      by_test true rest = ap (λ (l : List X). f y ∷ l) rest
      by_test false rest = rest

-- what is found, where it stays
abbrev pub where_kept : {Y : Type 0} → (Y → Bool) → Option Y → Option Y
where_kept q None = None
where_kept q (Some y) = cond (q y) (Some y) None

pub found_of_kept : {X Y : Type 0} (p : X → Bool) (q : Y → Bool) (h : X → Option Y)
    → ((x : X) → where_kept q (h x) ≡ cond (p x) (h x) None) → (xs : List X)
    → filter_map h (filter p xs) ≡ filter q (filter_map h xs)
found_of_kept p q h each [] = refl
found_of_kept {X} {Y} p q h each (x ∷ xs) =
    by_test (p x) (h x) refl (each x) (found_of_kept p q h each xs)
  where
    by_kept : (y : Y) (b c : Bool) → q y ≡ c → cond c (Some y) None ≡ cond b (Some y) None → c ≡ b
    by_kept y true true test is = refl
    by_kept y true false test is = cc
    by_kept y false true test is = cc
    by_kept y false false test is = refl

    by_test : (b : Bool) (o : Option Y) → h x ≡ o → where_kept q o ≡ cond b o None
        → filter_map h (filter p xs) ≡ filter q (filter_map h xs)
        → filter_map h (cond b (x ∷ filter p xs) (filter p xs))
        ≡ filter q (cons_option o (filter_map h xs))
    by_test true None found is rest = rw found rest
    by_test true (Some y) found is rest =
        rw (found, by_kept y true (q y) refl is) (ap (λ (l : List Y). y ∷ l) rest)
    by_test false None found is rest = rest
    by_test false (Some y) found is rest = rw (by_kept y false (q y) refl is) rest
