-- What stands at a place of a list, and what is found in it, after an element is put behind it,
-- written into it or changed throughout.
use Rattle.std.proofs.Common.{◌≡◌, ◌<◌, ◌⊎◌, ℕ, zero, suc, Bool, true, false, cond, List, [], ◌∷◌}
use Rattle.std.proofs.Common.{◌++◌, length, map, set, filter, find, Option, Some, None, option_map}
use Rattle.std.proofs.Common.{slice_get, inl, inr, refl, sym, ap, ◌∙◌, arith}
use Rattle.std.proofs.lemmas.Option.{none-some, same_Some}

module _ {A : Type 0} where
  -- what stands at a place after one more was put behind the others
  pub pushed_at : (xs : List A) (y : A) (k : ℕ) (x : A) → slice_get (xs ++ y ∷ []) k ≡ Some x → (slice_get xs k ≡ Some x) ⊎ ((k ≡ length xs) × (y ≡ x))
  pushed_at [] y zero x h = inr (refl, same_Some y x h)
  pushed_at [] y (suc k) x h = absurd (none-some x h)
  pushed_at (z ∷ xs) y zero x h = inl h
  pushed_at (z ∷ xs) y (suc k) x h = elim (pushed_at xs y k x h) [ inl at ↦ inl at | inr p ↦ inr (ap suc p.0, p.1) ]

  -- a write of what stands there
  pub set_same : (xs : List A) (i : ℕ) (x : A) → slice_get xs i ≡ Some x → set xs i x ≡ xs
  set_same [] i x at = absurd (none-some x at)
  set_same (z ∷ xs) zero x at = ap (λ (y : A). y ∷ xs) (sym (same_Some z x at))
  set_same (z ∷ xs) (suc i) x at = ap (λ (ys : List A). z ∷ ys) (set_same xs i x at)

  -- a change that leaves each element as it is
  pub all_fixed : (f : A → A) (xs : List A) → ((k : ℕ) (y : A) → slice_get xs k ≡ Some y → f y ≡ y) → map f xs ≡ xs
  all_fixed f [] fixed = refl
  all_fixed f (x ∷ xs) fixed =
      let first : f x ≡ x = fixed zero x refl in
      let rest : map f xs ≡ xs = all_fixed f xs (λ k y at. fixed (suc k) y at) in
      cc

  -- a change of the one element at a place, and of no other
  pub set_map : (f : A → A) (xs : List A) (place : ℕ) (x : A) → slice_get xs place ≡ Some x
      → ((k : ℕ) (y : A) → slice_get xs k ≡ Some y → (k ≡ place → ⊥) → f y ≡ y)
      → set xs place (f x) ≡ map f xs
  set_map f [] place x h others = absurd (none-some x h)
  set_map f (z ∷ xs) zero x h others =
      let same : z ≡ x = same_Some z x h in
      let rest : map f xs ≡ xs = all_fixed f xs (λ k y at. others (suc k) y at (λ e. cc)) in
      cc
  set_map f (z ∷ xs) (suc place) x h others =
      let first : f z ≡ z = others zero z refl (λ e. cc) in
      let rest : set xs place (f x) ≡ map f xs = set_map f xs place x h (λ k y at ne. others (suc k) y at (λ e. let g : k ≡ place = cc in ne g)) in
      cc

  -- a place at which an element stands is within
  pub within_from : (xs : List A) (k : ℕ) (x : A) → slice_get xs k ≡ Some x → k < length xs
  within_from [] k x h = absurd (none-some x h)
  within_from (z ∷ xs) zero x h = omega arith
  within_from (z ∷ xs) (suc k) x h = let below = within_from xs k x h in omega arith

  -- one element of a list, by a test of its first
  found_first : (p : A → Bool) (z : A) (rest : Option A) (b : Bool) → p z ≡ b → (x : A) → cond b (Some z) rest ≡ Some x → ((b ≡ true) × (z ≡ x)) ⊎ ((b ≡ false) × (rest ≡ Some x))
  found_first p z rest true e x h = inl (refl, same_Some z x h)
  found_first p z rest false e x h = inr (refl, h)

  -- what is found stands in the list and passes the test
  pub find_stands : (p : A → Bool) (xs : List A) (x : A) → find p xs ≡ Some x → (k : ℕ) × (slice_get xs k ≡ Some x) × (p x ≡ true)
  find_stands p [] x h = absurd (none-some x h)
  find_stands p (z ∷ xs) x h = elim (found_first p z (find p xs) (p z) refl x h) [
    | inl q ↦ (zero, ap Some q.1, sym (ap p q.1) ∙ q.0)
    | inr q ↦ let more = find_stands p xs x q.1 in (suc more.0, more.1, more.2)
  ]

  -- nothing is found where no element passes
  none_first : (b : Bool) (z : A) (rest : Option A) → b ≡ false → rest ≡ None → cond b (Some z) rest ≡ None
  none_first true z rest e h = cc
  none_first false z rest e h = h

  pub find_none : (p : A → Bool) (xs : List A) → ((k : ℕ) (y : A) → slice_get xs k ≡ Some y → p y ≡ false) → find p xs ≡ None
  find_none p [] fails = refl
  find_none p (x ∷ xs) fails = none_first (p x) x (find p xs) (fails zero x refl) (find_none p xs (λ k y at. fails (suc k) y at))

  -- where nothing is found no element passes
  not_first : (b : Bool) (z : A) (rest : Option A) → cond b (Some z) rest ≡ None → (b ≡ false) × (rest ≡ None)
  not_first true z rest h = absurd (none-some z (sym h))
  not_first false z rest h = (refl, h)

  pub fails_where_none : (p : A → Bool) (xs : List A) → find p xs ≡ None → (k : ℕ) (y : A) → slice_get xs k ≡ Some y → p y ≡ false
  fails_where_none p [] h k y at = absurd (none-some y at)
  fails_where_none p (x ∷ xs) h zero y at =
      let same : x ≡ y = same_Some x y at in
      let first : p x ≡ false = (not_first (p x) x (find p xs) h).0 in
      cc
  fails_where_none p (x ∷ xs) h (suc k) y at = fails_where_none p xs (not_first (p x) x (find p xs) h).1 k y at

  -- the only one that passes is found
  found_here : (b : Bool) (z x : A) (rest : Option A) → b ≡ true → z ≡ x → cond b (Some z) rest ≡ Some x
  found_here true z x rest e h = ap Some h
  found_here false z x rest e h = cc

  found_later : (b : Bool) (z x : A) (rest : Option A) → b ≡ false → rest ≡ Some x → cond b (Some z) rest ≡ Some x
  found_later true z x rest e h = cc
  found_later false z x rest e h = h

  pub find_unique : (p : A → Bool) (xs : List A) (place : ℕ) (x : A) → slice_get xs place ≡ Some x → p x ≡ true
      → ((k : ℕ) (y : A) → slice_get xs k ≡ Some y → (k ≡ place → ⊥) → p y ≡ false) → find p xs ≡ Some x
  find_unique p [] place x at pass others = absurd (none-some x at)
  find_unique p (z ∷ xs) zero x at pass others =
      let same : z ≡ x = same_Some z x at in found_here (p z) z x (find p xs) (ap p same ∙ pass) same
  find_unique p (z ∷ xs) (suc place) x at pass others =
      found_later (p z) z x (find p xs) (others zero z refl (λ e. cc))
      (find_unique p xs place x at pass (λ k y there other. others (suc k) y there (λ e. let g : k ≡ place = cc in other g)))

  find_one : {B : Type 0} (v : A → B) (b : Bool) (fx x : A) (m n : Option A) → v fx ≡ v x → option_map v m ≡ option_map v n → option_map v (cond b (Some fx) m) ≡ option_map v (cond b (Some x) n)
  find_one v true fx x m n e h = ap Some e
  find_one v false fx x m n e h = h

  -- a search that a change leaves as it is
  pub find_mapped : {B : Type 0} (v : A → B) (p : A → Bool) (f : A → A) (xs : List A) → ((y : A) → v (f y) ≡ v y)
      → ((k : ℕ) (y : A) → slice_get xs k ≡ Some y → p (f y) ≡ p y)
      → option_map v (find p (map f xs)) ≡ option_map v (find p xs)
  find_mapped v p f [] keeps same = refl
  find_mapped v p f (x ∷ xs) keeps same =
      let first : p (f x) ≡ p x = same zero x refl in
      let rest = find_mapped v p f xs keeps (λ k y at. same (suc k) y at) in
      rw first (find_one v (p x) (f x) x (find p (map f xs)) (find p xs) (keeps x) rest)

-- what stands at a place of a list that was changed throughout
pub mapped_at : {A B : Type 0} (f : A → B) (xs : List A) (k : ℕ) (y : B) → slice_get (map f xs) k ≡ Some y → (x : A) × (slice_get xs k ≡ Some x) × (f x ≡ y)
mapped_at f [] k y h = absurd (none-some y h)
mapped_at f (x ∷ xs) zero y h = (x, refl, same_Some (f x) y h)
mapped_at f (x ∷ xs) (suc k) y h = mapped_at f xs k y h

-- two changes that agree
pub same_map : {A B : Type 0} (f g : A → B) (xs : List A) → ((y : A) → f y ≡ g y) → map f xs ≡ map g xs
same_map f g [] same = refl
same_map f g (x ∷ xs) same = let rest : map f xs ≡ map g xs = same_map f g xs same in let first : f x ≡ g x = same x in cc

-- a test that all pass
pub filter_all : {A : Type 0} (xs : List A) → filter (λ (y : A). true) xs ≡ xs
filter_all [] = refl
filter_all (x ∷ xs) = ap (λ (ys : List _). x ∷ ys) (filter_all xs)
