-- What stands at a place of a list, and what is found in it, after an element is put behind it,
-- written into it or changed throughout.
use Rattle.std.proofs.Common.{◌≡◌, ◌<◌, ◌≤◌, ◌⊎◌, ℕ, zero, suc, ◌+◌, Bool, true, false, cond, List}
use Rattle.std.proofs.Common.{[], ◌∷◌, ◌++◌, length, map, set, filter, find, Option, Some, None}
use Rattle.std.proofs.Common.{option_map, slice_get, get_or, inl, inr, refl, sym, ap, ◌∙◌, arith}
use Rattle.std.specs.List.{list_any, position_or_len}
use Rattle.std.proofs.lemmas.Option.{none-some, same_Some, slice_get-get_or, get_or_from_slice_get}
use Rattle.std.proofs.lemmas.List.Sums.{position_or_len_is, fails_before_first}
use Rattle.std.proofs.lemmas.Bool.{false_from_ne_true, or_from}

fewer_first : (b c : Bool) → (b ≡ true → c ≡ true) → (m n : ℕ) → m ≤ n → cond b 1 0 + m ≤ cond c 1 0 + n
fewer_first true true only m n h = omega arith
fewer_first true false only m n h = let never : false ≡ true = only refl in cc
fewer_first false true only m n h = omega arith
fewer_first false false only m n h = omega arith

module _ {A : Type 0} where
  -- what stands at a place after one more was put behind the others
  pub pushed_at : (xs : List A) (y : A) (k : ℕ) (x : A) → slice_get (xs ++ y ∷ []) k ≡ Some x → (slice_get xs k ≡ Some x) ⊎ ((k ≡ length xs) × (y ≡ x))
  pushed_at [] y zero x h = inr (refl, same_Some y x h)
  pushed_at [] y (suc k) x h = absurd (none-some x h)
  pushed_at (z ∷ xs) y zero x h = inl h
  pushed_at (z ∷ xs) y (suc k) x h = elim (pushed_at xs y k x h) [ inl at ↦ inl at | inr p ↦ inr (ap suc p.0, p.1) ]

  -- what stands at a place after a write within the list
  pub set_at : (xs : List A) (i : ℕ) (v : A) (k : ℕ) (y : A) → i < length xs → slice_get (set xs i v) k ≡ Some y
      → ((k ≡ i) × (v ≡ y)) ⊎ ((k ≡ i → ⊥) × (slice_get xs k ≡ Some y))
  set_at [] i v k y within h = absurd (none-some y h)
  set_at (z ∷ xs) zero v zero y within h = inl (refl, same_Some v y h)
  set_at (z ∷ xs) zero v (suc k) y within h = inr ((λ e. cc), h)
  set_at (z ∷ xs) (suc i) v zero y within h = inr ((λ e. cc), h)
  set_at (z ∷ xs) (suc i) v (suc k) y within h =
      let below : i < length xs = omega arith in
      elim (set_at xs i v k y below h) [ inl p ↦ inl (ap suc p.0, p.1) | inr p ↦ inr ((λ e. let f : k ≡ i = cc in p.0 f), p.1) ]

  -- a write of what stands there
  pub set_same : (xs : List A) (i : ℕ) (x : A) → slice_get xs i ≡ Some x → set xs i x ≡ xs
  set_same [] i x at = absurd (none-some x at)
  set_same (z ∷ xs) zero x at = ap (λ (y : A). y ∷ xs) (sym (same_Some z x at))
  set_same (z ∷ xs) (suc i) x at = ap (λ (ys : List A). z ∷ ys) (set_same xs i x at)

  -- a change that leaves each element as it is
  pub all_fixed : (f : A → A) (xs : List A) → ((k : ℕ) (y : A) → slice_get xs k ≡ Some y → f y ≡ y) → map f xs ≡ xs
  all_fixed f [] fixed = refl
  all_fixed f (x ∷ xs) fixed =
      let first : f x ≡ x = fixed zero x refl in
      let rest : map f xs ≡ xs = all_fixed f xs (λ k y at. fixed (suc k) y at) in
      cc

  -- a change of the one element at a place, and of no other
  pub set_map : (f : A → A) (xs : List A) (place : ℕ) (x : A) → slice_get xs place ≡ Some x
      → ((k : ℕ) (y : A) → slice_get xs k ≡ Some y → (k ≡ place → ⊥) → f y ≡ y)
      → set xs place (f x) ≡ map f xs
  set_map f [] place x h others = absurd (none-some x h)
  set_map f (z ∷ xs) zero x h others =
      let same : z ≡ x = same_Some z x h in
      let rest : map f xs ≡ xs = all_fixed f xs (λ k y at. others (suc k) y at (λ e. cc)) in
      cc
  set_map f (z ∷ xs) (suc place) x h others =
      let first : f z ≡ z = others zero z refl (λ e. cc) in
      let rest : set xs place (f x) ≡ map f xs = set_map f xs place x h (λ k y at ne. others (suc k) y at (λ e. let g : k ≡ place = cc in ne g)) in
      cc

  -- an element stands at each place within
  pub stands_within : (xs : List A) (k : ℕ) → k < length xs → (x : A) × (slice_get xs k ≡ Some x)
  stands_within [] k within = absurd (omega arith)
  stands_within (x ∷ xs) zero within = (x, refl)
  stands_within (x ∷ xs) (suc k) within = let below : k < length xs = omega arith in stands_within xs k below

  -- a place at which an element stands is within
  pub within_from : (xs : List A) (k : ℕ) (x : A) → slice_get xs k ≡ Some x → k < length xs
  within_from [] k x h = absurd (none-some x h)
  within_from (z ∷ xs) zero x h = omega arith
  within_from (z ∷ xs) (suc k) x h = let below = within_from xs k x h in omega arith

  -- one element of a list, by a test of its first
  found_first : (p : A → Bool) (z : A) (rest : Option A) (b : Bool) → p z ≡ b → (x : A) → cond b (Some z) rest ≡ Some x → ((b ≡ true) × (z ≡ x)) ⊎ ((b ≡ false) × (rest ≡ Some x))
  found_first p z rest true e x h = inl (refl, same_Some z x h)
  found_first p z rest false e x h = inr (refl, h)

  -- what is found stands in the list and passes the test
  pub find_stands : (p : A → Bool) (xs : List A) (x : A) → find p xs ≡ Some x → (k : ℕ) × (slice_get xs k ≡ Some x) × (p x ≡ true)
  find_stands p [] x h = absurd (none-some x h)
  find_stands p (z ∷ xs) x h = elim (found_first p z (find p xs) (p z) refl x h) [
    | inl q ↦ (zero, ap Some q.1, sym (ap p q.1) ∙ q.0)
    | inr q ↦ let more = find_stands p xs x q.1 in (suc more.0, more.1, more.2)
  ]

  -- nothing is found where no element passes
  none_first : (b : Bool) (z : A) (rest : Option A) → b ≡ false → rest ≡ None → cond b (Some z) rest ≡ None
  none_first true z rest e h = cc
  none_first false z rest e h = h

  pub find_none : (p : A → Bool) (xs : List A) → ((k : ℕ) (y : A) → slice_get xs k ≡ Some y → p y ≡ false) → find p xs ≡ None
  find_none p [] fails = refl
  find_none p (x ∷ xs) fails = none_first (p x) x (find p xs) (fails zero x refl) (find_none p xs (λ k y at. fails (suc k) y at))

  pub any_none : (p : A → Bool) (xs : List A) → ((k : ℕ) (y : A) → slice_get xs k ≡ Some y → p y ≡ false) → list_any p xs ≡ false
  any_none p [] fails = refl
  any_none p (x ∷ xs) fails = or_from (p x) (list_any p xs) (fails zero x refl) (any_none p xs (λ k y at. fails (suc k) y at))

  -- where nothing is found no element passes
  not_first : (b : Bool) (z : A) (rest : Option A) → cond b (Some z) rest ≡ None → (b ≡ false) × (rest ≡ None)
  not_first true z rest h = absurd (none-some z (sym h))
  not_first false z rest h = (refl, h)

  pub filter_none : (p : A → Bool) (xs : List A) → find p xs ≡ None → filter p xs ≡ []
  filter_none p [] h = refl
  filter_none p (x ∷ xs) h =
      let parts = not_first (p x) x (find p xs) h in
      let rest : filter p xs ≡ [] = filter_none p xs parts.1 in
      let first : p x ≡ false = parts.0 in
      rw first rest

  pub fails_where_none : (p : A → Bool) (xs : List A) → find p xs ≡ None → (k : ℕ) (y : A) → slice_get xs k ≡ Some y → p y ≡ false
  fails_where_none p [] h k y at = absurd (none-some y at)
  fails_where_none p (x ∷ xs) h zero y at =
      let same : x ≡ y = same_Some x y at in
      let first : p x ≡ false = (not_first (p x) x (find p xs) h).0 in
      cc
  fails_where_none p (x ∷ xs) h (suc k) y at = fails_where_none p xs (not_first (p x) x (find p xs) h).1 k y at

  -- how many pass, by a test of the first
  passes_more : (b : Bool) (x : A) (xs : List A) → length (cond b (x ∷ xs) xs) ≡ cond b 1 0 + length xs
  passes_more true x xs = omega arith
  passes_more false x xs = omega arith

  -- one that passes is counted
  pub passing : (p : A → Bool) (xs : List A) (k : ℕ) (x : A) → slice_get xs k ≡ Some x → p x ≡ true → 1 ≤ length (filter p xs)
  passing p [] k x at pass = absurd (none-some x at)
  passing p (z ∷ xs) zero x at pass =
      let same : p z ≡ true = ap p (same_Some z x at) ∙ pass in
      rw same (omega arith)
  passing p (z ∷ xs) (suc k) x at pass =
      let rest = passing p xs k x at pass in
      rw (passes_more (p z) z (filter p xs)) (omega arith)

  -- where one at most passes and one does, no other does
  pub lone_others : (p : A → Bool) (xs : List A) (place : ℕ) (x : A) → length (filter p xs) ≤ 1 → slice_get xs place ≡ Some x → p x ≡ true
      → (k : ℕ) (y : A) → slice_get xs k ≡ Some y → (k ≡ place → ⊥) → p y ≡ false
  lone_others p [] place x few at pass k y there other = absurd (none-some x at)
  lone_others p (z ∷ xs) zero x few at pass zero y there other = absurd (other refl)
  lone_others p (z ∷ xs) zero x few at pass (suc k) y there other =
      let first : p z ≡ true = ap p (same_Some z x at) ∙ pass in
      let count : length (filter p (z ∷ xs)) ≡ 1 + length (filter p xs) = rw first (omega arith) in
      false_from_ne_true (p y) (λ so. let one = passing p xs k y there so in omega arith)
  lone_others p (z ∷ xs) (suc place) x few at pass zero y there other =
      let one = passing p xs place x at pass in
      false_from_ne_true (p y) (λ so.
      let first : p z ≡ true = ap p (same_Some z y there) ∙ so in
      let count : length (filter p (z ∷ xs)) ≡ 1 + length (filter p xs) = rw first (omega arith) in
      omega arith)
  lone_others p (z ∷ xs) (suc place) x few at pass (suc k) y there other =
      let count : length (filter p (z ∷ xs)) ≡ cond (p z) 1 0 + length (filter p xs) = passes_more (p z) z (filter p xs) in
      let rest : length (filter p xs) ≤ 1 = omega arith in
      lone_others p xs place x rest at pass k y there (λ e. other (ap suc e))

  -- the only one that passes is found
  found_here : (b : Bool) (z x : A) (rest : Option A) → b ≡ true → z ≡ x → cond b (Some z) rest ≡ Some x
  found_here true z x rest e h = ap Some h
  found_here false z x rest e h = cc

  found_later : (b : Bool) (z x : A) (rest : Option A) → b ≡ false → rest ≡ Some x → cond b (Some z) rest ≡ Some x
  found_later true z x rest e h = cc
  found_later false z x rest e h = h

  pub find_unique : (p : A → Bool) (xs : List A) (place : ℕ) (x : A) → slice_get xs place ≡ Some x → p x ≡ true
      → ((k : ℕ) (y : A) → slice_get xs k ≡ Some y → (k ≡ place → ⊥) → p y ≡ false) → find p xs ≡ Some x
  find_unique p [] place x at pass others = absurd (none-some x at)
  find_unique p (z ∷ xs) zero x at pass others =
      let same : z ≡ x = same_Some z x at in found_here (p z) z x (find p xs) (ap p same ∙ pass) same
  find_unique p (z ∷ xs) (suc place) x at pass others =
      found_later (p z) z x (find p xs) (others zero z refl (λ e. cc))
      (find_unique p xs place x at pass (λ k y there other. others (suc k) y there (λ e. let g : k ≡ place = cc in other g)))

  -- fewer pass after a change by which none begins to pass
  pub fewer_pass : (p : A → Bool) (f : A → A) → ((y : A) → p (f y) ≡ true → p y ≡ true) → (xs : List A) → length (filter p (map f xs)) ≤ length (filter p xs)
  fewer_pass p f only [] = omega arith
  fewer_pass p f only (x ∷ xs) =
      let rest = fewer_pass p f only xs in
      rw (passes_more (p (f x)) (f x) (filter p (map f xs)), passes_more (p x) x (filter p xs)) (fewer_first (p (f x)) (p x) (only x) (length (filter p (map f xs))) (length (filter p xs)) rest)

  -- a test that a change leaves as it is
  pub any_mapped : (p : A → Bool) (f : A → A) (xs : List A) → ((k : ℕ) (y : A) → slice_get xs k ≡ Some y → p (f y) ≡ p y) → list_any p (map f xs) ≡ list_any p xs
  any_mapped p f [] same = refl
  any_mapped p f (x ∷ xs) same =
      let first : p (f x) ≡ p x = same zero x refl in
      let rest : list_any p (map f xs) ≡ list_any p xs = any_mapped p f xs (λ k y at. same (suc k) y at) in
      rw (first, rest) refl

  find_one : {B : Type 0} (v : A → B) (b : Bool) (fx x : A) (m n : Option A) → v fx ≡ v x → option_map v m ≡ option_map v n → option_map v (cond b (Some fx) m) ≡ option_map v (cond b (Some x) n)
  find_one v true fx x m n e h = ap Some e
  find_one v false fx x m n e h = h

  -- a search that a change leaves as it is
  pub find_mapped : {B : Type 0} (v : A → B) (p : A → Bool) (f : A → A) (xs : List A) → ((y : A) → v (f y) ≡ v y)
      → ((k : ℕ) (y : A) → slice_get xs k ≡ Some y → p (f y) ≡ p y)
      → option_map v (find p (map f xs)) ≡ option_map v (find p xs)
  find_mapped v p f [] keeps same = refl
  find_mapped v p f (x ∷ xs) keeps same =
      let first : p (f x) ≡ p x = same zero x refl in
      let rest = find_mapped v p f xs keeps (λ k y at. same (suc k) y at) in
      rw first (find_one v (p x) (f x) x (find p (map f xs)) (find p xs) (keeps x) rest)

module _ {A : Type 0} (p : A → Bool) where
  -- the first place at which an element passes
  pub first_place : (xs : List A) (i : ℕ) (d : A) → i < length xs → ((k : ℕ) (y : A) → k < i → slice_get xs k ≡ Some y → p y ≡ false) → p (get_or xs i d) ≡ true → i ≡ position_or_len p xs
  first_place xs i d within fails pass =
      let most : i ≤ length xs = omega arith in
      sym (position_or_len_is p xs i d most
      (λ k below. let inside : k < length xs = omega arith in fails k (get_or xs k d) below (slice_get-get_or xs k d inside))
      (λ inside. pass))

  -- no place, where no element passes
  pub no_place : (xs : List A) → ((k : ℕ) (y : A) → k < length xs → slice_get xs k ≡ Some y → p y ≡ false) → length xs ≡ position_or_len p xs
  no_place [] fails = refl
  no_place (x ∷ xs) fails =
      let most : length (x ∷ xs) ≤ length (x ∷ xs) = omega arith in
      sym (position_or_len_is p (x ∷ xs) (length (x ∷ xs)) x most
      (λ k below. fails k (get_or (x ∷ xs) k x) below (slice_get-get_or (x ∷ xs) k x below))
      (λ inside. absurd (omega arith)))

  -- none passes before the first place
  pub before_place : (xs : List A) (k : ℕ) (y : A) → k < position_or_len p xs → slice_get xs k ≡ Some y → p y ≡ false
  before_place xs k y below at = ap p (sym (get_or_from_slice_get xs k y y at)) ∙ fails_before_first p xs k y below

-- what stands at a place of a list that was changed throughout
pub mapped_at : {A B : Type 0} (f : A → B) (xs : List A) (k : ℕ) (y : B) → slice_get (map f xs) k ≡ Some y → (x : A) × (slice_get xs k ≡ Some x) × (f x ≡ y)
mapped_at f [] k y h = absurd (none-some y h)
mapped_at f (x ∷ xs) zero y h = (x, refl, same_Some (f x) y h)
mapped_at f (x ∷ xs) (suc k) y h = mapped_at f xs k y h

-- two changes that agree
pub same_map : {A B : Type 0} (f g : A → B) (xs : List A) → ((y : A) → f y ≡ g y) → map f xs ≡ map g xs
same_map f g [] same = refl
same_map f g (x ∷ xs) same = let rest : map f xs ≡ map g xs = same_map f g xs same in let first : f x ≡ g x = same x in cc

module _ {A : Type 0} (p : A → Bool) where
  -- the first that passes is found
  find_first_at : (b : Bool) (z x : A) (rest : Option A) → b ≡ false → rest ≡ Some x → cond b (Some z) rest ≡ Some x
  find_first_at true z x rest e h = cc
  find_first_at false z x rest e h = h

  pub find_at_place : (xs : List A) (place : ℕ) (x : A) → slice_get xs place ≡ Some x → p x ≡ true → ((k : ℕ) (y : A) → k < place → slice_get xs k ≡ Some y → p y ≡ false) → find p xs ≡ Some x
  find_at_place [] place x at pass before = absurd (none-some x at)
  find_at_place (z ∷ xs) zero x at pass before =
      let same : z ≡ x = same_Some z x at in
      rw (ap p same ∙ pass) at
  find_at_place (z ∷ xs) (suc place) x at pass before =
      let here : 0 < suc place = omega arith in
      find_first_at (p z) z x (find p xs) (before zero z here refl)
      (find_at_place xs place x at pass (λ k y below there. let less : suc k < suc place = omega arith in before (suc k) y less there))

-- nothing stands past the end
pub past_end : {A : Type 0} (xs : List A) (i : ℕ) → slice_get xs i ≡ None → length xs ≤ i
past_end [] i h = omega arith
past_end (x ∷ xs) zero h = absurd (none-some x (sym h))
past_end (x ∷ xs) (suc i) h = let more = past_end xs i h in omega arith
