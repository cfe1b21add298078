-- Two lists that agree place by place: one place is looked up, changes, or comes behind the others.
use Rattle.step_replay.proofs.Common.{◌≡◌, ◌<◌, ◌≤◌, ℕ, zero, suc, ◌+◌, ◌==◌, false, List, [], ◌∷◌}
use Rattle.step_replay.proofs.Common.{◌++◌, length, take, get_or, slice_set, Some, None, refl, sym}
use Rattle.step_replay.proofs.Common.{ap, ◌∙◌, subst, arith, slice_get, nat_tests, take_more}
use Rattle.step_replay.proofs.Common.{same_Some, slice_get_past, Match}
use Rattle.std.proofs.lemmas.List.{length-take-le}
use Rattle.step_replay.specs.PlaceLemmas.{get_beyond}

module _ {X Y : Type 0} (P : ℕ → X → Y → Type 0) where
  pub as_many : (k : ℕ) (xs : List X) (ys : List Y) → Match P k xs ys → length ys ≡ length xs
  as_many k [] [] all = refl
  as_many k [] (y ∷ ys) all = absurd all
  as_many k (x ∷ xs) [] all = absurd all
  as_many k (x ∷ xs) (y ∷ ys) all = ap suc (as_many (k + 1) xs ys all.1)

  -- the item of the first list that stands so to this one of the second
  pub record At (k : ℕ) (xs : List X) (i : ℕ) (y : Y) : Type 0 where
    pub item : X
    pub there : slice_get xs i ≡ Some item
    pub so : P (k + i) item y

  pub found : (k : ℕ) (xs : List X) (ys : List Y) (i : ℕ) (y : Y) → Match P k xs ys
      → slice_get ys i ≡ Some y → At k xs i y
  found k [] [] i y all is = cc
  found k [] (z ∷ ys) i y all is = absurd all
  found k (x ∷ xs) [] i y all is = absurd all
  found k (x ∷ xs) (z ∷ ys) zero y all is =
      let here : k ≡ k + 0 = omega arith in
      record {
        item = x;
        there = refl;
        so = subst (λ (n : ℕ). P n x y) here (subst (λ (w : Y). P k x w) (same_Some z y is) all.0);
      }
  found k (x ∷ xs) (z ∷ ys) (suc i) y all is =
      let later = found (k + 1) xs ys i y all.1 is in
      let same : k + 1 + i ≡ k + suc i = omega arith in
      record {
        item = later.item;
        there = later.there;
        so = subst (λ (n : ℕ). P n later.item y) same later.so;
      }

  -- where the second list has no item, neither has the first
  pub missing : (k : ℕ) (xs : List X) (ys : List Y) (i : ℕ) → Match P k xs ys
      → slice_get ys i ≡ None → slice_get xs i ≡ None
  missing k xs ys i all none =
      let many : length ys ≡ length xs = as_many k xs ys all in
      let beyond : length ys ≤ i = get_beyond ys i none in
      let past : length xs ≤ i = omega arith in
      slice_get_past xs i past

  -- the same seen from the second list
  pub flipped : (k : ℕ) (xs : List X) (ys : List Y) → Match P k xs ys
      → Match (λ n y x. P n x y) k ys xs
  flipped k [] [] all = tt
  flipped k [] (y ∷ ys) all = absurd all
  flipped k (x ∷ xs) [] all = absurd all
  flipped k (x ∷ xs) (y ∷ ys) all = (all.0, flipped (k + 1) xs ys all.1)

  -- one place more
  pub pushed : (k : ℕ) (xs : List X) (ys : List Y) (x : X) (y : Y) → P (k + length xs) x y
      → Match P k xs ys → Match P k (xs ++ x ∷ []) (ys ++ y ∷ [])
  pushed k [] [] x y last all =
      let here : k + 0 ≡ k = omega arith in
      (subst (λ (n : ℕ). P n x y) here last, tt)
  pushed k [] (z ∷ ys) x y last all = absurd all
  pushed k (w ∷ xs) [] x y last all = absurd all
  pushed k (w ∷ xs) (z ∷ ys) x y last all =
      let next : k + length (w ∷ xs) ≡ k + 1 + length xs = omega arith in
      (all.0, pushed (k + 1) xs ys x y (subst (λ (n : ℕ). P n x y) next last) all.1)

  -- the same by the way in which a loop reads the first list
  pub grown : (k : ℕ) (xs : List X) (ys : List Y) (at : ℕ) (x : X) (y : Y) → at < length xs
      → x ≡ get_or xs at x → P (k + at) x y → Match P k (take at xs) ys
      → Match P k (take (at + 1) xs) (ys ++ y ∷ [])
  grown k xs ys at x y within is last all =
      let more : take (at + 1) xs ≡ take at xs ++ x ∷ [] =
      take_more xs at x within ∙ ap (λ (w : X). take at xs ++ w ∷ []) (sym is) in
      let all_of : at ≤ length xs = omega arith in
      let count : at ≡ length (take at xs) = sym (length-take-le at xs all_of) in
      subst (λ (l : List X). Match P k l (ys ++ y ∷ [])) (sym more)
      (pushed k (take at xs) ys x y (subst (λ (n : ℕ). P (k + n) x y) count last) all)

module _ {X Y : Type 0} (P Q : ℕ → X → Y → Type 0) where
  pub kept : (k : ℕ) (xs : List X) (ys : List Y)
      → ((n : ℕ) (x : X) (y : Y) → k ≤ n → P n x y → Q n x y) → Match P k xs ys → Match Q k xs ys
  kept k [] [] each all = tt
  kept k [] (y ∷ ys) each all = absurd all
  kept k (x ∷ xs) [] each all = absurd all
  kept k (x ∷ xs) (y ∷ ys) each all = (
    each k x y (same_least k) all.0,
    kept (k + 1) xs ys (λ n w z least so. each n w z (less k n least) so) all.1,
  )
    where
      same_least : (m : ℕ) → m ≤ m
      same_least m = omega arith

      less : (m n : ℕ) → m + 1 ≤ n → m ≤ n
      less m n least = omega arith

  -- where one place changes, and what stands at each other is kept
  pub changed : (k : ℕ) (xs : List X) (ys : List Y) (i number : ℕ) (x : X) (y : Y)
      → number ≡ k + i → slice_get xs i ≡ Some x → Q number x y
      → ((n : ℕ) (x : X) (y : Y) → (number == n) ≡ false → P n x y → Q n x y)
      → Match P k xs ys → Match Q k xs (slice_set ys i y)
  changed k [] ys i number x y at there own others all = cc
  changed k (w ∷ xs) [] i number x y at there own others all = absurd all
  changed k (w ∷ xs) (z ∷ ys) zero number x y at there own others all =
      let here : number ≡ k = omega arith in (
        subst (λ (n : ℕ). Q n w y) here
            (subst (λ (v : X). Q number v y) (sym (same_Some w x there)) own),
        kept (k + 1) xs ys (λ n v u least so. others n v u (differs number k n here least) so) all.1,
      )
    where
      differs : (m k n : ℕ) → m ≡ k → k + 1 ≤ n → (m == n) ≡ false
      differs m k n same least = grind (arith, nat_tests)
  changed k (w ∷ xs) (z ∷ ys) (suc i) number x y at there own others all =
      let differs : (number == k) ≡ false = grind (arith, nat_tests) in
      let next : number ≡ k + 1 + i = omega arith in
      (others k w z differs all.0, changed (k + 1) xs ys i number x y next there own others all.1)
