-- The place of a name among the names of firms.
use Rattle.std.proofs.Common.{◌≡◌, ℕ, ◌+◌, Bool, true, false, List, [], ◌∷◌, ◌++◌, length, map}
use Rattle.std.proofs.Common.{cond, Option, Some, None, option_map, refl, sym, ap, ◌∙◌, arith}
use Rattle.std.proofs.Common.{position}
use Rattle.std.specs.List.{position_from}
use Rattle.std.proofs.lemmas.List.{length-map}
use Rattle.std.proofs.lemmas.Iterator.Adapters.{position_from-zero}

-- where a test passes in front, and where it passes nowhere there
pub found_more : (test : Bool) (i k : ℕ) (rest all : Option ℕ) → cond test (Some i) rest ≡ Some k → (rest ≡ Some k → all ≡ Some k) → cond test (Some i) all ≡ Some k
found_more true i k rest all e then = e
found_more false i k rest all e then = then e

pub found_in_front : {X : Type 0} (p : X → Bool) (i k : ℕ) (xs ys : List X) → position_from p i xs ≡ Some k → position_from p i (xs ++ ys) ≡ Some k
found_in_front p i k [] ys e = cc
found_in_front p i k (x ∷ xs) ys e =
    found_more (p x) i k (position_from p (i + 1) xs) (position_from p (i + 1) (xs ++ ys)) e (found_in_front p (i + 1) k xs ys)

pub none_more : (test : Bool) (i : ℕ) (rest all behind : Option ℕ) → cond test (Some i) rest ≡ None → (rest ≡ None → all ≡ behind) → cond test (Some i) all ≡ behind
none_more true i rest all behind e then = cc
none_more false i rest all behind e then = then e

pub found_behind : {X : Type 0} (p : X → Bool) (i : ℕ) (xs ys : List X) → position_from p i xs ≡ None → position_from p i (xs ++ ys) ≡ position_from p (i + length xs) ys
found_behind p i [] ys e = ap (λ n. position_from p n ys) (omega arith)
found_behind p i (x ∷ xs) ys e =
    none_more (p x) i (position_from p (i + 1) xs) (position_from p (i + 1) (xs ++ ys)) (position_from p (i + length (x ∷ xs)) ys) e
    (λ none. found_behind p (i + 1) xs ys none ∙ ap (λ n. position_from p n ys) (omega arith))

-- a test of what a list is mapped to
pub found_mapped : {X Y : Type 0} (p : Y → Bool) (f : X → Y) (i : ℕ) (xs : List X) → position_from p i (map f xs) ≡ position_from (λ x. p (f x)) i xs
found_mapped p f i [] = refl
found_mapped p f i (x ∷ xs) = ap (λ rest. cond (p (f x)) (Some i) rest) (found_mapped p f (i + 1) xs)

-- a list that begins at another number
pub shifted : (test : Bool) (n i : ℕ) (there here : Option ℕ) → there ≡ option_map (λ k. n + k) here → cond test (Some (n + i)) there ≡ option_map (λ k. n + k) (cond test (Some i) here)
shifted true n i there here e = refl
shifted false n i there here e = e

pub found_from : {X : Type 0} (p : X → Bool) (n i : ℕ) (xs : List X) → position_from p (n + i) xs ≡ option_map (λ k. n + k) (position_from p i xs)
found_from p n i [] = refl
found_from p n i (x ∷ xs) =
    let more : position_from p (n + i + 1) xs ≡ position_from p (n + (i + 1)) xs = ap (λ m. position_from p m xs) (omega arith) in
    shifted (p x) n i (position_from p (n + i + 1) xs) (position_from p (i + 1) xs) (more ∙ found_from p n (i + 1) xs)

-- the first of two mapped lists that has it
module _ {X Y : Type 0} (p : List ℕ → Bool) (f : X → List ℕ) (g : Y → List ℕ) (xs : List X) (ys : List Y) where
  pub place_in_front : (k : ℕ) → Some k ≡ position (λ x. p (f x)) xs → Some k ≡ position p (map f xs ++ map g ys)
  place_in_front k e =
      let from : position_from p 0 (map f xs) ≡ Some k = found_mapped p f 0 xs ∙ sym (position_from-zero (λ x. p (f x)) xs) ∙ sym e in
      sym (found_in_front p 0 k (map f xs) (map g ys) from) ∙ sym (position_from-zero p (map f xs ++ map g ys))

  pub place_behind : (r : Option ℕ) → None ≡ position (λ x. p (f x)) xs → r ≡ position (λ y. p (g y)) ys → option_map (λ k. length xs + k) r ≡ position p (map f xs ++ map g ys)
  place_behind r none e =
      let from : position_from p 0 (map f xs) ≡ None = found_mapped p f 0 xs ∙ sym (position_from-zero (λ x. p (f x)) xs) ∙ sym none in
      let behind : position_from p 0 (map f xs ++ map g ys) ≡ position_from p (length xs + 0) (map g ys) =
      found_behind p 0 (map f xs) (map g ys) from ∙ ap (λ n. position_from p n (map g ys)) (rw length-map (omega arith)) in
      ap (option_map (λ k. length xs + k)) (e ∙ position_from-zero (λ y. p (g y)) ys ∙ sym (found_mapped p g 0 ys))
      ∙ sym (found_from p (length xs) 0 (map g ys)) ∙ sym behind ∙ sym (position_from-zero p (map f xs ++ map g ys))
