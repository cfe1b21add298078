-- Lists of which one grows by what the other loses.
use Rattle.std.proofs.Common.{◌≡◌, ◌<◌, ◌∙◌, sym, ap, refl, ℕ, ◌+◌, ◌-◌, suc, List, [], ◌∷◌, ◌++◌}
use Rattle.std.proofs.Common.{length, map, take, drop, get_or, ◌⊎◌, inl, inr, append_assoc, arith}
use Rattle.std.proofs.Common.{length-append, length-drop}
use Rattle.std.proofs.lemmas.List.{append-nil, drop_more, map-append, nil_from_length}
use Rattle.std.proofs.lemmas.Grind.{take_at_read}

-- Lists.

-- a list that is cut one item further on

module _ {A : Type 0} (xs : List A) (i : ℕ) where
  cut_within : (x : A) (rest : List A) → drop i xs ≡ x ∷ rest → i < length xs
  cut_within x rest is =
      let left : length (drop i xs) ≡ length xs - i = length-drop i xs in
      let more : length (drop i xs) ≡ suc (length rest) = ap length is in
      omega (arith, left, more)

  pub drop_next : (x : A) (rest : List A) → drop i xs ≡ x ∷ rest → drop (i + 1) xs ≡ rest
  drop_next x rest is =
      let here : x ∷ rest ≡ get_or xs i x ∷ drop (i + 1) xs =
      sym is ∙ drop_more xs i x (cut_within x rest is) in
      cc

  pub take_next : (x : A) (rest : List A) → drop i xs ≡ x ∷ rest
      → take (i + 1) xs ≡ take i xs ++ x ∷ []
  take_next x rest is =
      let here : x ∷ rest ≡ get_or xs i x ∷ drop (i + 1) xs =
      sym is ∙ drop_more xs i x (cut_within x rest is) in
      let same : get_or xs i x ≡ x = cc in
      (take_at_read xs i x (cut_within x rest is)).1 ∙ ap (λ y. take i xs ++ y ∷ []) same

-- lists of one length, of which one has ended
pub ended_too : {A B : Type 0} (xs : List A) (ys : List B) → length xs ≡ length ys → xs ≡ []
    → ys ≡ []
ended_too xs [] same is = refl
ended_too xs (y ∷ ys) same is =
    let none : length xs ≡ 0 = ap length is in
    let some : length ys + 1 ≡ 0 = omega (arith, none, same) in
    absurd (omega (arith, some))

-- two lists of one length have both ended where one has
pub both_ended : {A B : Type 0} (xs : List A) (ys : List B) (m n : ℕ) → m ≡ length xs
    → n ≡ length ys → length ys ≡ length xs → (m ≡ 0) ⊎ (n ≡ 0) → (xs ≡ []) × (ys ≡ [])
both_ended xs ys m n first second same (inl none) =
    (nil_from_length xs (sym first ∙ none), nil_from_length ys (same ∙ sym first ∙ none))
both_ended xs ys m n first second same (inr none) =
    (nil_from_length xs (sym same ∙ sym second ∙ none), nil_from_length ys (sym second ∙ none))

-- one list grows by what the other loses
pub moved : {A B C : Type 0} (f : A → C) (h : B → C) (xs : List A) (x : A) (y : B)
    (ys before : List B) (all : List C) → map f xs ++ map h before ≡ all → before ≡ y ∷ ys
    → f x ≡ h y → map f (xs ++ x ∷ []) ++ map h ys ≡ all
moved f h xs x y ys before all so_far first same =
    ap (λ made. made ++ map h ys) (map-append f xs (x ∷ []))
    ∙ append_assoc (map f xs) (f x ∷ []) (map h ys)
    ∙ ap (λ own. map f xs ++ own ∷ map h ys) same
    ∙ ap (λ rest. map f xs ++ map h rest) (sym first) ∙ so_far

-- and has all of it in the end
pub all_moved : {A B C : Type 0} (f : A → C) (h : B → C) (xs : List A) (ys : List B) (all : List C)
    → map f xs ++ map h ys ≡ all → ys ≡ [] → map f xs ≡ all
all_moved f h xs ys all so_far none =
    sym (append-nil (map f xs)) ∙ ap (λ rest. map f xs ++ map h rest) (sym none) ∙ so_far

-- the lengths of two lists, of which each loses its first
pub both_shorter : {A B : Type 0} (xs later : List A) (ys rest : List B) (x : A) (y : B)
    → length ys ≡ length xs → xs ≡ x ∷ later → ys ≡ y ∷ rest → length rest ≡ length later
both_shorter xs later ys rest x y same first second =
    let left : length xs ≡ suc (length later) = ap length first in
    let right : length ys ≡ suc (length rest) = ap length second in
    omega (arith, same, left, right)

-- a list that grows by one, and one that loses one
pub counted_on : {A B : Type 0} (all : ℕ) (xs : List A) (x : A) (ys rest : List B) (y : B)
    → length xs + length ys ≡ all → ys ≡ y ∷ rest → length (xs ++ x ∷ []) + length rest ≡ all
counted_on all xs x ys rest y so_far first =
    let longer : length (xs ++ x ∷ []) ≡ length xs + 1 = length-append xs (x ∷ []) in
    let left : length ys ≡ suc (length rest) = ap length first in
    omega (arith, so_far, longer, left)
