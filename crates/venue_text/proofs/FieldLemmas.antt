-- Items taken off the front of a list, one by one.
use Rattle.std.proofs.Common.{◌≡◌, ℕ, ◌+◌, ◌≤◌, List, [], ◌∷◌, ◌++◌, length, take, drop, sym, ap, ◌∙◌}
use Rattle.std.proofs.Common.{arith, drop-drop}
use Rattle.std.proofs.Math.Seq.{take-add}
use Rattle.std.proofs.lemmas.List.{take_all, drop_all, length-drop}

-- one call of `next` more, which takes the first of what is left
pub taken_more : {A : Type 0} (all front : List A) (i : ℕ) (s t : List A) (x : A) → (front ≡ take i all) × (s ≡ drop i all) → s ≡ x ∷ t
    → (front ++ x ∷ [] ≡ take (i + 1) all) × (t ≡ drop (i + 1) all)
taken_more all front i s t x (is, left) steps = (
  ap (λ xs. xs ++ x ∷ []) is ∙ ap (λ rest. take i all ++ take 1 rest) (sym steps ∙ left) ∙ sym (take-add i 1 all),
  ap (drop 1) (sym steps ∙ left) ∙ drop-drop 1 i all,
)

-- and one more that finds nothing left
pub taken_all : {A : Type 0} (all front : List A) (i n : ℕ) (s t : List A) → (front ≡ take i all) × (s ≡ drop i all) → i ≤ n → (s ≡ []) × (t ≡ [])
    → (front ≡ take n all) × (t ≡ drop n all)
taken_all all front i n s t (is, left) before (none, last) =
    let few : length all ≤ i = omega (arith, ap length (sym left ∙ none), length-drop i all) in
    (is ∙ take_all i all few ∙ sym (take_all n all (omega arith)), last ∙ sym (drop_all n all (omega arith)))
