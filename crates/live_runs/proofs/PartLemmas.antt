-- The parts of a list before and behind its first element that passes a test.
use Rattle.std.proofs.Common.{◌≡◌, ◌+◌, Bool, true, false, List, [], ◌∷◌, ◌++◌, length, refl, sym}
use Rattle.std.proofs.Common.{ap, ◌∙◌, arith, inl, inr}
use Rattle.std.specs.List.{list_any, before_first, after_first}
use Rattle.std.proofs.lemmas.Bool.{cases_Bool, false≢true}
use Rattle.input_lines.proofs.PartLemmas.{before_here, after_here, before_skip, after_skip}

-- The first element of a list that passes a test.

-- more elements behind a list that has one
pub record PartsStay {X : Type 0} (p : X → Bool) (xs more : List X) : Type 0 where
  pub before : before_first p (xs ++ more) ≡ before_first p xs
  pub after : after_first p (xs ++ more) ≡ after_first p xs ++ more
  pub any : list_any p (xs ++ more) ≡ true
  pub count : length xs ≡ length (before_first p xs) + 1 + length (after_first p xs)

pub parts_stay : {X : Type 0} (p : X → Bool) (xs more : List X) → list_any p xs ≡ true → PartsStay p xs more
parts_stay p [] more some = absurd (false≢true some)
parts_stay p (x ∷ xs) more some =
    elim (cases_Bool (p x)) [
      | inl here ↦ record {
        before = before_here p x (xs ++ more) here ∙ sym (before_here p x xs here);
        after = after_here p x (xs ++ more) here ∙ ap (λ l. l ++ more) (sym (after_here p x xs here));
        any = rw here refl;
        count = rw (before_here p x xs here, after_here p x xs here) (omega arith);
      }
      | inr other ↦
          (let behind = parts_stay p xs more (rw other at some) in
          record {
            before = before_skip p x (xs ++ more) other ∙ ap (λ l. x ∷ l) behind.before ∙ sym (before_skip p x xs other);
            after = after_skip p x (xs ++ more) other ∙ behind.after ∙ ap (λ l. l ++ more) (sym (after_skip p x xs other));
            any = rw other behind.any;
            count = rw (before_skip p x xs other, after_skip p x xs other) (omega (arith, behind.count));
          })
    ]

-- elements behind those of which none passes
pub before_more : {X : Type 0} (p : X → Bool) (xs more : List X) → list_any p xs ≡ false → before_first p (xs ++ more) ≡ xs ++ before_first p more
before_more p [] more none = refl
before_more p (x ∷ xs) more none =
    elim (cases_Bool (p x)) [
      | inl here ↦ (let never : true ≡ false = rw here at none in cc)
      | inr other ↦ before_skip p x (xs ++ more) other ∙ ap (λ l. x ∷ l) (before_more p xs more (rw other at none))
    ]

pub after_more : {X : Type 0} (p : X → Bool) (xs more : List X) → list_any p xs ≡ false → after_first p (xs ++ more) ≡ after_first p more
after_more p [] more none = refl
after_more p (x ∷ xs) more none =
    elim (cases_Bool (p x)) [
      | inl here ↦ (let never : true ≡ false = rw here at none in cc)
      | inr other ↦ after_skip p x (xs ++ more) other ∙ after_more p xs more (rw other at none)
    ]
