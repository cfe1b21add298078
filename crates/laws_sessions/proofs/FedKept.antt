-- What is kept for a firm, by number.
use Rattle.std.proofs.Common.{◌≡◌, ◌≤◌, ◌<◌, ◌+◌, ◌-◌, ◌==◌, ℕ, Bool, true, false}
use Rattle.std.proofs.Common.{nat_le, nat_lt, List, [], ◌∷◌, Option, Some, None, refl, sym, ◌∙◌}
use Rattle.std.proofs.Common.{ap, arith, inl, inr, if◌then◌else◌, unwrap_or}
use Rattle.std.proofs.lemmas.Bool.{cases_Bool, eqb-true, eq-eqb, false≢true}
use Rattle.std.proofs.lemmas.Bool.Decides.{nat_tests}
use Rattle.fix_fields.specs.Frame.{Field}
use Rattle.fix_sessions.specs.Texts.{is_that}
use Rattle.laws_sessions.specs.Kept.{Entry, IsFree, IsKept, Within, is_answer_body}
use Rattle.laws_sessions.specs.Fed.{has_number}

-- Tests.

-- what holds of both sides of a choice holds of it
pub choice : {A : Type 0} (P : A → Type 0) (b : Bool) (x y : A) → (b ≡ true → P x) → (b ≡ false → P y)
    → P (if b then x else y)
choice P true x y p q = p refl
choice P false x y p q = q refl

pub less_by : (m n : ℕ) → nat_lt m n ≡ true → m < n
less_by m n h = grind (arith, nat_tests)

pub not_less : (m n : ℕ) → nat_lt m n ≡ false → n ≤ m
not_less m n h = grind (arith, nat_tests)

pub is_less : (m n : ℕ) → m < n → nat_lt m n ≡ true
is_less m n h = grind (arith, nat_tests)

pub at_most : (m n : ℕ) → nat_le m n ≡ true → m ≤ n
at_most m n h = grind (arith, nat_tests)

pub is_at_most : (m n : ℕ) → m ≤ n → nat_le m n ≡ true
is_at_most m n h = grind (arith, nat_tests)

pub by_true : {A : Type 0} (b : Bool) (x y : A) → b ≡ true → (if b then x else y) ≡ x
by_true true x y h = refl
by_true false x y h = absurd (false≢true h)

pub by_false : {A : Type 0} (b : Bool) (x y : A) → b ≡ false → (if b then x else y) ≡ y
by_false true x y h = absurd (false≢true (sym h))
by_false false x y h = refl

pub other_number : (m n : ℕ) → (n ≡ m → ⊥) → (m == n) ≡ false
other_number m n differs = elim (cases_Bool (m == n)) [
  | inl same ↦ absurd (differs (sym (eqb-true m n same)))
  | inr isnt ↦ isnt
]

-- What is kept under a number.

kept_above : (low high n : ℕ) (body : List Field) (kept : List Entry) → Within low high kept
    → IsKept n body kept → low ≤ n
kept_above low high n body [] within is = absurd is
kept_above low high n body (e ∷ es) within (inl here) =
    (let at = within.0 in let same = here.0 in omega (arith, at, same))
kept_above low high n body (e ∷ es) within (inr there) =
    (let at = within.0 in let up = kept_above (e.number + 1) high n body es within.1 there in omega (arith, at, up))

within_last : (low high : ℕ) (kept : List Entry) → Within low high kept → low ≤ high
within_last low high [] within = within
within_last low high (e ∷ es) within =
    (let at = within.0 in let up = within_last (e.number + 1) high es within.1 in omega (arith, at, up))

pub kept_below : (low high n : ℕ) (body : List Field) (kept : List Entry) → Within low high kept
    → IsKept n body kept → n < high
kept_below low high n body [] within is = absurd is
kept_below low high n body (e ∷ es) within (inl here) =
    (let up = within_last (e.number + 1) high es within.1 in let same = here.0 in omega (arith, up, same))
kept_below low high n body (e ∷ es) within (inr there) = kept_below (e.number + 1) high n body es within.1 there

-- it is one message
pub kept_once : (low high n : ℕ) (body other : List Field) (kept : List Entry) → Within low high kept
    → IsKept n body kept → IsKept n other kept → body ≡ other
kept_once low high n body other [] within is also = absurd is
kept_once low high n body other (e ∷ es) within (inl here) (inl too) = here.1 ∙ sym too.1
kept_once low high n body other (e ∷ es) within (inl here) (inr there) =
    (let up = kept_above (e.number + 1) high n other es within.1 there in
    let same = here.0 in absurd (omega (arith, up, same)))
kept_once low high n body other (e ∷ es) within (inr there) (inl here) =
    (let up = kept_above (e.number + 1) high n body es within.1 there in
    let same = here.0 in absurd (omega (arith, up, same)))
kept_once low high n body other (e ∷ es) within (inr there) (inr also) =
    kept_once (e.number + 1) high n body other es within.1 there also

pub not_there : (n : ℕ) (body : List Field) (kept : List Entry) → has_number n kept ≡ false
    → IsKept n body kept → ⊥
not_there n body [] none is = is
not_there n body (e ∷ es) none is = elim (cases_Bool (e.number == n)) [
  | inl same ↦ false≢true (sym (rw same at none))
  | inr differs ↦ elim is [
    | inl here ↦ false≢true (sym differs ∙ eq-eqb e.number n (sym here.0))
    | inr there ↦ not_there n body es (rw differs at none) there
  ]
]

-- where nothing stands that is sent again, what is kept and is no answer stands behind
pub behind_free : (from to n : ℕ) (body : List Field) (kept : List Entry) → IsFree from to kept
    → IsKept n body kept → is_answer_body body ≡ false → from ≤ n → to ≤ n
behind_free from to n body [] free is isnt least = absurd is
behind_free from to n body (e ∷ es) free (inr there) isnt least = behind_free from to n body es free.1 there isnt least
behind_free from to n body (e ∷ es) free (inl here) isnt least = elim free.0 [
  | inl before ↦ (let same = here.0 in absurd (omega (arith, before, same, least)))
  | inr rest ↦ (elim rest [
    | inl behind ↦ (let same = here.0 in omega (arith, behind, same))
    | inr answer ↦ absurd (false≢true (sym isnt ∙ ap is_answer_body here.1 ∙ answer))
  ])
]

pub answer_again : (text : List ℕ) (value : Option (List ℕ)) → is_that text value ≡ true
    → is_that text (Some (unwrap_or value [])) ≡ true
answer_again text None h = absurd (false≢true h)
answer_again text (Some value) h = h
