-- The form of a body, piece by piece.
use Rattle.std.proofs.Common.{◌≡◌, ◌≤◌, ◌<◌, ◌+◌, ◌-◌, ◌==◌, ℕ, zero, suc, true, false, List, [], ◌∷◌, length, take, drop, nat_le, Option, Some, None}
use Rattle.std.proofs.Common.{refl, sym, ◌∙◌, ap, arith, inl, inr, length-take}
use Rattle.std.specs.List.{position_or_len}
use Rattle.std.proofs.lemmas.Bool.{cases_Bool}
use Rattle.std.proofs.lemmas.Bool.Decides.{nat_tests}
use Rattle.fix_sessions.specs.Fields.{front_piece, behind_piece, piece_field, onto_fields, fields_in}
use Rattle.fix_sessions.specs.Flaws.{or_else, piece_flaw, flaw_from, added_len, added_within, last_of}
use Rattle.fix_sessions.specs.declared.turns.Fault.{Fault}
use Rattle.fix_sessions.proofs.FieldLemmas.{behind_is_shorter, fields_in-step}

-- a body that is gone through has nothing more
at_end : (most : ℕ) (body : List ℕ) (at : ℕ) → length body ≤ at → flaw_from most body at ≡ None
at_end zero body at over = refl
at_end (suc most) body at over =
    let test : nat_le (length body) at ≡ true = grind (arith, nat_tests) in
    rw test refl

-- one step
pub one_step : (most : ℕ) (body : List ℕ) (at : ℕ) → at < length body
    → flaw_from (suc most) body at ≡ or_else (piece_flaw (take at body) (front_piece (drop at body)))
    (flaw_from most body (at + (length (front_piece (drop at body)) + 1)))
one_step most body at within =
    let test : nat_le (length body) at ≡ false = grind (arith, nat_tests) in
    rw test refl

-- there are no more steps than bytes
enough : (a b : ℕ) (body : List ℕ) (at : ℕ) → length body ≤ a + at → length body ≤ b + at → flaw_from a body at ≡ flaw_from b body at
enough zero b body at in_a in_b = sym (at_end b body at (omega (arith, in_a)))
enough (suc a) zero body at in_a in_b = at_end (suc a) body at (omega (arith, in_b))
enough (suc a) (suc b) body at in_a in_b =
    let next = at + (length (front_piece (drop at body)) + 1) in
    elim (cases_Bool (nat_le (length body) at)) [
      | inl over ↦ rw over refl
      | inr within ↦
          (rw within (ap (λ rest. or_else (piece_flaw (take at body) (front_piece (drop at body))) rest)
          (enough a b body next (omega (arith, in_a)) (omega (arith, in_b)))))
    ]

-- the first fault of a place on is the piece's there, or one behind it
pub step_from : (body : List ℕ) (at : ℕ) → at < length body
    → flaw_from (length body) body at ≡ or_else (piece_flaw (take at body) (front_piece (drop at body)))
    (flaw_from (length body) body (at + (length (front_piece (drop at body)) + 1)))
step_from body at within =
    enough (length body) (suc (length body)) body at (omega arith) (omega arith) ∙ one_step (length body) body at within

-- a piece that has no fault is passed over
pub passes : (body : List ℕ) (at : ℕ) → at < length body → piece_flaw (take at body) (front_piece (drop at body)) ≡ None
    → flaw_from (length body) body at
    ≡ flaw_from (length body) body (at + (length (front_piece (drop at body)) + 1))
passes body at within none =
    let next = at + (length (front_piece (drop at body)) + 1) in
    enough (length body) (suc (length body)) body at (omega arith) (omega arith)
    ∙ one_step (length body) body at within
    ∙ ap (λ first. or_else first (flaw_from (length body) body next)) none

-- one that has one is told
pub is_told : (body : List ℕ) (at : ℕ) (fault : Fault) → at < length body → piece_flaw (take at body) (front_piece (drop at body)) ≡ Some fault
    → flaw_from (length body) body at ≡ Some fault
is_told body at fault within some =
    let next = at + (length (front_piece (drop at body)) + 1) in
    enough (length body) (suc (length body)) body at (omega arith) (omega arith)
    ∙ one_step (length body) body at within
    ∙ ap (λ first. or_else first (flaw_from (length body) body next)) some

pub no_more : (body : List ℕ) (at : ℕ) → length body ≤ at → flaw_from (length body) body at ≡ None
no_more body at over = at_end (length body) body at over

-- What a resend has added.

enough_added : (a b : ℕ) (body : List ℕ) → length body ≤ a → length body ≤ b → added_within a body ≡ added_within b body
enough_added zero zero body in_a in_b = refl
enough_added zero (suc b) [] in_a in_b = refl
enough_added zero (suc b) (x ∷ xs) in_a in_b = absurd (omega (arith, in_a))
enough_added (suc a) zero [] in_a in_b = refl
enough_added (suc a) zero (x ∷ xs) in_a in_b = absurd (omega (arith, in_b))
enough_added (suc a) (suc b) [] in_a in_b = refl
enough_added (suc a) (suc b) (x ∷ xs) in_a in_b =
    let rest = x ∷ xs in
    let shorter = behind_is_shorter x xs in
    ap (λ n. added_len (length rest - length (behind_piece rest)) (piece_field (front_piece rest)) + n)
    (enough_added a b (behind_piece rest) (omega (arith, in_a, shorter)) (omega (arith, in_b, shorter)))

pub added_step : (rest : List ℕ) → 0 < length rest
    → added_within (length rest) rest
    ≡ added_len (length rest - length (behind_piece rest)) (piece_field (front_piece rest))
    + added_within (length (behind_piece rest)) (behind_piece rest)
added_step [] some = absurd (omega (arith, some))
added_step (x ∷ xs) some =
    let rest = x ∷ xs in
    let shorter = behind_is_shorter x xs in
    ap (λ n. added_len (length rest - length (behind_piece rest)) (piece_field (front_piece rest)) + n)
    (enough_added (length xs) (length (behind_piece rest)) (behind_piece rest) shorter (omega arith))

pub behind_shorter : (rest : List ℕ) → 0 < length rest → length (behind_piece rest) < length rest
behind_shorter [] some = absurd (omega (arith, some))
behind_shorter (x ∷ xs) some = omega (arith, behind_is_shorter x xs)

-- The last tag.

pub last_past_none : (last : Option ℕ) (rest : List ℕ) → 0 < length rest → piece_field (front_piece rest) ≡ None
    → last_of last (fields_in rest) ≡ last_of last (fields_in (behind_piece rest))
last_past_none last [] some none = absurd (omega (arith, some))
last_past_none last (x ∷ xs) some none =
    ap (last_of last) (fields_in-step x xs ∙ ap (λ f. onto_fields f (fields_in (behind_piece (x ∷ xs)))) none)

pub last_past_some : (last : Option ℕ) (tag : ℕ) (value rest : List ℕ) → 0 < length rest → piece_field (front_piece rest) ≡ Some (tag, value)
    → last_of last (fields_in rest) ≡ last_of (Some tag) (fields_in (behind_piece rest))
last_past_some last tag value [] some is = absurd (omega (arith, some))
last_past_some last tag value (x ∷ xs) some is =
    ap (last_of last) (fields_in-step x xs ∙ ap (λ f. onto_fields f (fields_in (behind_piece (x ∷ xs)))) is)

pub front_is_short : (body : List ℕ) → length (front_piece body) ≤ length body
front_is_short body = omega (arith, length-take (position_or_len (λ b. b == 1) body) body)

-- a piece, by the parts that were cut
pub flaw_at : (body behind before piece : List ℕ) (at : ℕ) → behind ≡ drop at body → before ≡ take at body → piece ≡ front_piece behind
    → piece_flaw before piece ≡ piece_flaw (take at body) (front_piece (drop at body))
flaw_at body behind before piece at d t f =
    ap (λ b. piece_flaw b piece) t ∙ ap (λ p. piece_flaw (take at body) p) (f ∙ ap front_piece d)
