-- What stands before a place of a body, where a piece with its SOH ends there.
use Rattle.std.proofs.Common.{◌≡◌, ◌≤◌, ◌<◌, ◌+◌, ◌==◌, ℕ, suc, not, Bool, true, false, List, [], ◌∷◌, ◌++◌, length, take, drop, Option, Some, None, cond}
use Rattle.std.proofs.Common.{refl, sym, ◌∙◌, ap, arith, inl, inr, append_assoc, length-take, length-drop}
use Rattle.std.specs.List.{position_or_len}
use Rattle.std.proofs.lemmas.Bool.{cases_Bool}
use Rattle.std.proofs.lemmas.List.{append-nil, length-append, take-append-drop, take-append-le}
use Rattle.std.proofs.Math.Seq.{take-add, drop-append_seam}
use Rattle.fix_fields.specs.Frame.{Field}
use Rattle.fix_sessions.specs.Fields.{front_piece, behind_piece, piece_field, onto_fields, fields_in}
use Rattle.fix_sessions.proofs.FieldLemmas.{fields_in-step, no_fields}

-- how many bytes stand before the first SOH
abbrev place : List ℕ → ℕ
place bytes = position_or_len (λ b. b == 1) bytes

-- the first piece ends where it ends, whatever stands behind its SOH
place-step : (b : Bool) (x : ℕ) (xs : List ℕ) → (x == 1) ≡ b → place (x ∷ xs) ≡ cond (not b) (1 + place xs) 0
place-step b x xs is = ap (λ c. cond (not c) (1 + place xs) 0) is

same_place : (body rest : List ℕ) → place body < length body → place (take (place body + 1) body ++ rest) ≡ place body
same_place [] rest there = absurd (omega (arith, there))
same_place (x ∷ xs) rest there = by (x == 1) refl (same_place xs rest)
  where
    by : (b : Bool) → (x == 1) ≡ b → (place xs < length xs → place (take (place xs + 1) xs ++ rest) ≡ place xs)
        → place (take (place (x ∷ xs) + 1) (x ∷ xs) ++ rest) ≡ place (x ∷ xs)
    by true is more =
        let here : place (x ∷ xs) ≡ 0 = place-step true x xs is in
        ap (λ n. place (take (n + 1) (x ∷ xs) ++ rest)) here ∙ place-step true x rest is ∙ sym here
    by false is more =
        let here : place (x ∷ xs) ≡ suc (place xs) = place-step false x xs is ∙ omega arith in
        let count : place (x ∷ xs) + 1 ≡ suc (place xs + 1) = omega (arith, here) in
        let behind = take (place xs + 1) xs ++ rest in
        ap (λ n. place (take n (x ∷ xs) ++ rest)) count ∙ place-step false x behind is
        ∙ ap (λ n. 1 + n) (more (omega (arith, here, there))) ∙ omega (arith, here)

front_len : (body : List ℕ) → place body < length body → length (front_piece body) ≡ place body
front_len body there = omega (arith, length-take (place body) body, there)

cut_len : (body : List ℕ) → place body < length body → length (take (place body + 1) body) ≡ place body + 1
cut_len body there = omega (arith, length-take (place body + 1) body, there)

-- the first piece with its SOH, and other bytes behind it
front_is_same : (body rest : List ℕ) → place body < length body → front_piece (take (place body + 1) body ++ rest) ≡ front_piece body
front_is_same body rest there =
    let cut = take (place body + 1) body in
    ap (λ n. take n (cut ++ rest)) (same_place body rest there)
    ∙ take-append-le (place body) cut rest (omega (arith, cut_len body there))
    ∙ sym (take-append-le (place body) cut (drop (place body + 1) body) (omega (arith, cut_len body there)))
    ∙ ap (take (place body)) (take-append-drop (place body + 1) body)

behind_is_rest : (body rest : List ℕ) → place body < length body → behind_piece (take (place body + 1) body ++ rest) ≡ rest
behind_is_rest body rest there =
    let cut = take (place body + 1) body in
    ap (λ n. drop n (cut ++ rest)) (ap (λ n. n + 1) (same_place body rest there) ∙ sym (cut_len body there))
    ∙ drop-append_seam cut rest

first_field : (body : List ℕ) → 0 < length body → fields_in body ≡ onto_fields (piece_field (front_piece body)) (fields_in (behind_piece body))
first_field [] some = absurd (omega (arith, some))
first_field (x ∷ xs) some = fields_in-step x xs

closed_fields : (body rest : List ℕ) → place body < length body
    → fields_in (take (place body + 1) body ++ rest) ≡ onto_fields (piece_field (front_piece body)) (fields_in rest)
closed_fields body rest there =
    let cut = take (place body + 1) body in
    first_field (cut ++ rest) (omega (arith, length-append cut rest, cut_len body there))
    ∙ ap (λ p. onto_fields (piece_field p) (fields_in (behind_piece (cut ++ rest)))) (front_is_same body rest there)
    ∙ ap (λ b. onto_fields (piece_field (front_piece body)) (fields_in b)) (behind_is_rest body rest there)

-- before a place stand these fields, whatever stands behind it
abbrev pub IsSeam : List ℕ → ℕ → List Field → Type 0
IsSeam body at listed = at ≤ length body → (rest : List ℕ) → fields_in (take at body ++ rest) ≡ listed ++ fields_in rest

-- so it is at the front
pub seam_begins : (body : List ℕ) → IsSeam body 0 []
seam_begins body within rest = refl

-- and behind one piece more
seam_more : (body : List ℕ) (at : ℕ) (listed : List Field) → at < length body → IsSeam body at listed
    → at + (length (front_piece (drop at body)) + 1) ≤ length body → (rest : List ℕ)
    → fields_in (take (at + (length (front_piece (drop at body)) + 1)) body ++ rest)
    ≡ listed ++ onto_fields (piece_field (front_piece (drop at body))) (fields_in rest)
seam_more body at listed within seam there rest =
    let behind = drop at body in
    let short : place behind < length behind =
    omega (arith, length-take (place behind) behind, length-drop at body, within, there) in
    let cut = take (place behind + 1) behind in
    ap (λ n. fields_in (take (at + (n + 1)) body ++ rest)) (front_len behind short)
    ∙ ap (λ b. fields_in (b ++ rest)) (take-add at (place behind + 1) body)
    ∙ ap fields_in (append_assoc (take at body) cut rest)
    ∙ seam (omega (arith, within)) (cut ++ rest)
    ∙ ap (λ f. listed ++ f) (closed_fields behind rest short)

-- the same, by the parts that were cut
place_is : (body piece : List ℕ) (at : ℕ) → piece ≡ front_piece (drop at body) → at + (length (front_piece (drop at body)) + 1) ≡ at + length piece + 1
place_is body piece at cut = omega (arith, ap length cut)

pub seam_some : (body piece : List ℕ) (at : ℕ) (field : Field) (listed : List Field) → at < length body → IsSeam body at listed
    → piece ≡ front_piece (drop at body) → piece_field piece ≡ Some field
    → IsSeam body (at + length piece + 1) (listed ++ field ∷ [])
seam_some body piece at field listed within seam cut is there rest =
    let next = place_is body piece at cut in
    ap (λ n. fields_in (take n body ++ rest)) (sym next)
    ∙ seam_more body at listed within seam (omega (arith, next, there)) rest
    ∙ ap (λ p. listed ++ onto_fields (piece_field p) (fields_in rest)) (sym cut)
    ∙ ap (λ f. listed ++ onto_fields f (fields_in rest)) is
    ∙ sym (append_assoc listed (field ∷ []) (fields_in rest))

pub seam_none : (body piece : List ℕ) (at : ℕ) (listed : List Field) → at < length body → IsSeam body at listed
    → piece ≡ front_piece (drop at body) → piece_field piece ≡ None
    → IsSeam body (at + length piece + 1) listed
seam_none body piece at listed within seam cut is there rest =
    let next = place_is body piece at cut in
    ap (λ n. fields_in (take n body ++ rest)) (sym next)
    ∙ seam_more body at listed within seam (omega (arith, next, there)) rest
    ∙ ap (λ p. listed ++ onto_fields (piece_field p) (fields_in rest)) (sym cut)
    ∙ ap (λ f. listed ++ onto_fields f (fields_in rest)) is

-- what stands before it has these fields
pub before_seam : (body before : List ℕ) (at : ℕ) (listed : List Field) → at < length body → IsSeam body at listed
    → before ≡ take at body → fields_in before ≡ listed
before_seam body before at listed within seam is =
    ap fields_in (is ∙ sym (append-nil (take at body)))
    ∙ seam (omega (arith, within)) []
    ∙ ap (λ f. listed ++ f) (no_fields [] (omega arith))
    ∙ append-nil listed
