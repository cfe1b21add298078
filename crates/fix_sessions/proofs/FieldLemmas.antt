-- The fields of a body, piece by piece.
use Rattle.std.proofs.Common.{◌≡◌, ◌≤◌, ◌<◌, ◌+◌, ◌==◌, ℕ, zero, suc, true, false, List, [], ◌∷◌, length, Some, None, cond, if◌then◌else◌}
use Rattle.std.proofs.Common.{refl, ◌∙◌, ap, arith, length-drop}
use Rattle.std.specs.List.{position_or_len}
use Rattle.std.proofs.lemmas.List.Sums.{sum_by-cons}
use Rattle.fix_fields.specs.Frame.{Field, value_of, times_of}
use Rattle.fix_sessions.specs.Fields.{front_piece, behind_piece, piece_field, onto_fields, fields_within, fields_in}

-- what stands behind the first piece is shorter
pub behind_is_shorter : (byte : ℕ) (bytes : List ℕ) → length (behind_piece (byte ∷ bytes)) ≤ length bytes
behind_is_shorter byte bytes =
    omega (arith, length-drop (position_or_len (λ b. b == 1) (byte ∷ bytes) + 1) (byte ∷ bytes))

-- there are no more pieces than bytes
enough : (a b : ℕ) (body : List ℕ) → length body ≤ a → length body ≤ b → fields_within a body ≡ fields_within b body
enough zero zero body in_a in_b = refl
enough zero (suc b) [] in_a in_b = refl
enough zero (suc b) (x ∷ xs) in_a in_b = absurd (omega (arith, in_a))
enough (suc a) zero [] in_a in_b = refl
enough (suc a) zero (x ∷ xs) in_a in_b = absurd (omega (arith, in_b))
enough (suc a) (suc b) [] in_a in_b = refl
enough (suc a) (suc b) (x ∷ xs) in_a in_b =
    let shorter = behind_is_shorter x xs in
    ap (λ fields. onto_fields (piece_field (front_piece (x ∷ xs))) fields)
    (enough a b (behind_piece (x ∷ xs)) (omega (arith, in_a, shorter)) (omega (arith, in_b, shorter)))

-- the first piece, and those behind it
pub fields_in-step : (x : ℕ) (xs : List ℕ)
    → fields_in (x ∷ xs) ≡ onto_fields (piece_field (front_piece (x ∷ xs))) (fields_in (behind_piece (x ∷ xs)))
unfolding fields_in
fields_in-step x xs =
    let behind = behind_piece (x ∷ xs) in
    let shorter = behind_is_shorter x xs in
    ap (λ fields. onto_fields (piece_field (front_piece (x ∷ xs))) fields)
    (enough (length xs) (length behind) behind shorter (omega arith))

-- the value of a tag, past a piece that is no field, past another, and here
pub value_past_none : (tag : ℕ) (body : List ℕ) → 0 < length body → piece_field (front_piece body) ≡ None
    → value_of tag (fields_in body) ≡ value_of tag (fields_in (behind_piece body))
value_past_none tag [] some none = absurd (omega (arith, some))
value_past_none tag (x ∷ xs) some none =
    let rest = fields_in (behind_piece (x ∷ xs)) in
    ap (λ fields. value_of tag fields) (fields_in-step x xs ∙ ap (λ f. onto_fields f rest) none)

pub value_past_other : (tag found : ℕ) (v body : List ℕ) → 0 < length body
    → piece_field (front_piece body) ≡ Some (found, v) → (found == tag) ≡ false
    → value_of tag (fields_in body) ≡ value_of tag (fields_in (behind_piece body))
value_past_other tag found v [] some is other = absurd (omega (arith, some))
value_past_other tag found v (x ∷ xs) some is other =
    let rest = fields_in (behind_piece (x ∷ xs)) in
    ap (λ fields. value_of tag fields) (fields_in-step x xs ∙ ap (λ f. onto_fields f rest) is)
    ∙ ap (λ b. if b then Some v else value_of tag rest) other

pub value_here : (tag found : ℕ) (v body : List ℕ) → 0 < length body
    → piece_field (front_piece body) ≡ Some (found, v) → (found == tag) ≡ true
    → value_of tag (fields_in body) ≡ Some v
value_here tag found v [] some is same = absurd (omega (arith, some))
value_here tag found v (x ∷ xs) some is same =
    let rest = fields_in (behind_piece (x ∷ xs)) in
    ap (λ fields. value_of tag fields) (fields_in-step x xs ∙ ap (λ f. onto_fields f rest) is)
    ∙ ap (λ b. if b then Some v else value_of tag rest) same

pub times_cons : (tag found : ℕ) (v : List ℕ) (rest : List Field) → times_of tag ((found, v) ∷ rest) ≡ cond (found == tag) 1 0 + times_of tag rest
times_cons tag found v rest = sum_by-cons (λ f. cond (f.0 == tag) 1 0) (found, v) rest

-- how often a tag stands, past a piece that is no field, past another, and here
pub times_past_none : (tag : ℕ) (body : List ℕ) → 0 < length body → piece_field (front_piece body) ≡ None
    → times_of tag (fields_in body) ≡ times_of tag (fields_in (behind_piece body))
times_past_none tag [] some none = absurd (omega (arith, some))
times_past_none tag (x ∷ xs) some none =
    let rest = fields_in (behind_piece (x ∷ xs)) in
    ap (λ fields. times_of tag fields) (fields_in-step x xs ∙ ap (λ f. onto_fields f rest) none)

pub times_past_other : (tag found : ℕ) (v body : List ℕ) → 0 < length body
    → piece_field (front_piece body) ≡ Some (found, v) → (found == tag) ≡ false
    → times_of tag (fields_in body) ≡ times_of tag (fields_in (behind_piece body))
times_past_other tag found v [] some is other = absurd (omega (arith, some))
times_past_other tag found v (x ∷ xs) some is other =
    let rest = fields_in (behind_piece (x ∷ xs)) in
    ap (λ fields. times_of tag fields) (fields_in-step x xs ∙ ap (λ f. onto_fields f rest) is)
    ∙ times_cons tag found v rest ∙ ap (λ b. cond b 1 0 + times_of tag rest) other ∙ omega arith

pub times_here : (tag found : ℕ) (v body : List ℕ) → 0 < length body
    → piece_field (front_piece body) ≡ Some (found, v) → (found == tag) ≡ true
    → times_of tag (fields_in body) ≡ times_of tag (fields_in (behind_piece body)) + 1
times_here tag found v [] some is same = absurd (omega (arith, some))
times_here tag found v (x ∷ xs) some is same =
    let rest = fields_in (behind_piece (x ∷ xs)) in
    ap (λ fields. times_of tag fields) (fields_in-step x xs ∙ ap (λ f. onto_fields f rest) is)
    ∙ times_cons tag found v rest ∙ ap (λ b. cond b 1 0 + times_of tag rest) same ∙ omega arith

-- no bytes have no field
pub no_fields : (rest : List ℕ) → length rest ≤ 0 → fields_in rest ≡ []
unfolding fields_in
no_fields [] none = refl
no_fields (x ∷ xs) none = absurd (omega (arith, none))
