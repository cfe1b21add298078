-- A body whose first fields are listed.
use Rattle.std.proofs.Common.{◌≡◌, ◌≤◌, ◌<◌, ◌+◌, ◌==◌, ℕ, not, Bool, true, false, List, [], ◌∷◌, ◌++◌, length, take, drop, Option, Some, None, cond}
use Rattle.std.proofs.Common.{refl, sym, ◌∙◌, ap, subst, arith, append_assoc, length-take, length-drop}
use Rattle.std.specs.List.{position_or_len}
use Rattle.std.proofs.lemmas.List.{drop-drop}
use Rattle.std.proofs.lemmas.List.Sums.{sum_by-append, prefix_len-le-length}
use Rattle.fix_fields.specs.Frame.{Field, value_of, times_of}
use Rattle.fix_sessions.specs.Fields.{front_piece, behind_piece, piece_field, onto_fields, fields_in}
use Rattle.fix_sessions.specs.Flaws.{or_else, piece_flaw, flaw_from}
use Rattle.fix_sessions.specs.declared.turns.Fault.{Fault}
use Rattle.fix_sessions.proofs.FieldLemmas.{fields_in-step}
use Rattle.fix_sessions.proofs.FlawLemmas.{step_from, front_is_short}

-- fields in front of others
chosen_front : (b : Bool) (v w : List ℕ) (first rest : Option (List ℕ)) → cond b (Some w) first ≡ Some v → (first ≡ Some v → rest ≡ Some v) → cond b (Some w) rest ≡ Some v
chosen_front true v w first rest h more = h
chosen_front false v w first rest h more = more h

pub value_in_front : (tag : ℕ) (v : List ℕ) (front rest : List Field) → value_of tag front ≡ Some v → value_of tag (front ++ rest) ≡ Some v
value_in_front tag v [] rest h = cc
value_in_front tag v (field ∷ fields) rest h =
    chosen_front (field.0 == tag) v field.1 (value_of tag fields) (value_of tag (fields ++ rest)) h (value_in_front tag v fields rest)

chosen_behind : (b : Bool) (w : List ℕ) (first all rest : Option (List ℕ)) → cond b (Some w) first ≡ None → (first ≡ None → all ≡ rest) → cond b (Some w) all ≡ rest
chosen_behind true w first all rest h more = cc
chosen_behind false w first all rest h more = more h

pub value_behind : (tag : ℕ) (front rest : List Field) → value_of tag front ≡ None → value_of tag (front ++ rest) ≡ value_of tag rest
value_behind tag [] rest h = refl
value_behind tag (field ∷ fields) rest h =
    chosen_behind (field.0 == tag) field.1 (value_of tag fields) (value_of tag (fields ++ rest)) (value_of tag rest) h (value_behind tag fields rest)

pub times_together : (tag : ℕ) (front rest : List Field) → times_of tag (front ++ rest) ≡ times_of tag front + times_of tag rest
times_together tag front rest = sum_by-append (λ field. cond (field.0 == tag) 1 0) front rest

-- one piece more
pub behind_by_len : (rest : List ℕ) → behind_piece rest ≡ drop (length (front_piece rest) + 1) rest
behind_by_len rest =
    let place = position_or_len (λ b. b == 1) rest in
    let is : length (front_piece rest) ≡ place = omega (arith, length-take place rest, prefix_len-le-length (λ b. not (b == 1)) rest) in
    ap (λ n. drop (n + 1) rest) (sym is)

fields_step : (rest : List ℕ) → 0 < length rest
    → fields_in rest ≡ onto_fields (piece_field (front_piece rest)) (fields_in (drop (length (front_piece rest) + 1) rest))
fields_step [] some = absurd (omega (arith, some))
fields_step (x ∷ xs) some =
    fields_in-step x xs ∙ ap (λ behind. onto_fields (piece_field (front_piece (x ∷ xs))) (fields_in behind)) (behind_by_len (x ∷ xs))

pub fields_from : (bytes : List ℕ) (at : ℕ) → at < length bytes
    → fields_in (drop at bytes) ≡ onto_fields (piece_field (front_piece (drop at bytes)))
    (fields_in (drop (at + (length (front_piece (drop at bytes)) + 1)) bytes))
fields_from bytes at within =
    let rest = drop at bytes in
    fields_step rest (omega (arith, within, length-drop at bytes))
    ∙ ap (λ behind. onto_fields (piece_field (front_piece rest)) (fields_in behind)) (drop-drop (length (front_piece rest) + 1) at bytes)

pub listed_some : (bytes : List ℕ) (at : ℕ) (field : Field) (listed : List Field) → at < length bytes
    → fields_in bytes ≡ listed ++ fields_in (drop at bytes) → piece_field (front_piece (drop at bytes)) ≡ Some field
    → fields_in bytes ≡ (listed ++ field ∷ []) ++ fields_in (drop (at + (length (front_piece (drop at bytes)) + 1)) bytes)
listed_some bytes at field listed within so_far is =
    let behind = fields_in (drop (at + (length (front_piece (drop at bytes)) + 1)) bytes) in
    so_far ∙ ap (λ fields. listed ++ fields) (fields_from bytes at within ∙ ap (λ f. onto_fields f behind) is)
    ∙ sym (append_assoc listed (field ∷ []) behind)

pub listed_none : (bytes : List ℕ) (at : ℕ) (listed : List Field) → at < length bytes
    → fields_in bytes ≡ listed ++ fields_in (drop at bytes) → piece_field (front_piece (drop at bytes)) ≡ None
    → fields_in bytes ≡ listed ++ fields_in (drop (at + (length (front_piece (drop at bytes)) + 1)) bytes)
listed_none bytes at listed within so_far is =
    let behind = fields_in (drop (at + (length (front_piece (drop at bytes)) + 1)) bytes) in
    so_far ∙ ap (λ fields. listed ++ fields) (fields_from bytes at within ∙ ap (λ f. onto_fields f behind) is)

or_else_assoc : (a b c : Option Fault) → or_else a (or_else b c) ≡ or_else (or_else a b) c
or_else_assoc None b c = refl
or_else_assoc (Some fault) b c = refl

pub flaw_more : (bytes : List ℕ) (at : ℕ) (flaw : Option Fault) → at < length bytes
    → flaw_from (length bytes) bytes 0 ≡ or_else flaw (flaw_from (length bytes) bytes at)
    → flaw_from (length bytes) bytes 0 ≡ or_else (or_else flaw (piece_flaw (take at bytes) (front_piece (drop at bytes))))
    (flaw_from (length bytes) bytes (at + (length (front_piece (drop at bytes)) + 1)))
flaw_more bytes at flaw within so_far =
    let next = flaw_from (length bytes) bytes (at + (length (front_piece (drop at bytes)) + 1)) in
    so_far ∙ ap (or_else flaw) (step_from bytes at within) ∙ or_else_assoc flaw (piece_flaw (take at bytes) (front_piece (drop at bytes))) next

-- the same, by the parts that were cut
step_len : (at len : ℕ) → at + (len + 1) ≡ at + len + 1
step_len at len = omega arith

next_is : (bytes piece : List ℕ) (at : ℕ) → piece ≡ front_piece (drop at bytes) → at + (length (front_piece (drop at bytes)) + 1) ≡ at + length piece + 1
next_is bytes piece at is = ap (λ p. at + (length p + 1)) (sym is) ∙ step_len at (length piece)

pub next_some : (bytes piece : List ℕ) (at : ℕ) (field : Field) (listed : List Field) → at < length bytes
    → fields_in bytes ≡ listed ++ fields_in (drop at bytes) → piece ≡ front_piece (drop at bytes) → piece_field piece ≡ Some field
    → fields_in bytes ≡ (listed ++ field ∷ []) ++ fields_in (drop (at + length piece + 1) bytes)
next_some bytes piece at field listed within so_far cut is =
    listed_some bytes at field listed within so_far (subst (λ p. piece_field p ≡ Some field) cut is)
    ∙ ap (λ n. (listed ++ field ∷ []) ++ fields_in (drop n bytes)) (next_is bytes piece at cut)

pub next_none : (bytes piece : List ℕ) (at : ℕ) (listed : List Field) → at < length bytes
    → fields_in bytes ≡ listed ++ fields_in (drop at bytes) → piece ≡ front_piece (drop at bytes) → piece_field piece ≡ None
    → fields_in bytes ≡ listed ++ fields_in (drop (at + length piece + 1) bytes)
next_none bytes piece at listed within so_far cut is =
    listed_none bytes at listed within so_far (subst (λ p. piece_field p ≡ None) cut is)
    ∙ ap (λ n. listed ++ fields_in (drop n bytes)) (next_is bytes piece at cut)

pub next_flaw : (bytes before piece : List ℕ) (at : ℕ) (flaw now : Option Fault) → at < length bytes
    → flaw_from (length bytes) bytes 0 ≡ or_else flaw (flaw_from (length bytes) bytes at)
    → before ≡ take at bytes → piece ≡ front_piece (drop at bytes) → now ≡ or_else flaw (piece_flaw before piece)
    → flaw_from (length bytes) bytes 0 ≡ or_else now (flaw_from (length bytes) bytes (at + length piece + 1))
next_flaw bytes before piece at flaw now within so_far front cut is =
    let here : piece_flaw before piece ≡ piece_flaw (take at bytes) (front_piece (drop at bytes)) =
    ap (λ b. piece_flaw b piece) front ∙ ap (λ p. piece_flaw (take at bytes) p) cut in
    flaw_more bytes at flaw within so_far
    ∙ ap (λ f. or_else f (flaw_from (length bytes) bytes (at + (length (front_piece (drop at bytes)) + 1)))) (sym (is ∙ ap (λ f. or_else flaw f) here))
    ∙ ap (λ n. or_else now (flaw_from (length bytes) bytes n)) (next_is bytes piece at cut)

pub next_within : (bytes piece : List ℕ) (at : ℕ) → at < length bytes → piece ≡ front_piece (drop at bytes) → at + length piece + 1 ≤ length bytes + 1
next_within bytes piece at within cut =
    omega (arith, ap length cut, front_is_short (drop at bytes), length-drop at bytes, within)
