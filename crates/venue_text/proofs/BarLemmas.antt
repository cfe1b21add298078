-- Fields as a line shows them: their bytes, with a vertical bar in the place of each SOH.
use Rattle.std.proofs.Common.{◌≡◌, ℕ, ◌+◌, ◌-◌, ◌^◌, ◌<◌, List, [], ◌∷◌}
use Rattle.std.proofs.Common.{◌++◌, length, take, drop, map, get_or, sym, ap, ◌∙◌, refl, arith}
use Rattle.std.proofs.Common.{append_assoc}
use Rattle.std.specs.Prelude.{decimal}
use Rattle.std.specs.List.{AllByRecursion}
use Rattle.std.proofs.lemmas.List.{append-nil, map-append, drop_all, drop_more, same_from_push}
use Rattle.std.proofs.lemmas.List.{length-append, take-append-drop}
use Rattle.fix_fields.specs.Frame.{Field, IsField, field_text, fields_text}
use Rattle.fix_fields.specs.TextLaws.{number_is_value}
use Rattle.input_lines.specs.BarLaws.{barred_value}
use Rattle.input_lines.specs.SayLine.{with_bar}
use Rattle.venue_text.specs.MessageLines.{fields_text_behind}

-- the bytes of a field, and of what stands behind it
abbrev shown_field : Field → List ℕ
shown_field field = decimal field.0 ++ 61 ∷ field.1

regroup : (digits value rest : List ℕ) → (digits ++ 61 ∷ (value ++ 1 ∷ [])) ++ rest ≡ digits ++ 61 ∷ (value ++ 1 ∷ rest)
regroup digits value rest = simp append_assoc

barred_field : (field : Field) (rest : List ℕ) → IsField field
    → map with_bar (field_text field ++ rest) ≡ shown_field field ++ 124 ∷ map with_bar rest
barred_field field rest lawful =
    let digits = decimal field.0 in
    let below : field.0 < 1000000000 = lawful.0.1 in
    let small : field.0 < 2 ^ 64 = omega arith in
    ap (map with_bar) (regroup digits field.1 rest)
    ∙ map-append with_bar digits (61 ∷ (field.1 ++ 1 ∷ rest))
    ∙ ap (λ t. t ++ 61 ∷ map with_bar (field.1 ++ 1 ∷ rest)) (barred_value digits (number_is_value field.0 small))
    ∙ ap (λ t. digits ++ 61 ∷ t) (map-append with_bar field.1 (1 ∷ rest))
    ∙ ap (λ t. digits ++ 61 ∷ (t ++ 124 ∷ map with_bar rest)) (barred_value field.1 lawful.1)
    ∙ sym (append_assoc digits (61 ∷ field.1) (124 ∷ map with_bar rest))

-- fields behind a divider: the vertical bar of the last one is not shown
barred_fields : (divider : ℕ) (field : Field) (fields : List Field) → AllByRecursion IsField (field ∷ fields)
    → divider ∷ map with_bar (fields_text (field ∷ fields)) ≡ fields_text_behind divider (field ∷ fields) ++ 124 ∷ []
barred_fields divider field [] lawful =
    ap (λ t. divider ∷ t) (barred_field field [] lawful.0)
    ∙ ap (λ t. divider ∷ (t ++ 124 ∷ [])) (sym (append-nil (shown_field field)))
barred_fields divider field (next ∷ fields) lawful =
    ap (λ t. divider ∷ t) (barred_field field (fields_text (next ∷ fields)) lawful.0)
    ∙ ap (λ t. divider ∷ (shown_field field ++ t)) (barred_fields 124 next fields lawful.1)
    ∙ ap (λ t. divider ∷ t) (sym (append_assoc (shown_field field) (fields_text_behind 124 (next ∷ fields)) (124 ∷ [])))

-- a text of one byte more than its front
last_apart : (text : List ℕ) → 0 < length text → text ≡ take (length text - 1) text ++ get_or text (length text - 1) 0 ∷ []
last_apart text some =
    let n = length text - 1 in
    let inside : n < length text = omega arith in
    let all : drop (n + 1) text ≡ [] = drop_all (n + 1) text (omega arith) in
    sym (take-append-drop n text) ∙ ap (λ t. take n text ++ t) (drop_more text n 0 inside ∙ ap (λ t. get_or text n 0 ∷ t) all)

pub shown : (fields : List Field) (bytes : List ℕ) → AllByRecursion IsField fields → bytes ≡ fields_text fields → 0 < length bytes
    → 32 ∷ map with_bar (take (length bytes - 1) bytes) ≡ fields_text_behind 32 fields
shown [] bytes lawful is some = absurd (omega (arith, ap length is))
shown (field ∷ fields) bytes lawful is some =
    let front = take (length bytes - 1) bytes in
    let last = get_or bytes (length bytes - 1) 0 in
    let cut : map with_bar bytes ≡ map with_bar front ++ with_bar last ∷ [] =
    ap (map with_bar) (last_apart bytes some) ∙ map-append with_bar front (last ∷ []) in
    let whole : (32 ∷ map with_bar front) ++ with_bar last ∷ [] ≡ fields_text_behind 32 (field ∷ fields) ++ 124 ∷ [] =
    ap (λ t. 32 ∷ t) (sym cut ∙ ap (map with_bar) is) ∙ barred_fields 32 field fields lawful in
    (same_from_push (32 ∷ map with_bar front) (fields_text_behind 32 (field ∷ fields)) (with_bar last) 124 whole).0

-- no fields are shown where there are no bytes
pub shown_none : (fields : List Field) (bytes : List ℕ) → bytes ≡ fields_text fields → length bytes ≡ 0 → fields_text_behind 32 fields ≡ []
shown_none [] bytes is none = refl
shown_none (field ∷ fields) bytes is none =
    absurd (omega (arith, ap length is, length-append (field_text field) (fields_text fields), length-append (decimal field.0) (61 ∷ (field.1 ++ 1 ∷ []))))
