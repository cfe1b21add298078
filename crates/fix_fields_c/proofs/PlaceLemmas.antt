-- Where the value of a field stands among the bytes of its frame.
use Rattle.std.proofs.Common.{◌≡◌, ℕ, ◌+◌, ◌-◌, List, [], ◌∷◌, ◌++◌, length, take, drop, refl, sym}
use Rattle.std.proofs.Common.{ap, ◌∙◌, arith, append_assoc, length-append, Option, Some, None}
use Rattle.std.proofs.lemmas.List.{take-append-drop}
use Rattle.std.specs.Prelude.{decimal, MatchOption}
use Rattle.fix_fields.specs.Frame.{Field, IsFrame, field_text, fields_text, start_text, front_text}
use Rattle.fix_fields.specs.Frame.{end_text, frame_of}
use Rattle.fix_fields.proofs.FrameParts.{is_frame_of}
use Rattle.fix_fields_c.specs.Found.{StandsAt, field_at, first_of, place_code}

fields_text-append : (xs ys : List Field) → fields_text (xs ++ ys) ≡ fields_text xs ++ fields_text ys
fields_text-append [] ys = refl
fields_text-append (field ∷ xs) ys =
    ap (λ t. field_text field ++ t) (fields_text-append xs ys)
    ∙ sym (append_assoc (field_text field) (fields_text xs) (fields_text ys))

-- the bytes before a value, and those behind it
around : (start digits before tag value behind end : List ℕ)
    → (start ++ (digits ++ (1 ∷ (before ++ ((tag ++ (61 ∷ (value ++ (1 ∷ [])))) ++ behind))))) ++ end
    ≡ (start ++ (digits ++ (1 ∷ (before ++ (tag ++ (61 ∷ []))))))
    ++ (value ++ (1 ∷ (behind ++ end)))
around start digits before tag value behind end = simp append_assoc

stands : (bytes : List ℕ) (fields : List Field) (n : ℕ) (field : Field) (behind : List Field)
    → IsFrame bytes fields → drop n fields ≡ field ∷ behind
    → StandsAt bytes field.1 (length bytes - (length field.1 + length (fields_text behind) + 7))
stands bytes fields n field behind is at =
    let before = fields_text (take n fields) in
    let tag = decimal field.0 in
    let value = field.1 in
    let rest = fields_text behind in
    let end = end_text is.sum_digits in
    let front = start_text ++ (is.length_digits ++ (1 ∷ (before ++ (tag ++ (61 ∷ []))))) in
    let cut : fields ≡ take n fields ++ (field ∷ behind) =
    sym (take-append-drop n fields) ∙ ap (λ more. take n fields ++ more) at in
    let body : fields_text fields ≡ before ++ (field_text field ++ rest) =
    ap fields_text cut ∙ fields_text-append (take n fields) (field ∷ behind) in
    let text : bytes ≡ front ++ (value ++ (1 ∷ (rest ++ end))) =
    is.text ∙ ap (λ t. front_text is.length_digits t ++ end) body
    ∙ around start_text is.length_digits before tag value rest end in
    let long : length bytes ≡ length front + (length value + (1 + (length rest + length end))) =
    ap length text ∙ (rw (length-append front (value ++ (1 ∷ (rest ++ end))), length-append value (1 ∷ (rest ++ end)), length-append rest end) (omega arith)) in
    let seven : length end ≡ 7 = omega (arith, is.sum_is.three, length-append is.sum_digits (1 ∷ [])) in
    record { before = front; behind = rest ++ end; text = text; is = omega (arith, long, seven) }

pub stands_there : (bytes : List ℕ) (n : ℕ)
    → MatchOption (field_at n (frame_of bytes)) (place_code bytes (field_at n (frame_of bytes)) ≡ 0)
    (λ placed. StandsAt bytes placed.field.1 (place_code bytes (field_at n (frame_of bytes))))
stands_there bytes n = go (frame_of bytes) refl where
  go : (o : Option (List Field)) → frame_of bytes ≡ o
      → MatchOption (field_at n o) (place_code bytes (field_at n o) ≡ 0) (λ placed. StandsAt bytes placed.field.1 (place_code bytes (field_at n o)))
  go None is = refl
  go (Some fields) is = at (drop n fields) refl where
    at : (rest : List Field) → drop n fields ≡ rest
        → MatchOption (first_of rest) (place_code bytes (first_of rest) ≡ 0) (λ placed. StandsAt bytes placed.field.1 (place_code bytes (first_of rest)))
    at [] e = refl
    at (field ∷ behind) e = stands bytes fields n field behind (is_frame_of bytes fields is) e
