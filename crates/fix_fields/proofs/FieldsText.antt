-- Fields as one text: it is cut into the same fields again, and it is a body where the first is
-- MsgType.
use Rattle.std.proofs.Common.{◌≡◌, ℕ, ◌^◌, ◌<◌, ◌≤◌, ◌==◌, true, false, cond, List, [], ◌∷◌, ◌++◌}
use Rattle.std.proofs.Common.{length, take, sym, ap, ◌∙◌, subst, refl, arith, inl, inr}
use Rattle.std.proofs.Common.{append_assoc, length-append, Some}
use Rattle.std.specs.Prelude.{decimal}
use Rattle.std.specs.Fmt.{digits}
use Rattle.std.specs.List.{AllByRecursion}
use Rattle.std.specs.Str.Parse.{digits_value}
use Rattle.std.proofs.lemmas.Bool.Decides.{nat_tests}
use Rattle.std.proofs.lemmas.Bool.{cases_Bool}
use Rattle.std.proofs.lemmas.List.{append_cancel_left}
use Rattle.std.proofs.lemmas.Fmt.{digits_decimal, digits_value-decimal}
use Rattle.std.proofs.Math.Seq.{take-append_seam, drop-append-add}
use Rattle.fix_fields.specs.Frame.{Field, IsValue, IsField, AreBody, value_of, field_text}
use Rattle.fix_fields.specs.Frame.{fields_text, pieces_of, field_of, fields_of}
use Rattle.fix_fields.specs.Scan.{HoldsFields, HoldsBody, IsFieldsText, IsBodyText}
use Rattle.fix_fields.proofs.Digits.{plain}
use Rattle.fix_fields.proofs.PlaceLemmas.{IsFree, place_of, place_behind, free_digits, free_append}
use Rattle.fix_fields.proofs.FieldLemmas.{regroup, tag_len, placed_in}

-- cutting what was written gives the fields

pub pieces_of-append : (piece rest : List ℕ) → IsFree 1 piece → pieces_of (piece ++ (1 ∷ rest)) ≡ piece ∷ pieces_of rest
unfolding pieces_of
pieces_of-append [] rest free = refl
pieces_of-append (x ∷ piece) rest free =
    let other : (x == 1) ≡ false = (let h = free.0 in grind (arith, nat_tests)) in
    rw (other, pieces_of-append piece rest free.1) refl

pub field_of-text : (tag : ℕ) (value : List ℕ) → IsField (tag, value) → field_of (decimal tag ++ (61 ∷ value)) ≡ (tag, value)
unfolding field_of
field_of-text tag value lawful =
    let below : tag < 1000000000 = lawful.0.1 in
    let small : tag < 2 ^ 64 = omega arith in
    let d = decimal tag in
    let at : place_of 61 (d ++ (61 ∷ value)) ≡ length d = place_behind 61 d value (free_digits 61 d (inr (omega arith)) (digits_decimal plain tag small)) in
    rw (at, take-append_seam d (61 ∷ value), drop-append-add d (61 ∷ value) 1, digits_value-decimal plain tag small) refl

pub fields_of-cons : (field : Field) (rest : List ℕ) → IsField field → fields_of (field_text field ++ rest) ≡ field ∷ fields_of rest
unfolding fields_of
fields_of-cons field rest lawful =
    let below : field.0 < 1000000000 = lawful.0.1 in
    let small : field.0 < 2 ^ 64 = omega arith in
    let piece = decimal field.0 ++ (61 ∷ field.1) in
    let free = free_append 1 (decimal field.0) (61 ∷ field.1) (free_digits 1 (decimal field.0) (inl (omega arith)) (digits_decimal plain field.0 small)) (omega arith, lawful.1) in
    let same : field_text field ++ rest ≡ piece ++ (1 ∷ rest) = regroup (decimal field.0) field.1 rest ∙ sym (append_assoc (decimal field.0) (61 ∷ field.1) (1 ∷ rest)) in
    rw (same, pieces_of-append piece rest free, field_of-text field.0 field.1 lawful) refl

pub fields_of-text : (fields : List Field) → AllByRecursion IsField fields → fields_of (fields_text fields) ≡ fields
unfolding fields_of pieces_of
fields_of-text [] lawful = refl
fields_of-text (field ∷ fields) lawful =
    fields_of-cons field (fields_text fields) lawful.0 ∙ ap (λ fs. field ∷ fs) (fields_of-text fields lawful.1)

-- a body is fields of which the first begins with `35=`
abbrev pub msg_type_text : List ℕ
msg_type_text = 51 ∷ (53 ∷ (61 ∷ []))

decimal-35 : decimal 35 ≡ 51 ∷ (53 ∷ [])
unfolding digits
decimal-35 = refl

pub fields_of_body : (text : List ℕ) → HoldsBody text → HoldsFields text
fields_of_body text holds = go holds.fields holds.body holds.is where
  go : (fields : List Field) → AreBody fields → text ≡ fields_text fields → HoldsFields text
  go [] none is = absurd none
  go (field ∷ fields) body is = record { fields = field ∷ fields; lawful = body.1; is = is }

pub body_begins : (text : List ℕ) → HoldsBody text → (rest : List ℕ) × (text ≡ msg_type_text ++ rest)
body_begins text holds = go holds.fields holds.body holds.is where
  go : (fields : List Field) → AreBody fields → text ≡ fields_text fields → (rest : List ℕ) × (text ≡ msg_type_text ++ rest)
  go [] none is = absurd none
  go (field ∷ fields) body is = (
    field.1 ++ (1 ∷ fields_text fields),
    is ∙ (regroup (decimal field.0) field.1 (fields_text fields)
        ∙ ap (λ d. d ++ (61 ∷ (field.1 ++ (1 ∷ fields_text fields)))) (ap decimal body.0 ∙ decimal-35)),
  )

pub body_from_fields : (text rest : List ℕ) → text ≡ msg_type_text ++ rest → HoldsFields text → HoldsBody text
body_from_fields text rest begins holds = go holds.fields holds.lawful holds.is where
  go : (fields : List Field) → AllByRecursion IsField fields → text ≡ fields_text fields → HoldsBody text
  go [] lawful is = absurd (omega (arith, ap length (sym begins ∙ is)))
  go (field ∷ fields) lawful is =
      let p = placed_in text field (fields_text fields) lawful.0 is in
      let tag : digits_value 10 (take (tag_len text) text) ≡ 35 = rw begins refl in
      record { fields = field ∷ fields; body = (sym p.tag_is ∙ tag, lawful); is = is }

-- fields that make a text are those that it is cut into
pub text_of_fields : (text : List ℕ) (fields : List Field) → AllByRecursion IsField fields → text ≡ fields_text fields
    → fields_of text ≡ fields
text_of_fields text fields lawful is = ap fields_of is ∙ fields_of-text fields lawful

pub AreBody-lawful : (fields : List Field) → AreBody fields → AllByRecursion IsField fields
AreBody-lawful [] none = absurd none
AreBody-lawful (field ∷ fields) body = body.1

-- a text that is a body is what its fields make
pub is_body_text : (text : List ℕ) → length text ≤ 4071 → HoldsBody text → IsBodyText text
is_body_text text fits holds =
    let same = text_of_fields text holds.fields (AreBody-lawful holds.fields holds.body) holds.is in
    record { body = rw same holds.body; is = rw same holds.is; fits = fits }

-- no more fields than bytes
pub few_fields : (fields : List Field) → length fields ≤ length (fields_text fields)
few_fields [] = omega arith
few_fields (field ∷ fields) =
    omega (arith, few_fields fields, length-append (field_text field) (fields_text fields), length-append (decimal field.0) (61 ∷ (field.1 ++ (1 ∷ []))))

pub one_first : (text : List ℕ) (field : Field) (rest : List ℕ) → IsField field → text ≡ field_text field ++ rest
    → fields_of text ≡ field ∷ fields_of rest
one_first text field rest lawful is = ap fields_of is ∙ fields_of-cons field rest lawful

pub rest_is_fields : (text : List ℕ) (field : Field) (rest : List ℕ) → IsField field → text ≡ field_text field ++ rest
    → IsFieldsText text → IsFieldsText rest
rest_is_fields text field rest lawful is cut =
    let first = one_first text field rest lawful is in
    let all : AllByRecursion IsField (field ∷ fields_of rest) = subst (λ fs. AllByRecursion IsField fs) first cut.lawful in
    record {
      lawful = all.1;
      is = append_cancel_left (field_text field) rest (fields_text (fields_of rest)) (sym is ∙ (cut.is ∙ ap fields_text first));
      fits = (let fits = cut.fits in omega (arith, ap length is, length-append (field_text field) rest));
    }

-- a value that is found is one of a lawful field
pub value_in : (tag : ℕ) (fields : List Field) (value : List ℕ) → AllByRecursion IsField fields
    → value_of tag fields ≡ Some value → IsValue value × (length value ≤ length (fields_text fields))
value_in tag [] value lawful is = cc
value_in tag (field ∷ fields) value lawful is =
    let long = length-append (field_text field) (fields_text fields) in
    let own = length-append (decimal field.0) (61 ∷ (field.1 ++ (1 ∷ []))) in
    let inner = length-append field.1 (1 ∷ []) in
    elim (cases_Bool (field.0 == tag)) [
      | inl same ↦
          (let here : Some field.1 ≡ Some value = subst (λ b. cond b (Some field.1) (value_of tag fields) ≡ Some value) same is in
          let v : field.1 ≡ value = cc in
          (subst IsValue v lawful.0.1, omega (arith, ap length v)))
      | inr other ↦
          (let there : value_of tag fields ≡ Some value = subst (λ b. cond b (Some field.1) (value_of tag fields) ≡ Some value) other is in
          let found = value_in tag fields value lawful.1 there in
          (found.0, let short = found.1 in omega arith))
    ]

pub value_here : (tag found : ℕ) (value : List ℕ) (fields : List Field) → found ≡ tag
    → value_of tag ((found, value) ∷ fields) ≡ Some value
value_here tag found value fields same =
    let test : (found == tag) ≡ true = grind (arith, nat_tests) in rw test refl
