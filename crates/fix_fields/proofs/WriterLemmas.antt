-- What is written: how long it is, and that it is a frame.
use Rattle.std.proofs.Common.{◌≡◌, ℕ, ◌+◌, ◌-◌, ◌/◌, ◌%◌, ◌^◌, ◌<◌, ◌≤◌, true, false, cond, ltb}
use Rattle.std.proofs.Common.{List, [], ◌∷◌, ◌++◌, length, sum, sym, ap, ◌∙◌, subst, refl, arith}
use Rattle.std.proofs.Common.{inl, inr, append_assoc, length-append, lit<}
use Rattle.std.specs.Prelude.{decimal}
use Rattle.std.specs.List.{AllByRecursion}
use Rattle.std.specs.Str.Parse.{digits_value}
use Rattle.std.proofs.lemmas.Bool.{cases_lt}
use Rattle.std.proofs.lemmas.Bool.Decides.{nat_tests}
use Rattle.std.proofs.lemmas.List.{append-nil}
use Rattle.std.proofs.lemmas.Str.{digit_value_digit}
use Rattle.std.proofs.lemmas.Str.Parse.{digits_value_short}
use Rattle.std.proofs.lemmas.Fmt.{digits_decimal, digits_value-decimal, decimal_nonempty}
use Rattle.std.proofs.lemmas.Fmt.{length-decimal-le}
use Rattle.fix_fields.specs.Frame.{Field, IsTag, IsValue, IsField, AreBody, AreSumDigits, IsFrame}
use Rattle.fix_fields.specs.Frame.{field_text, fields_text, front_text, end_text, three_digits}
use Rattle.fix_fields.specs.Frame.{frame_text, decimal_len, field_len, fields_len, left_of}
use Rattle.fix_fields.specs.Frame.{fields_of}
use Rattle.fix_fields.specs.Scan.{IsBodyText, text_around}
use Rattle.fix_fields.proofs.Digits.{plain}
use Rattle.fix_fields.proofs.FieldsText.{fields_of-text, AreBody-lawful}

-- a number from 10 ^ k on has more than k digits

longer : (k n : ℕ) → n < 2 ^ 64 → 10 ^ k ≤ n → k < length (decimal n)
longer k n small large =
    elim (cases_lt k (length (decimal n))) [
      | inl long ↦ long
      | inr short ↦
          (let below = digits_value_short plain (decimal n) k (digits_decimal plain n small) short in
          absurd (omega (arith, digits_value-decimal plain n small)))
    ]

one_digit_more : (n k rest : ℕ) → n < 2 ^ 64 → k < length (decimal n) → (k + 1 < length (decimal n) → length (decimal n) ≡ rest)
    → length (decimal n) ≡ cond (ltb n (10 ^ (k + 1))) (k + 1) rest
one_digit_more n k rest small long next =
    elim (cases_lt n (10 ^ (k + 1))) [
      | inl below ↦
          (let test : ltb n (10 ^ (k + 1)) ≡ true = grind (arith, nat_tests) in
          rw test (omega (arith, length-decimal-le (k + 1) n (omega arith) below small)))
      | inr above ↦
          (let test : ltb n (10 ^ (k + 1)) ≡ false = grind (arith, nat_tests) in
          rw test (next (longer (k + 1) n small above)))
    ]

pub length-decimal : (n : ℕ) → n < 2 ^ 64 → length (decimal n) ≡ decimal_len n
length-decimal n small =
    one_digit_more n 0 _ small (decimal_nonempty n small) (λ h1. one_digit_more n 1 _ small h1 (λ h2. one_digit_more n 2 _ small h2
    (λ h3. one_digit_more n 3 _ small h3 (λ h4. one_digit_more n 4 _ small h4 (λ h5. one_digit_more n 5 _ small h5
    (λ h6. one_digit_more n 6 _ small h6 (λ h7. one_digit_more n 7 _ small h7 (λ h8. one_digit_more n 8 _ small h8
    (λ h9. one_digit_more n 9 _ small h9 (λ h10. one_digit_more n 10 _ small h10 (λ h11. one_digit_more n 11 _ small h11
    (λ h12. one_digit_more n 12 _ small h12 (λ h13. one_digit_more n 13 _ small h13 (λ h14. one_digit_more n 14 _ small h14
    (λ h15. one_digit_more n 15 _ small h15 (λ h16. one_digit_more n 16 _ small h16 (λ h17. one_digit_more n 17 _ small h17
    (λ h18. one_digit_more n 18 _ small h18 (λ h19. omega (arith, length-decimal-le 20 n (lit< tt) (omega arith) small))))))))))))))))))))

pub length-field_text : (tag : ℕ) (value : List ℕ) → tag < 2 ^ 64 → length (field_text (tag, value)) ≡ field_len tag (length value)
length-field_text tag value small =
    omega (arith, length-append (decimal tag) (61 ∷ (value ++ (1 ∷ []))), length-append value (1 ∷ []), length-decimal tag small)

-- one field more
fields_text_push : (fields : List Field) (field : Field) → fields_text (fields ++ (field ∷ [])) ≡ fields_text fields ++ field_text field
fields_text_push [] field = append-nil (field_text field)
fields_text_push (first ∷ fields) field =
    ap (λ t. field_text first ++ t) (fields_text_push fields field) ∙ sym (append_assoc (field_text first) (fields_text fields) (field_text field))

lawful_push : (fields : List Field) (field : Field) → AllByRecursion IsField fields → IsField field → AllByRecursion IsField (fields ++ (field ∷ []))
lawful_push [] field all lawful = (lawful, tt)
lawful_push (first ∷ fields) field all lawful = (all.0, lawful_push fields field all.1 lawful)

body_push : (fields : List Field) (field : Field) → AreBody fields → IsField field → AreBody (fields ++ (field ∷ []))
body_push [] field body lawful = absurd body
body_push (first ∷ fields) field body lawful = (body.0, lawful_push (first ∷ fields) field body.1 lawful)

pub fields_of-push : (body : List ℕ) (field : Field) → IsBodyText body → IsField field
    → fields_of (body ++ field_text field) ≡ fields_of body ++ (field ∷ [])
fields_of-push body field text lawful =
    let fields = fields_of body in
    let same : body ++ field_text field ≡ fields_text (fields ++ (field ∷ [])) =
    ap (λ t. t ++ field_text field) text.is ∙ sym (fields_text_push fields field) in
    ap fields_of same ∙ fields_of-text (fields ++ (field ∷ [])) (AreBody-lawful _ (body_push fields field text.body lawful))

pub is_body_push : (body : List ℕ) (field : Field) → IsBodyText body → IsField field → length (body ++ field_text field) ≤ 4071
    → IsBodyText (body ++ field_text field)
is_body_push body field text lawful fits =
    let fields = fields_of body in
    let same = fields_of-push body field text lawful in
    record {
      body = subst AreBody (sym same) (body_push fields field text.body lawful);
      is = ap (λ t. t ++ field_text field) text.is ∙ (sym (fields_text_push fields field) ∙ ap fields_text (sym same));
      fits = fits;
    }

-- MsgType alone
msg_type_tag : IsTag 35
msg_type_tag = (omega arith, omega arith, omega arith, omega arith, omega arith)

pub fields_of-first : (value : List ℕ) → IsValue value → fields_of (field_text (35, value)) ≡ (35, value) ∷ []
fields_of-first value lawful =
    let field : Field = (35, value) in
    ap fields_of (sym (append-nil (field_text field))) ∙ fields_of-text (field ∷ []) ((msg_type_tag, lawful), tt)

pub is_body_first : (value : List ℕ) → IsValue value → length (field_text (35, value)) ≤ 4071 → IsBodyText (field_text (35, value))
is_body_first value lawful fits =
    let same = fields_of-first value lawful in
    record {
      body = subst AreBody (sym same) (refl, ((msg_type_tag, lawful), tt));
      is = sym (append-nil (field_text (35, value))) ∙ ap fields_text (sym same);
      fits = fits;
    }

-- what is left
pub left_of-body : (body : List ℕ) → IsBodyText body → left_of (fields_of body) ≡ 4071 - length body
unfolding left_of fields_len
left_of-body body text = ap (λ t. 4071 - length t) (sym text.is)

-- three digits write a number below 1,000
pub three_digits_are : (n : ℕ) → n < 1000 → AreSumDigits (three_digits n)
three_digits_are n small =
    let a = digit_value_digit (48 + n / 100) (omega arith, omega arith) in
    let b = digit_value_digit (48 + n / 10 % 10) (omega arith, omega arith) in
    let c = digit_value_digit (48 + n % 10) (omega arith, omega arith) in
    record { all_digits = (omega arith, (omega arith, (omega arith, tt))); three = refl }

pub three_digits_value : (n : ℕ) → n < 1000 → digits_value 10 (three_digits n) ≡ n
three_digits_value n small =
    let a = digit_value_digit (48 + n / 100) (omega arith, omega arith) in
    let b = digit_value_digit (48 + n / 10 % 10) (omega arith, omega arith) in
    let c = digit_value_digit (48 + n % 10) (omega arith, omega arith) in
    omega arith

pub frame_text-body : (body : List ℕ) → IsBodyText body → text_around body ≡ frame_text (fields_of body)
unfolding frame_text
frame_text-body body text = ap text_around text.is

pub is_frame_text : (fields : List Field) → AreBody fields → length (fields_text fields) ≤ 4071 → IsFrame (frame_text fields) fields
unfolding frame_text
is_frame_text fields body fits =
    let n = length (fields_text fields) in
    let ds = decimal n in
    let small : n < 2 ^ 64 = omega arith in
    let four : length ds ≤ 4 = length-decimal-le 4 n (lit< tt) (omega arith) small in
    let front = front_text ds (fields_text fields) in
    let s = sum front % 256 in
    let below : s < 1000 = omega arith in
    record {
      body = body;
      length_digits = ds;
      sum_digits = three_digits s;
      length_is = record { all_digits = digits_decimal plain n small; some = decimal_nonempty n small; few = omega arith; value = digits_value-decimal plain n small };
      sum_is = three_digits_are s below;
      sum_value = three_digits_value s below;
      text = refl;
      fits = omega (arith, length-append ds (1 ∷ fields_text fields), length-append (ds ++ (1 ∷ fields_text fields)) (end_text (three_digits s)));
    }

-- a body after one field more
pub record IsPushed (fields : List Field) (tag : ℕ) (value new : List ℕ) : Type 0 where
  pub text : IsBodyText new
  pub fields_are : fields_of new ≡ fields ++ ((tag, value) ∷ [])
  pub left : left_of (fields_of new) + field_len tag (length value) ≡ left_of fields

pub room_is : (body : List ℕ) (fields : List Field) → fields_of body ≡ fields → IsBodyText body → left_of fields ≡ 4071 - length body
room_is body fields view text = ap left_of (sym view) ∙ left_of-body body text

pub pushed : (body new value : List ℕ) (fields : List Field) (tag : ℕ) → fields_of body ≡ fields → IsBodyText body → IsField (tag, value)
    → field_len tag (length value) ≤ left_of fields → new ≡ body ++ field_text (tag, value) → IsPushed fields tag value new
pushed body new value fields tag view text lawful room is =
    let field : Field = (tag, value) in
    let below : tag < 1000000000 = lawful.0.1 in
    let long = length-field_text tag value (omega arith) in
    let left = room_is body fields view text in
    let size = length-append body (field_text field) in
    let fits : length (body ++ field_text field) ≤ 4071 = omega arith in
    let new_text : IsBodyText new = subst IsBodyText (sym is) (is_body_push body field text lawful fits) in
    let own : fields_of new ≡ fields ++ (field ∷ []) =
    ap fields_of is ∙ (fields_of-push body field text lawful ∙ ap (λ fs. fs ++ (field ∷ [])) view) in
    record {
      text = new_text;
      fields_are = own;
      left = (let after = left_of-body new new_text in omega (arith, ap length is));
    }
