-- What the venue is given of fields is no longer than they are without what a resend adds.
use Rattle.std.proofs.Common.{◌≡◌, ◌≤◌, ◌<◌, ◌+◌, ◌^◌, ◌==◌, ℕ, true, ◌&&◌, cond, nat_le, List, [], ◌∷◌, ◌++◌, length, Option, Some, None, option_and_then, if◌then◌else◌}
use Rattle.std.proofs.Common.{refl, sym, ◌∙◌, ap, subst, arith, inl, inr, length-append, length-take}
use Rattle.std.specs.Prelude.{decimal}
use Rattle.std.specs.List.{list_all, AllByRecursion}
use Rattle.std.specs.Char.{is_ascii_digit}
use Rattle.std.specs.Str.Parse.{digits_value}
use Rattle.std.proofs.lemmas.Bool.{cases_Bool, false≢true, and_parts}
use Rattle.std.proofs.lemmas.Bool.Decides.{nat_tests}
use Rattle.std.proofs.lemmas.List.Sums.{sum_by-cons}
use Rattle.std.proofs.lemmas.Str.Parse.{digits_value_short}
use Rattle.std.proofs.lemmas.Fmt.{length-decimal-le}
use Rattle.fix_fields.specs.Frame.{Field, field_text, fields_text, fields_len, value_of, times_of}
use Rattle.fix_fields.specs.TextLaws.{digits_if_all}
use Rattle.fix_fields.proofs.Digits.{plain}
use Rattle.fix_sessions.specs.Heard.{from_one, number_once}
use Rattle.fix_sessions.specs.Texts.{number_of}
use Rattle.wire_messages.specs.ToVenue.{cut_to_milliseconds, is_left_out, given_field, to_venue}
use Rattle.laws_wire.proofs.Bodies.{added_sum}

-- the text of each MsgSeqNum (34) has at least so many bytes
abbrev pub IsRoomy : ℕ → Field → Type 0
IsRoomy room field = (field.0 == 34) ≡ true → room ≤ length field.1

field_long : (tag : ℕ) (value : List ℕ) → length (field_text (tag, value)) ≡ length (decimal tag) + length value + 2
field_long tag value =
    omega (arith, length-append (decimal tag) (61 ∷ (value ++ (1 ∷ []))), length-append value (1 ∷ []))

-- a field as the venue is given it
given_short : (count : ℕ) (field : Field) → IsRoomy (length (decimal count)) field
    → length (field_text (given_field count field)) ≤ length (field_text field)
given_short count (tag, value) roomy =
    elim (cases_Bool (tag == 34)) [
      | inl number ↦
          (let is : tag ≡ 34 = grind (arith, nat_tests) in
          let long = field_long tag value in
          let same = ap (λ t. length (decimal t)) is in
          rw number (omega (arith, roomy number, long, same, field_long 34 (decimal count))))
      | inr other ↦ elim (cases_Bool (tag == 52)) [
        | inl time ↦
            (let is : tag ≡ 52 = grind (arith, nat_tests) in
            let long = field_long tag value in
            let same = ap (λ t. length (decimal t)) is in
            rw (other, time) (omega (arith, long, same, field_long 52 (cut_to_milliseconds value), length-take 21 value)))
        | inr last ↦ rw (other, last) (omega arith)
      ]
    ]

all_short : (count : ℕ) (fields : List Field) → AllByRecursion (IsRoomy (length (decimal count))) fields
    → length (fields_text (to_venue count fields)) + added_sum fields ≤ length (fields_text fields)
all_short count [] roomy = omega arith
all_short count (field ∷ fields) roomy =
    let rest = all_short count fields roomy.1 in
    let long = length-append (field_text field) (fields_text fields) in
    elim (cases_Bool (is_left_out field.0)) [
      | inl out ↦ rw out (omega (arith, rest, long))
      | inr stays ↦
          (let given = given_short count field roomy.0 in
          let given_long = length-append (field_text (given_field count field)) (fields_text (to_venue count fields)) in
          rw stays (omega (arith, rest, long, given, given_long)))
    ]

pub given_fits : (count : ℕ) (fields : List Field) → AllByRecursion (IsRoomy (length (decimal count))) fields
    → fields_len (to_venue count fields) + added_sum fields ≤ length (fields_text fields)
unfolding fields_len
given_fits count fields roomy = all_short count fields roomy

-- The one MsgSeqNum (34) has as many bytes as its number in decimal, or more.

times_cons : (tag : ℕ) (field : Field) (rest : List Field) → times_of tag (field ∷ rest) ≡ cond (field.0 == tag) 1 0 + times_of tag rest
times_cons tag field rest = sum_by-cons (λ (f : Field). cond (f.0 == tag) 1 0) field rest

none_roomy : (room : ℕ) (fields : List Field) → times_of 34 fields ≡ 0 → AllByRecursion (IsRoomy room) fields
none_roomy room [] none = tt
none_roomy room (field ∷ fields) none =
    let times = times_cons 34 field fields in
    elim (cases_Bool (field.0 == 34)) [
      | inl here ↦ (let one = subst (λ b. times_of 34 (field ∷ fields) ≡ cond b 1 0 + times_of 34 fields) here times in absurd (omega (arith, one, none)))
      | inr other ↦
          (let same = subst (λ b. times_of 34 (field ∷ fields) ≡ cond b 1 0 + times_of 34 fields) other times in
          ((λ here. absurd (false≢true (sym other ∙ here))), none_roomy room fields (omega (arith, same, none))))
    ]

one_roomy : (room : ℕ) (value : List ℕ) (fields : List Field) → times_of 34 fields ≡ 1 → value_of 34 fields ≡ Some value
    → room ≤ length value → AllByRecursion (IsRoomy room) fields
one_roomy room value [] one is enough = tt
one_roomy room value (field ∷ fields) one is enough =
    let times = times_cons 34 field fields in
    elim (cases_Bool (field.0 == 34)) [
      | inl here ↦
          (let same = subst (λ b. times_of 34 (field ∷ fields) ≡ cond b 1 0 + times_of 34 fields) here times in
          let own : Some field.1 ≡ Some value = subst (λ b. cond b (Some field.1) (value_of 34 fields) ≡ Some value) here is in
          let v : field.1 ≡ value = cc in
          ((λ _. omega (arith, ap length v, enough)), none_roomy room fields (omega (arith, same, one))))
      | inr other ↦
          (let same = subst (λ b. times_of 34 (field ∷ fields) ≡ cond b 1 0 + times_of 34 fields) other times in
          let later : value_of 34 fields ≡ Some value = subst (λ b. cond b (Some field.1) (value_of 34 fields) ≡ Some value) other is in
          ((λ here. absurd (false≢true (sym other ∙ here))), one_roomy room value fields (omega (arith, same, one)) later enough))
    ]

-- a number that is read has no more digits than its text
record IsNumber (text : List ℕ) (number : ℕ) : Type 0 where
  pub some : 1 ≤ length text
  pub few : length text ≤ 9
  pub digits : list_all is_ascii_digit text ≡ true
  pub value : digits_value 10 text ≡ number

read_number : (text : List ℕ) (number : ℕ) → number_of text ≡ Some number → IsNumber text number
read_number text number h =
    let sizes = nat_le 1 (length text) && nat_le (length text) 9 in
    elim (cases_Bool (sizes && list_all is_ascii_digit text)) [
      | inl holds ↦
          (let both = and_parts sizes (list_all is_ascii_digit text) holds in
          let two = and_parts (nat_le 1 (length text)) (nat_le (length text) 9) both.0 in
          let is : Some (digits_value 10 text) ≡ Some number = subst (λ b. (if b then Some (digits_value 10 text) else None) ≡ Some number) holds h in
          record {
            some = (let t = two.0 in grind (arith, nat_tests));
            few = (let t = two.1 in grind (arith, nat_tests));
            digits = both.1;
            value = cc;
          })
      | inr fails ↦
          (let is : None ≡ Some number = subst (λ b. (if b then Some (digits_value 10 text) else None) ≡ Some number) fails h in cc)
    ]

short_number : (text : List ℕ) (number : ℕ) → number_of text ≡ Some number → length (decimal number) ≤ length text
short_number text number h =
    let is = read_number text number h in
    let below : digits_value 10 text < 10 ^ length text =
    digits_value_short plain text (length text) (digits_if_all text is.digits) (omega arith) in
    let nine : digits_value 10 text < 1000000000 = digits_value_short plain text 9 (digits_if_all text is.digits) is.few in
    subst (λ n. length (decimal n) ≤ length text) is.value
    (length-decimal-le (length text) (digits_value 10 text) (let s = is.some in omega (arith, s)) below (omega (arith, nine)))

from_one_is : (found : Option ℕ) (number : ℕ) → from_one found ≡ Some number → found ≡ Some number
from_one_is None number h = cc
from_one_is (Some n) number h =
    elim (cases_Bool (n == 0)) [
      | inl zero ↦ (let none : None ≡ Some number = subst (λ b. (if b then None else Some n) ≡ Some number) zero h in cc)
      | inr some ↦ subst (λ b. (if b then None else Some n) ≡ Some number) some h
    ]

numbered_once : (fields : List Field) (number : ℕ) → number_once fields ≡ Some number
    → (times_of 34 fields ≡ 1) × (option_and_then number_of (value_of 34 fields) ≡ Some number)
numbered_once fields number h =
    elim (cases_Bool (times_of 34 fields == 1)) [
      | inl one ↦
          (let is = subst (λ b. (if b then from_one (option_and_then number_of (value_of 34 fields)) else None) ≡ Some number) one h in
          ((grind (arith, nat_tests)), from_one_is _ number is))
      | inr other ↦
          (let none : None ≡ Some number =
          subst (λ b. (if b then from_one (option_and_then number_of (value_of 34 fields)) else None) ≡ Some number) other h in cc)
    ]

pub roomy_for : (count number : ℕ) (fields : List Field) → number_once fields ≡ Some number
    → length (decimal count) ≤ length (decimal number) → AllByRecursion (IsRoomy (length (decimal count))) fields
roomy_for count number fields once shorter =
    let is = numbered_once fields number once in
    go (value_of 34 fields) refl is.0 is.1
  where
    go : (found : Option (List ℕ)) → value_of 34 fields ≡ found → times_of 34 fields ≡ 1
        → option_and_then number_of found ≡ Some number → AllByRecursion (IsRoomy (length (decimal count))) fields
    go None at one is = cc
    go (Some value) at one is =
        one_roomy (length (decimal count)) value fields one at (omega (arith, shorter, short_number value number is))
