-- Tags and values of fields.
use Rattle.std.proofs.Common.{◌≡◌, ◌≢◌, ℕ, ◌<◌, ◌≤◌, ◌==◌, ◌&&◌, true, not, nat_le, List, length}
use Rattle.std.proofs.Common.{arith, inl, inr, Some, None, [], ◌∷◌, map}
use Rattle.std.specs.List.{list_all}
use Rattle.std.specs.Char.{is_ascii_digit}
use Rattle.std.specs.Str.Parse.{digits_value}
use Rattle.std.proofs.lemmas.Bool.{and_parts, cases_Bool}
use Rattle.std.proofs.lemmas.Bool.Decides.{nat_tests}
use Rattle.std.proofs.lemmas.Str.Parse.{digits_value_short}
use Rattle.fix_fields.specs.Frame.{IsValue}
use Rattle.fix_fields.specs.TextLaws.{digits_if_all, value_if_all}
use Rattle.quote_messages.specs.Texts.{number_up_to}
use Rattle.input_lines.specs.SayLine.{is_plain_value, is_plain_character, is_plain_part, with_bar}
use Rattle.fix_fields.proofs.Digits.{plain}

-- a number of at most nine digits
pub number_is_small : (text : List ℕ) (n : ℕ) → Some n ≡ number_up_to 9 text → n < 1000000000
number_is_small text n is =
    elim (cases_Bool ((nat_le 1 (length text) && nat_le (length text) 9) && list_all is_ascii_digit text)) [
      | inl lawful ↦
          (let parts = and_parts (nat_le 1 (length text) && nat_le (length text) 9) (list_all is_ascii_digit text) lawful in
          let few = (and_parts (nat_le 1 (length text)) (nat_le (length text) 9) parts.0).1 in
          let short : length text ≤ 9 = grind (arith, nat_tests) in
          let same : Some n ≡ Some (digits_value 10 text) = rw lawful at is in
          let value : n ≡ digits_value 10 text = cc in
          let below = digits_value_short plain text 9 (digits_if_all text parts.1) short in
          omega arith)
      | inr other ↦ (let never : Some n ≡ None = rw other at is in cc)
    ]

plain-apart : (c : ℕ) → not (c == 1) ≡ true → c ≢ 1
plain-apart c h = λ e. grind (arith, nat_tests)

character-apart : (c : ℕ) → is_plain_character c ≡ true → c ≢ 1
character-apart c h = λ e. grind (arith, nat_tests)

pub value_is_plain : (value : List ℕ) → is_plain_value value ≡ true → IsValue value
value_is_plain value h = value_if_all (λ (c : ℕ). not (c == 1)) plain-apart value h

pub part_is_value : (part : List ℕ) → is_plain_part part ≡ true → IsValue part
part_is_value part h = value_if_all is_plain_character character-apart part (and_parts (not (length part == 0)) (list_all is_plain_character part) h).1

-- a vertical bar in the place of each SOH
bar-apart : (c : ℕ) → with_bar c ≢ 1
bar-apart c = λ is. elim (cases_Bool (c == 1)) [
  | inl soh ↦ (let bar : 124 ≡ 1 = rw soh at is in cc)
  | inr other ↦ (let same : c ≡ 1 = rw other at is in grind (arith, nat_tests))
]

pub barred_is_value : (part : List ℕ) → IsValue (map with_bar part)
barred_is_value [] = tt
barred_is_value (c ∷ part) = (bar-apart c, barred_is_value part)
