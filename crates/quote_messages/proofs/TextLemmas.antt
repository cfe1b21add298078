-- What the forms of texts imply: each is ASCII, so it is UTF-8, has few characters and no SOH.
use Rattle.std.proofs.Common.{◌≡◌, ◌≢◌, ℕ, ◌≤◌, Bool, true, false, List, [], length, ◌&&◌, nat_le}
use Rattle.std.proofs.Common.{cond, arith, refl, take, drop, Some, None, ◌+◌, sym, nat_lt}
use Rattle.std.specs.List.{list_all, position, position_or_len, before_first, after_first}
use Rattle.std.proofs.lemmas.List.{take_all, drop_all}
use Rattle.std.specs.Char.{is_ascii_digit, is_ascii_alphanumeric}
use Rattle.std.specs.Str.Parse.{digits_value}
use Rattle.fix_fields.specs.Frame.{IsValue}
use Rattle.fix_fields.specs.TextLaws.{value_if_all}
use Rattle.std.proofs.lemmas.Bool.{and_parts}
use Rattle.std.proofs.lemmas.Bool.Decides.{nat_tests}
use Rattle.quote_messages.specs.Texts.{is_sequence_number, is_msg_type, is_point}

-- digits are UTF-8

digit-apart : (c : ℕ) → is_ascii_digit c ≡ true → c ≢ 1
digit-apart c h = λ e. grind (arith, nat_tests)

alphanumeric-apart : (c : ℕ) → is_ascii_alphanumeric c ≡ true → c ≢ 1
alphanumeric-apart c h = λ e. grind (arith, nat_tests)

pub sequence_number_is_value : (text : List ℕ) → is_sequence_number text ≡ true → IsValue text
sequence_number_is_value text h =
    let digits = and_parts ((nat_le 1 (length text) && nat_le (length text) 9) && list_all is_ascii_digit text) (nat_le 1 (digits_value 10 text)) h in
    value_if_all is_ascii_digit digit-apart text (and_parts (nat_le 1 (length text) && nat_le (length text) 9) (list_all is_ascii_digit text) digits.0).1

pub msg_type_is_value : (text : List ℕ) → is_msg_type text ≡ true → IsValue text
msg_type_is_value text h = value_if_all is_ascii_alphanumeric alphanumeric-apart text (and_parts (nat_le 1 (length text) && nat_le (length text) 4) (list_all is_ascii_alphanumeric text) h).1

chosen_some : (b : Bool) (n at : ℕ) → cond b (Some n) None ≡ Some at → n ≡ at
chosen_some true n at h = cc
chosen_some false n at h = cc

chosen_none : (b : Bool) (n : ℕ) → cond b (Some n) None ≡ None → b ≡ false
chosen_none true n h = cc
chosen_none false n h = refl

-- a text cut at its first point, and one that has none
pub cut_at : (text : List ℕ) (at : ℕ) → position is_point text ≡ Some at → (take at text ≡ before_first is_point text) × (drop (at + 1) text ≡ after_first is_point text)
cut_at text at h =
    let found : position_or_len is_point text ≡ at = chosen_some (nat_lt (position_or_len is_point text) (length text)) (position_or_len is_point text) at h in
    rw found (refl, refl)

pub cut_nowhere : (text : List ℕ) → position is_point text ≡ None → (text ≡ before_first is_point text) × ([] ≡ after_first is_point text)
cut_nowhere text h =
    let beyond : nat_lt (position_or_len is_point text) (length text) ≡ false = chosen_none (nat_lt (position_or_len is_point text) (length text)) (position_or_len is_point text) h in
    let within : length text ≤ position_or_len is_point text = grind (arith, nat_tests) in
    (sym (take_all (position_or_len is_point text) text within), sym (drop_all (position_or_len is_point text + 1) text (omega arith)))

pub sequence_number_is_short : (text : List ℕ) → is_sequence_number text ≡ true → length text ≤ 9
sequence_number_is_short text h = grind (arith, nat_tests, and_parts)
