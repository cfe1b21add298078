-- Numbers in digits, digit by digit.
use Rattle.std.proofs.Common.{◌≡◌, ℕ, ◌+◌, ◌-◌, ◌*◌, ◌^◌, ◌<◌, ◌≤◌, Bool, true, false, List, length}
use Rattle.std.proofs.Common.{take, drop, get_or, length-take, arith, lit<, ◌==◌, ap, ◌∙◌, sym, refl, ◌&&◌}
use Rattle.std.specs.List.{list_all}
use Rattle.std.specs.Char.{is_ascii_digit, digit_value}
use Rattle.std.specs.Str.Parse.{digits_value}
use Rattle.std.proofs.lemmas.Int.Digits.{digits_value-lt, digits_value_more}
use Rattle.std.proofs.lemmas.Str.Parse.{digits_value-take-le}
use Rattle.std.proofs.lemmas.List.Folds.{list_all_at, list_all_more, list_all-append}
use Rattle.std.proofs.lemmas.List.{take-append-drop}
use Rattle.std.proofs.lemmas.Bool.{and_parts}
use Rattle.std.proofs.lemmas.Bool.Decides.{nat_tests}
use Rattle.std.proofs.Math.Nat.{pow-le-pow_right}
use Rattle.fix_fields.specs.TextLaws.{digits_if_all}

-- a number of at most 16 digits
small : (text : List ℕ) → length text ≤ 16 → list_all is_ascii_digit text ≡ true → digits_value 10 text < 10 ^ 16
small text few h =
    let below = digits_value-lt 10 text (digits_if_all text h) in
    let most_is = pow-le-pow_right {n = 10} (lit< tt) {i = length text} {j = 16} few in
    omega arith

digit_if : (b : Bool) (text : List ℕ) (i : ℕ) → i < length text → list_all is_ascii_digit text ≡ true → is_ascii_digit (get_or text i 0) ≡ b → is_ascii_digit (get_or text i 0) ≡ true
digit_if true text i inside h e = e
digit_if false text i inside h e = let none = list_all_at is_ascii_digit text i 0 inside e in cc

-- each is a digit
pub digit_at : (text : List ℕ) (i : ℕ) → i < length text → list_all is_ascii_digit text ≡ true → is_ascii_digit (get_or text i 0) ≡ true
digit_at text i inside h = digit_if (is_ascii_digit (get_or text i 0)) text i inside h refl

pub digit_from : (c : ℕ) → is_ascii_digit c ≡ true → 48 ≤ c
digit_from c h = grind (arith, nat_tests)

value_of_digit : (c : ℕ) → is_ascii_digit c ≡ true → digit_value c ≡ c - 48
value_of_digit c h = grind (arith, nat_tests)

-- the number of one digit more
pub one_more : (text : List ℕ) (i value : ℕ) → i < length text → list_all is_ascii_digit text ≡ true → value ≡ digits_value 10 (take i text) → value * 10 + (get_or text i 0 - 48) ≡ digits_value 10 (take (i + 1) text)
one_more text i value inside h e =
    ap (λ v. v * 10 + (get_or text i 0 - 48)) e
    ∙ ap (λ d. digits_value 10 (take i text) * 10 + d) (sym (value_of_digit (get_or text i 0) (digit_at text i inside h)))
    ∙ sym (digits_value_more 10 text i inside)

-- so the digit fits behind it, also before its zero is taken off
pub one_more_fits : (text : List ℕ) (i value : ℕ) → length text ≤ 16 → i < length text → list_all is_ascii_digit text ≡ true → value ≡ digits_value 10 (take i text) → value * 10 + get_or text i 0 < 2 ^ 64
one_more_fits text i value few inside h e =
    let next = one_more text i value inside h e in
    let whole = digits_value-take-le 10 text (i + 1) (omega arith) in
    let room = small text few h in
    omega arith

-- a number of at most nine digits, and of at most four
below : (most : ℕ) (text : List ℕ) → length text ≤ most → list_all is_ascii_digit text ≡ true → digits_value 10 text < 10 ^ most
below most text few h =
    let low = digits_value-lt 10 text (digits_if_all text h) in
    let most_is = pow-le-pow_right {n = 10} (lit< tt) {i = length text} {j = most} few in
    omega arith

pub of_nine : (text : List ℕ) → length text ≤ 9 → list_all is_ascii_digit text ≡ true → digits_value 10 text < 1000000000
of_nine text few h = below 9 text few h

pub of_four : (text : List ℕ) → length text ≤ 4 → list_all is_ascii_digit text ≡ true → digits_value 10 text < 10000
of_four text few h = below 4 text few h

-- the first of some digits are digits
pub front_digits : (n : ℕ) (text : List ℕ) → list_all is_ascii_digit text ≡ true → list_all is_ascii_digit (take n text) ≡ true
front_digits n text h =
    let parts : (list_all is_ascii_digit (take n text) && list_all is_ascii_digit (drop n text)) ≡ true =
    sym (list_all-append is_ascii_digit (take n text) (drop n text))
    ∙ ap (λ t. list_all is_ascii_digit t) (take-append-drop n text) ∙ h in
    (and_parts (list_all is_ascii_digit (take n text)) (list_all is_ascii_digit (drop n text)) parts).0

-- and so are those from a place on
pub part_digits : (start n : ℕ) (text : List ℕ) → list_all is_ascii_digit text ≡ true → list_all is_ascii_digit (take n (drop start text)) ≡ true
part_digits start n text h =
    let parts : (list_all is_ascii_digit (take start text) && list_all is_ascii_digit (drop start text)) ≡ true =
    sym (list_all-append is_ascii_digit (take start text) (drop start text))
    ∙ ap (λ t. list_all is_ascii_digit t) (take-append-drop start text) ∙ h in
    front_digits n (drop start text) (and_parts (list_all is_ascii_digit (take start text)) (list_all is_ascii_digit (drop start text)) parts).1

-- the digits at the front of a text
pub front_small : (text : List ℕ) (i number : ℕ) → i ≤ 9 → list_all is_ascii_digit (take i text) ≡ true → number ≡ digits_value 10 (take i text) → number < 1000000000
front_small text i number few all is =
    let low = of_nine (take i text) (omega (arith, length-take i text, few)) all in
    omega (arith, is, low)

pub front_more : (text : List ℕ) (i number : ℕ) → i < length text → list_all is_ascii_digit (take i text) ≡ true → number ≡ digits_value 10 (take i text) → is_ascii_digit (get_or text i 0) ≡ true
    → (list_all is_ascii_digit (take (i + 1) text) ≡ true) × (number * 10 + (get_or text i 0 - 48) ≡ digits_value 10 (take (i + 1) text))
front_more text i number inside all is digit = (
  list_all_more is_ascii_digit text i 0 inside ∙ ap (λ b. b && is_ascii_digit (get_or text i 0)) all ∙ digit,
  ap (λ v. v * 10 + (get_or text i 0 - 48)) is
      ∙ ap (λ d. digits_value 10 (take i text) * 10 + d) (sym (value_of_digit (get_or text i 0) digit))
      ∙ sym (digits_value_more 10 text i inside),
)

pub no_equals : (c : ℕ) → is_ascii_digit c ≡ true → (c == 61) ≡ false
no_equals c h = grind (arith, nat_tests)

pub digit_up_to : (c : ℕ) → is_ascii_digit c ≡ true → c ≤ 57
digit_up_to c h = grind (arith, nat_tests)
