-- The values of the messages that the venue writes: how long they are, and which bytes they have.
use Rattle.std.proofs.Common.{◌≡◌, ℕ, ◌+◌, ◌/◌, ◌%◌, ◌≤◌, ◌==◌, ◌&&◌, Bool, true, false}
use Rattle.std.proofs.Common.{not, List, [], ◌∷◌, ◌++◌, length, decimal, Option, Some, None}
use Rattle.std.proofs.Common.{arith, suc, zero, length-append, nat_le, refl, ap}
use Rattle.std.specs.Fmt.{digit_glyph, digits, digits_onto}
use Rattle.std.specs.List.{list_all}
use Rattle.std.specs.Char.{is_ascii_alphanumeric, is_ascii_digit, is_ascii_uppercase}
use Rattle.std.specs.Str.Parse.{digits_value}
use Rattle.std.proofs.lemmas.Bool.{and_from, and_parts, cond_both}
use Rattle.std.proofs.lemmas.Bool.Decides.{nat_tests}
use Rattle.bond_prices.specs.Price.{before_nonzero, eight_decimals, fraction_digits, fraction_of}
use Rattle.bond_prices.specs.Price.{point_text, price_digits, without_last_zeros}
use Rattle.fix_fields.specs.Frame.{IsValue, three_digits}
use Rattle.fix_fields.specs.UtcTimestamp.{IsDate, clock_text, timestamp_text}
use Rattle.market_terms.specs.Texts.{is_id, is_id_character}
use Rattle.quote_messages.specs.Texts.{is_msg_type, is_sequence_number}
use Rattle.venue_rows.specs.Texts.{is_bond_id, is_capital_or_digit, is_name}
use Rattle.laws_shown.proofs.ReadBack.{both_values, number_value, plain_value, price_value}
use Rattle.laws_shown.proofs.ReadBack.{date_value, timestamp_value}

-- Texts that a message is given.

-- a byte that ends no field, and is no bar
abbrev pub is_fit : ℕ → Bool
is_fit c = not (c == 1) && not (c == 124)

-- at most 40 such bytes
abbrev pub is_given : List ℕ → Bool
is_given text = nat_le (length text) 40 && list_all is_fit text

abbrev pub IsGiven : List ℕ → Type 0
IsGiven text = is_given text ≡ true

abbrev pub MayBeGiven : Option (List ℕ) → Type 0
MayBeGiven None = Unit {0}
MayBeGiven (Some text) = IsGiven text

-- a text of at most so many bytes, each of which passes a test that passes no other
pub given_if : (test : ℕ → Bool) → ((c : ℕ) → test c ≡ true → is_fit c ≡ true)
    → (text : List ℕ) → list_all test text ≡ true → length text ≤ 40 → IsGiven text
given_if test fit text each short =
    and_from (nat_le (length text) 40) (list_all is_fit text) (grind (arith, nat_tests))
    (all_fit text each)
  where
    all_fit : (xs : List ℕ) → list_all test xs ≡ true → list_all is_fit xs ≡ true
    all_fit [] is = refl
    all_fit (x ∷ xs) is =
        let both = and_parts (test x) (list_all test xs) is in
        and_from (is_fit x) (list_all is_fit xs) (fit x both.0) (all_fit xs both.1)

id_fit : (c : ℕ) → is_id_character c ≡ true → is_fit c ≡ true
id_fit c is = grind (arith, nat_tests)

capital_fit : (c : ℕ) → is_capital_or_digit c ≡ true → is_fit c ≡ true
capital_fit c is = grind (arith, nat_tests)

digit_fit : (c : ℕ) → is_ascii_digit c ≡ true → is_fit c ≡ true
digit_fit c is = grind (arith, nat_tests)

letter_fit : (c : ℕ) → is_ascii_alphanumeric c ≡ true → is_fit c ≡ true
letter_fit c is = grind (arith, nat_tests)

pub id_given : (text : List ℕ) → is_id text ≡ true → IsGiven text
id_given text is =
    let parts = and_parts (nat_le 1 (length text) && nat_le (length text) 40)
    (list_all is_id_character text) is in
    let short = and_parts (nat_le 1 (length text)) (nat_le (length text) 40) parts.0 in
    let most : nat_le (length text) 40 ≡ true = short.1 in
    given_if is_id_character id_fit text parts.1 (grind (arith, nat_tests))

pub bond_given : (text : List ℕ) → is_bond_id text ≡ true → IsGiven text
bond_given text is =
    let parts = and_parts (length text == 12) (list_all is_capital_or_digit text) is in
    let long : (length text == 12) ≡ true = parts.0 in
    given_if is_capital_or_digit capital_fit text parts.1 (grind (arith, nat_tests))

pub name_given : (text : List ℕ) → is_name text ≡ true → IsGiven text
name_given [] is = refl
name_given (first ∷ rest) is =
    let parts = and_parts (is_ascii_uppercase first && nat_le (length rest) 7)
    (list_all is_capital_or_digit rest) is in
    let lead = and_parts (is_ascii_uppercase first) (nat_le (length rest) 7) parts.0 in
    let capital : is_ascii_uppercase first ≡ true = lead.0 in
    let most : nat_le (length rest) 7 ≡ true = lead.1 in
    given_if is_capital_or_digit capital_fit (first ∷ rest) (rw capital parts.1)
    (grind (arith, nat_tests))

pub sequence_given : (text : List ℕ) → is_sequence_number text ≡ true → IsGiven text
sequence_given text is =
    let parts = and_parts ((nat_le 1 (length text) && nat_le (length text) 9)
    && list_all is_ascii_digit text) (nat_le 1 (digits_value 10 text)) is in
    let all = and_parts (nat_le 1 (length text) && nat_le (length text) 9)
    (list_all is_ascii_digit text) parts.0 in
    let short = and_parts (nat_le 1 (length text)) (nat_le (length text) 9) all.0 in
    let most : nat_le (length text) 9 ≡ true = short.1 in
    given_if is_ascii_digit digit_fit text all.1 (grind (arith, nat_tests))

pub type_given : (text : List ℕ) → is_msg_type text ≡ true → IsGiven text
type_given text is =
    let parts = and_parts (nat_le 1 (length text) && nat_le (length text) 4)
    (list_all is_ascii_alphanumeric text) is in
    let short = and_parts (nat_le 1 (length text)) (nat_le (length text) 4) parts.0 in
    let most : nat_le (length text) 4 ≡ true = short.1 in
    given_if is_ascii_alphanumeric letter_fit text parts.1 (grind (arith, nat_tests))

-- What is so of each value of a message on a day of this date: of each text that it is given, of
-- the numbers, prices and names that the venue writes, and of its moments.
pub record AreValues (V : List ℕ → Type 0) (D : ℕ → Type 0) (date : List ℕ) : Type 0 where
  pub given : (text : List ℕ) → IsGiven text → V text
  pub number : (n : ℕ) → V (decimal n)
  pub named : (letter n : ℕ) → is_fit letter ≡ true → V (letter ∷ decimal n)
  pub price : (n : ℕ) → V (price_digits n)
  pub time : (moment : ℕ) → D moment → V (timestamp_text date moment)

-- Short values, which may stand in a field.

abbrev pub IsShortValue : List ℕ → Type 0
IsShortValue text = IsValue text × (length text ≤ 74)

onto_short : (k n : ℕ) (behind : List ℕ)
    → length (digits_onto k 10 false n behind) ≤ k + length behind
onto_short zero n behind = omega arith
onto_short (suc k) n behind =
    cond_both (n / 10 == 0) (digit_glyph false (n % 10) ∷ behind)
    (digits_onto k 10 false (n / 10) (digit_glyph false (n % 10) ∷ behind))
    (λ (text : List ℕ). length text ≤ suc k + length behind) (λ last. omega arith)
    (λ more. let rest = onto_short k (n / 10) (digit_glyph false (n % 10) ∷ behind) in
    omega (arith, rest))

pub number_short : (n : ℕ) → length (decimal n) ≤ 64
unfolding digits
number_short n = onto_short 64 n []

nonzero_short : (byte : ℕ) (behind : List ℕ)
    → length (before_nonzero byte behind) ≤ 1 + length behind
nonzero_short byte [] =
    cond_both (byte == 48) [] (byte ∷ []) (λ (text : List ℕ). length text ≤ 1) (λ last. omega arith)
    (λ other. omega arith)
nonzero_short byte (next ∷ behind) = omega arith

trimmed_short : (text : List ℕ) → length (without_last_zeros text) ≤ length text
trimmed_short [] = omega arith
trimmed_short (byte ∷ text) =
    let first = nonzero_short byte (without_last_zeros text) in
    let rest = trimmed_short text in
    omega (arith, first, rest)

fraction_short : (r : ℕ) → length (point_text (fraction_of r)) ≤ 9
unfolding fraction_digits
fraction_short r =
    cond_both (r == 0) None (Some (fraction_digits r))
    (λ (o : Option (List ℕ)). length (point_text o) ≤ 9) (λ none. omega arith)
    (λ some. let eight : length (fraction_digits r) ≤ 8 = trimmed_short (eight_decimals r) in
    omega (arith, eight))

pub price_short : (price : ℕ) → length (price_digits price) ≤ 74
unfolding price_digits
price_short price =
    let front = decimal (price / 256) in
    let behind = point_text (fraction_of (price % 256)) in
    let all : length (price_digits price) ≡ length front + length behind =
    length-append front behind in
    let whole = number_short (price / 256) in
    let rest = fraction_short (price % 256) in
    omega (arith, all, whole, rest)

pub date_short : (date : List ℕ) → IsDate date → length date ≡ 8
date_short date is = ap length is.text

pub time_short : (date : List ℕ) (moment : ℕ) → IsDate date
    → length (timestamp_text date moment) ≤ 74
time_short date moment is =
    let clock = 45 ∷ clock_text moment in
    let last = 46 ∷ three_digits (moment % 1000) in
    let eight = date_short date is in
    let nine : length clock ≡ 9 = refl in
    let four : length last ≡ 4 = refl in
    let front = length-append date clock in
    let all : length (timestamp_text date moment) ≡ length (date ++ clock) + length last =
    length-append (date ++ clock) last in
    omega (arith, all, front, eight, nine, four)

fit_value : (c : ℕ) → is_fit c ≡ true → not (c == 1) ≡ true
fit_value c is = (and_parts (not (c == 1)) (not (c == 124)) is).0

pub given_value : (text : List ℕ) → IsGiven text → IsValue text
given_value text is =
    plain_value text (all text (and_parts (nat_le (length text) 40) (list_all is_fit text) is).1)
  where
    all : (xs : List ℕ) → list_all is_fit xs ≡ true
        → list_all (λ byte. not (byte == 1)) xs ≡ true
    all [] each = refl
    all (x ∷ xs) each =
        let both = and_parts (is_fit x) (list_all is_fit xs) each in
        and_from (not (x == 1)) (list_all (λ byte. not (byte == 1)) xs) (fit_value x both.0)
        (all xs both.1)

pub given_short : (text : List ℕ) → IsGiven text → length text ≤ 40
given_short text is =
    let most : nat_le (length text) 40 ≡ true =
    (and_parts (nat_le (length text) 40) (list_all is_fit text) is).0 in
    grind (arith, nat_tests)

pub short_values : (D : ℕ → Type 0) (date : List ℕ) → IsDate date → AreValues IsShortValue D date
short_values D date is = record {
  given = λ text given.
      let few = given_short text given in (given_value text given, omega (arith, few));
  number = λ n. let few = number_short n in (number_value n, omega (arith, few));
  named = λ letter n fit.
      let few = number_short n in (
        both_values (letter ∷ []) (decimal n) (plain_value (letter ∷ [])
            (rw (fit_value letter fit) refl))
            (number_value n),
        omega (arith, few),
      );
  price = λ n. (price_value n, price_short n);
  time = λ moment of_day.
      (timestamp_value date moment (date_value date is), time_short date moment is);
}
