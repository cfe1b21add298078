-- Parts of lines that are written: where they end, and what they are read as.
use Rattle.std.proofs.Common.{◌≡◌, ℕ, ◌+◌, ◌/◌, ◌%◌, ◌^◌, ◌<◌, ◌≤◌, ◌==◌, ◌&&◌, ◌||◌, not, Bool}
use Rattle.std.proofs.Common.{true, false, cond, nat_le, nat_lt, List, [], ◌∷◌, ◌++◌, length}
use Rattle.std.proofs.Common.{decimal, Some, None, Ok, refl, sym, ap, ap₂, ◌∙◌, arith, inl, inr}
use Rattle.std.proofs.Common.{rules}
use Rattle.std.specs.Char.{is_ascii_digit, is_ascii_uppercase}
use Rattle.std.specs.List.{list_all}
use Rattle.std.specs.Result.{result_ok}
use Rattle.std.specs.Str.Parse.{digits_value}
use Rattle.std.proofs.lemmas.Bool.{and_parts, cases_Bool, not-true}
use Rattle.std.proofs.lemmas.Bool.Decides.{nat_tests}
use Rattle.std.proofs.lemmas.Fmt.{decimal_nonempty, digits_decimal, digits_value-decimal}
use Rattle.std.proofs.lemmas.Fmt.{length-decimal-le}
use Rattle.std.proofs.lemmas.List.{append_assoc}
use Rattle.std.proofs.lemmas.Str.Parse.{IsNumeralModel, numerals_by_value}
use Rattle.fix_fields.specs.Frame.{three_digits}
use Rattle.fix_fields.specs.TimeOfDay.{time_text}
use Rattle.fix_fields.specs.UtcTimestamp.{clock_text, moment_of, timestamp_text, two_digits}
use Rattle.quote_messages.specs.Texts.{number_up_to}
use Rattle.venue_rows.specs.Texts.{is_bond_id, is_capital_or_digit, is_name}
use Rattle.input_lines.specs.Lines.{behind_part, first_part, has_part_behind, parts_of, time_of}
use Rattle.venue_text.specs.ReadBack.{is_in_line, is_in_part}
use Rattle.input_lines.specs.FrontLemmas.{after_skip, before_skip}

-- Tests of each byte.

pub all_more : (test : ℕ → Bool) (c : ℕ) (text : List ℕ) → test c ≡ true
    → list_all test text ≡ true → list_all test (c ∷ text) ≡ true
all_more test c text here later = ap₂ (λ (a b : Bool). a && b) here later

pub all_weaker : (one other : ℕ → Bool) → ((c : ℕ) → one c ≡ true → other c ≡ true)
    → (text : List ℕ) → list_all one text ≡ true → list_all other text ≡ true
all_weaker one other weaker [] all = refl
all_weaker one other weaker (c ∷ text) all =
    let parts = and_parts (one c) (list_all one text) all in
    all_more other c text (weaker c parts.0) (all_weaker one other weaker text parts.1)

pub all_append : (test : ℕ → Bool) (front behind : List ℕ) → list_all test front ≡ true
    → list_all test behind ≡ true → list_all test (front ++ behind) ≡ true
all_append test [] behind all more = more
all_append test (c ∷ front) behind all more =
    let parts = and_parts (test c) (list_all test front) all in
    all_more test c (front ++ behind) parts.0 (all_append test front behind parts.1 more)

part_in_line : (c : ℕ) → is_in_part c ≡ true → is_in_line c ≡ true
part_in_line c is = (and_parts (not (c == 32)) (not (c == 10)) is).1

pub in_line : (text : List ℕ) → list_all is_in_part text ≡ true → list_all is_in_line text ≡ true
in_line text all = all_weaker is_in_part is_in_line part_in_line text all

-- no space is in a part
no_space : (c : ℕ) → is_in_part c ≡ true → (c == 32) ≡ false
no_space c is = not-true (c == 32) (and_parts (not (c == 32)) (not (c == 10)) is).0

no_feed : (c : ℕ) → is_in_line c ≡ true → (c == 10) ≡ false
no_feed c is = not-true (c == 10) is

-- A part, and what stands behind it.

pub first_is : (part behind : List ℕ) → list_all is_in_part part ≡ true
    → first_part (part ++ 32 ∷ behind) ≡ part
first_is [] behind all = refl
first_is (c ∷ part) behind all =
    let parts = and_parts (is_in_part c) (list_all is_in_part part) all in
    before_skip 32 c (part ++ 32 ∷ behind) (no_space c parts.0)
    ∙ ap (λ (l : List ℕ). c ∷ l) (first_is part behind parts.1)

pub behind_is : (part behind : List ℕ) → list_all is_in_part part ≡ true
    → behind_part (part ++ 32 ∷ behind) ≡ behind
behind_is [] behind all = refl
behind_is (c ∷ part) behind all =
    let parts = and_parts (is_in_part c) (list_all is_in_part part) all in
    after_skip 32 c (part ++ 32 ∷ behind) (no_space c parts.0) ∙ behind_is part behind parts.1

pub last_is : (part : List ℕ) → list_all is_in_part part ≡ true → first_part part ≡ part
last_is [] all = refl
last_is (c ∷ part) all =
    let parts = and_parts (is_in_part c) (list_all is_in_part part) all in
    before_skip 32 c part (no_space c parts.0) ∙ ap (λ (l : List ℕ). c ∷ l) (last_is part parts.1)

pub more_behind : (part behind : List ℕ) → has_part_behind (part ++ 32 ∷ behind) ≡ true
more_behind [] behind = refl
more_behind (c ∷ part) behind = rw (more_behind part behind) (or_true (c == 32))
  where
    or_true : (b : Bool) → (b || true) ≡ true
    or_true true = refl
    or_true false = refl

pub none_behind : (part : List ℕ) → list_all is_in_part part ≡ true → has_part_behind part ≡ false
none_behind [] all = refl
none_behind (c ∷ part) all =
    let parts = and_parts (is_in_part c) (list_all is_in_part part) all in
    ap₂ (λ (a b : Bool). a || b) (no_space c parts.0) (none_behind part parts.1)

pub nothing_behind : (part : List ℕ) → list_all is_in_part part ≡ true → behind_part part ≡ []
nothing_behind [] all = refl
nothing_behind (c ∷ part) all =
    let parts = and_parts (is_in_part c) (list_all is_in_part part) all in
    after_skip 32 c part (no_space c parts.0) ∙ nothing_behind part parts.1

-- A line, and the lines behind it.

lines_more : (c : ℕ) (text line : List ℕ) (lines : List (List ℕ)) → (c == 10) ≡ false
    → parts_of 10 text ≡ line ∷ lines → parts_of 10 (c ∷ text) ≡ (c ∷ line) ∷ lines
lines_more c text line lines goes is = rw (goes, is) refl

pub line_first : (line behind : List ℕ) → list_all is_in_line line ≡ true
    → parts_of 10 (line ++ 10 ∷ behind) ≡ line ∷ parts_of 10 behind
line_first [] behind all = refl
line_first (c ∷ line) behind all =
    let parts = and_parts (is_in_line c) (list_all is_in_line line) all in
    lines_more c (line ++ 10 ∷ behind) line (parts_of 10 behind) (no_feed c parts.0)
    (line_first line behind parts.1)

-- Numbers.

all_digits : IsNumeralModel (λ (ds : List ℕ). list_all is_ascii_digit ds ≡ true) (digits_value 10)
all_digits = numerals_by_value (λ (ds : List ℕ). list_all is_ascii_digit ds ≡ true) (search rules)

pub number_back : (most n : ℕ) → n < 2 ^ 64 → length (decimal n) ≤ most
    → number_up_to most (decimal n) ≡ Some n
number_back most n small short =
    let some = decimal_nonempty n small in
    let least : nat_le 1 (length (decimal n)) ≡ true = grind (arith, nat_tests) in
    let few : nat_le (length (decimal n)) most ≡ true = grind (arith, nat_tests) in
    let lawful = ap₂ (λ (a b : Bool). a && b) (ap₂ (λ (a b : Bool). a && b) least few)
    (digits_decimal all_digits n small) in
    ap (λ (b : Bool). cond b (Some (digits_value 10 (decimal n))) None) lawful
    ∙ ap Some (digits_value-decimal all_digits n small)

pub short_back : (n : ℕ) → nat_lt n 1000000000 ≡ true → number_up_to 9 (decimal n) ≡ Some n
short_back n short =
    let below : n < 1000000000 = grind (arith, nat_tests) in
    let few : length (decimal n) ≤ 9 =
    length-decimal-le 9 n (omega arith) (omega arith) (omega arith) in
    number_back 9 n (omega arith) few

digit_in_part : (c : ℕ) → is_ascii_digit c ≡ true → is_in_part c ≡ true
digit_in_part c is = grind (arith, nat_tests)

pub decimal_in_part : (n : ℕ) → n < 2 ^ 64 → list_all is_in_part (decimal n) ≡ true
decimal_in_part n small =
    all_weaker is_ascii_digit is_in_part digit_in_part (decimal n)
    (digits_decimal all_digits n small)

-- Names.

capital_in_part : (c : ℕ) → is_ascii_uppercase c ≡ true → is_in_part c ≡ true
capital_in_part c is = grind (arith, nat_tests)

either_in_part : (c : ℕ) → is_capital_or_digit c ≡ true → is_in_part c ≡ true
either_in_part c is =
    elim (cases_Bool (is_ascii_uppercase c)) [
      | inl capital ↦ capital_in_part c capital
      | inr other ↦
          (let digit : is_ascii_digit c ≡ true = rw other at is in digit_in_part c digit)
    ]

pub name_in_part : (name : List ℕ) → is_name name ≡ true → list_all is_in_part name ≡ true
name_in_part [] is = cc
name_in_part (c ∷ name) is =
    let parts = and_parts (is_ascii_uppercase c && nat_le (length name) 7)
    (list_all is_capital_or_digit name) is in
    all_more is_in_part c name
    (capital_in_part c (and_parts (is_ascii_uppercase c) (nat_le (length name) 7) parts.0).0)
    (all_weaker is_capital_or_digit is_in_part either_in_part name parts.1)

pub bond_in_part : (bond : List ℕ) → is_bond_id bond ≡ true → list_all is_in_part bond ≡ true
bond_in_part bond is =
    all_weaker is_capital_or_digit is_in_part either_in_part bond
    (and_parts (length bond == 12) (list_all is_capital_or_digit bond) is).1

-- Times of day.

pub glyph : (d : ℕ) → is_in_part (48 + d) ≡ true
glyph d = grind (arith, nat_tests)

two_in_part : (n : ℕ) → list_all is_in_part (two_digits n) ≡ true
two_in_part n =
    all_more is_in_part (48 + n / 10) ((48 + n % 10) ∷ []) (glyph (n / 10))
    (all_more is_in_part (48 + n % 10) [] (glyph (n % 10)) refl)

three_in_part : (n : ℕ) → list_all is_in_part (three_digits n) ≡ true
three_in_part n =
    all_more is_in_part (48 + n / 100) ((48 + n / 10 % 10) ∷ ((48 + n % 10) ∷ []))
    (glyph (n / 100))
    (all_more is_in_part (48 + n / 10 % 10) ((48 + n % 10) ∷ []) (glyph (n / 10 % 10))
    (all_more is_in_part (48 + n % 10) [] (glyph (n % 10)) refl))

clock_in_part : (n : ℕ) → list_all is_in_part (clock_text n) ≡ true
clock_in_part n =
    let hours = two_digits (n / 3600000) in
    let minutes = two_digits (n / 60000 % 60) in
    let seconds = two_digits (n / 1000 % 60) in
    all_append is_in_part hours (58 ∷ (minutes ++ (58 ∷ seconds))) (two_in_part (n / 3600000))
    (all_more is_in_part 58 (minutes ++ (58 ∷ seconds)) refl
    (all_append is_in_part minutes (58 ∷ seconds) (two_in_part (n / 60000 % 60))
    (all_more is_in_part 58 seconds refl (two_in_part (n / 1000 % 60)))))

pub time_in_part : (n : ℕ) → list_all is_in_part (time_text n) ≡ true
unfolding time_text
time_in_part n =
    all_append is_in_part (clock_text n) (46 ∷ three_digits (n % 1000)) (clock_in_part n)
    (all_more is_in_part 46 (three_digits (n % 1000)) refl (three_in_part (n % 1000)))

pub time_back : (date : List ℕ) (n : ℕ) → moment_of date (timestamp_text date n) ≡ Ok n
    → time_of date (time_text n) ≡ Some n
unfolding time_text
time_back date n is =
    ap result_ok (ap (moment_of date)
    (sym (append_assoc date (45 ∷ clock_text n) (46 ∷ three_digits (n % 1000)))) ∙ is)
