-- Laws of texts each of whose characters passes a test: the ids, names, codes and numbers of the
-- crates above are such texts.
use Rattle.std.specs.Prelude.{◌≡◌, ◌≢◌, ◌<◌, ◌^◌, ℕ, Bool, true, List, [], ◌∷◌, nat_le, decimal}
use Rattle.std.specs.List.{list_all}
use Rattle.std.specs.Char.{is_ascii_digit, digit_value}
use Rattle.std.specs.Str.{IsUtf8}
use Rattle.std.specs.Str.Parse.{AllDigits}
use Rattle.std.proofs.lemmas.Bool.{and_parts, false≢true, leb-true, lt-ltb}
use Rattle.std.proofs.lemmas.List.Elements.{All-weaker, recursion_from_All}
use Rattle.std.proofs.lemmas.List.Sums.{AllPass-from_list_all}
use Rattle.std.proofs.lemmas.Str.{IsUtf8-from_ascii}
use Rattle.std.proofs.lemmas.Str.Ascii.{IsAscii-from_all}
use Rattle.std.proofs.lemmas.Str.Parse.{tells_digits}
use Rattle.std.proofs.lemmas.Fmt.{decimal_is_IsNumeral}
use Rattle.std.proofs.Common.{subst}
use Rattle.fix_fields.specs.Frame.{IsValue}

-- such a text is UTF-8 where the test passes ASCII alone
pub utf8_if_all : (p : ℕ → Bool) → ((c : ℕ) → p c ≡ true → c < 128) → (text : List ℕ)
    → list_all p text ≡ true → IsUtf8 text
utf8_if_all p low text h =
    IsUtf8-from_ascii text (IsAscii-from_all text
    (All-weaker (λ c. p c ≡ true) (λ c. c < 128) low text (AllPass-from_list_all p text h)))

-- it may stand as the value of a field where the test does not pass SOH
pub value_if_all : (p : ℕ → Bool) → ((c : ℕ) → p c ≡ true → c ≢ 1) → (text : List ℕ)
    → list_all p text ≡ true → IsValue text
value_if_all p apart text h =
    recursion_from_All (λ c. c ≢ 1) text
    (All-weaker (λ c. p c ≡ true) (λ c. c ≢ 1) apart text (AllPass-from_list_all p text h))

-- it is a text of digits where the test is that of decimal digits
pub digits_if_all : (text : List ℕ) → list_all is_ascii_digit text ≡ true → AllDigits 10 text
digits_if_all [] h = tt
digits_if_all (c ∷ text) h =
    let parts = and_parts (is_ascii_digit c) (list_all is_ascii_digit text) h in
    let bounds = and_parts (nat_le 48 c) (nat_le c 57) parts.0 in
    tells_digits.more c text (leb-true 48 c bounds.0, leb-true c 57 bounds.1)
    (digits_if_all text parts.1)

-- no digit is SOH
digit-apart : (c : ℕ) → digit_value c < 10 → c ≢ 1
digit-apart c h = λ e. false≢true (lt-ltb (digit_value 1) 10 (subst (λ n. digit_value n < 10) e h))

-- a text of digits may stand as the value of a field
pub digits_are_value : (text : List ℕ) → AllDigits 10 text → IsValue text
digits_are_value [] h = tt
digits_are_value (c ∷ text) h = (digit-apart c h.0, digits_are_value text h.1)

-- and so may a number as it is printed
pub number_is_value : (n : ℕ) → n < 2 ^ 64 → IsValue (decimal n)
number_is_value n small = digits_are_value (decimal n) ((decimal_is_IsNumeral n small).0).1
