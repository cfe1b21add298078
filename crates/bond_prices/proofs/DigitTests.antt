-- What the tests of the definitions tell.
use Rattle.std.proofs.Common.{◌≡◌, ℕ, true, List, [], ◌∷◌, refl}
use Rattle.std.proofs.lemmas.Bool.{and_parts, lt-ltb, ltb-true}
use Rattle.std.specs.Str.Parse.{AllDigits}
use Rattle.std.specs.Char.{is_digit, digit_value}
use Rattle.std.specs.List.{list_all}

-- the test of digits
pub digits_test : (digits : List ℕ) → AllDigits 10 digits → list_all (λ c. is_digit c 10) digits ≡ true
digits_test [] h = refl
digits_test (c ∷ digits) h = rw (lt-ltb (digit_value c) 10 h.0) (digits_test digits h.1)

pub digits_from_test : (digits : List ℕ) → list_all (λ c. is_digit c 10) digits ≡ true → AllDigits 10 digits
digits_from_test [] h = tt
digits_from_test (c ∷ digits) h =
    let both = and_parts (is_digit c 10) (list_all (λ c. is_digit c 10) digits) h in
    (ltb-true (digit_value c) 10 both.0, digits_from_test digits both.1)
