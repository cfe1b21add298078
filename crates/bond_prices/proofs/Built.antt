-- A text and its parts are one thing: cut, each text gives its parts, and lawful parts are found
-- again in their text.
use Rattle.std.proofs.Common.{◌≡◌, ◌≢◌, ℕ, ◌<◌, Bool, true, false, List, [], ◌∷◌, ◌++◌, length}
use Rattle.std.proofs.Common.{Option, Some, None, refl, sym, ◌∙◌, ap, arith, ◌&&◌}
use Rattle.std.proofs.lemmas.Bool.{and_parts, ne_eqb, eqb-true, le-leb, leb-true}
use Rattle.std.specs.Prelude.{◌==◌, nat_le}
use Rattle.std.specs.Str.Parse.{AllDigits}
use Rattle.std.specs.Char.{is_digit, digit_value}
use Rattle.std.specs.List.{list_all}
use Rattle.bond_prices.specs.Price.{Parts, text_of, sign_text, point_text, behind_point, digits_of}
use Rattle.bond_prices.specs.Price.{cut_at_point, parts_of, are_lawful, IsLawful}
use Rattle.bond_prices.proofs.PriceOf.{cut_at_point-unsigned}
use Rattle.bond_prices.proofs.DigitTests.{digits_test, digits_from_test}

-- the test of the form
pub lawful_test : (p : Parts) → IsLawful p → are_lawful (digits_of p) ≡ true
lawful_test p h = rw (digits_test (digits_of p) h.all_digits, le-leb 1 (length (digits_of p)) h.at_least_one, le-leb (length (digits_of p)) 15 h.at_most) refl

pub lawful_from_test : (p : Parts) → are_lawful (digits_of p) ≡ true → IsLawful p
lawful_from_test p h =
    let digits = and_parts (list_all (λ c. is_digit c 10) (digits_of p)) (nat_le 1 (length (digits_of p)) && nat_le (length (digits_of p)) 15) h in
    let counts = and_parts (nat_le 1 (length (digits_of p))) (nat_le (length (digits_of p)) 15) digits.1 in
    record { all_digits = digits_from_test (digits_of p) digits.0; at_least_one = leb-true 1 (length (digits_of p)) counts.0; at_most = leb-true (length (digits_of p)) 15 counts.1 }

-- the front of digits
pub AllDigits-front : (xs ys : List ℕ) → AllDigits 10 (xs ++ ys) → AllDigits 10 xs
AllDigits-front [] ys h = tt
AllDigits-front (x ∷ xs) ys h = (h.0, AllDigits-front xs ys h.1)

-- a digit is no point and no sign
no_digit : (c d : ℕ) → digit_value d ≡ 36 → digit_value c < 10 → c ≢ d
no_digit c d none digit is = let value : digit_value c ≡ 36 = ap digit_value is ∙ none in absurd (omega arith)

-- built parts, cut again
cut_at_point-built : (whole : List ℕ) (decimals : Option (List ℕ)) → AllDigits 10 whole → cut_at_point (whole ++ point_text decimals) ≡ record { is_negative = false; whole = whole; decimals = decimals }
cut_at_point-built [] None h = refl
cut_at_point-built [] (Some digits) h = refl
cut_at_point-built (c ∷ whole) decimals h = rw (ne_eqb c 46 (no_digit c 46 refl h.0), cut_at_point-built whole decimals h.1) refl

parts_of-built : (negative : Bool) (whole : List ℕ) (decimals : Option (List ℕ)) → AllDigits 10 whole → parts_of (sign_text negative ++ (whole ++ point_text decimals)) ≡ record { is_negative = negative; whole = whole; decimals = decimals }
parts_of-built true whole decimals h = rw (cut_at_point-built whole decimals h) refl
parts_of-built false [] None h = refl
parts_of-built false [] (Some digits) h = refl
parts_of-built false (c ∷ whole) decimals h = rw (ne_eqb c 45 (no_digit c 45 refl h.0)) (cut_at_point-built (c ∷ whole) decimals h)

-- lawful parts are those of their text
pub parts_of-text_of : (p : Parts) → IsLawful p → parts_of (text_of p) ≡ p
parts_of-text_of p h = parts_of-built p.is_negative p.whole p.decimals (AllDigits-front p.whole (behind_point p.decimals) h.all_digits)

-- each text is built of its parts
cut_at_point-text : (text : List ℕ) → (cut_at_point text).whole ++ point_text (cut_at_point text).decimals ≡ text
cut_at_point-text [] = refl
cut_at_point-text (c ∷ text) = by_test (cut_at_point-text text) (c == 46) refl
  where
    by_test : (cut_at_point text).whole ++ point_text (cut_at_point text).decimals ≡ text → (t : Bool) → (c == 46) ≡ t → (cut_at_point (c ∷ text)).whole ++ point_text (cut_at_point (c ∷ text)).decimals ≡ c ∷ text
    by_test behind true e = rw e (ap (λ x. x ∷ text) (sym (eqb-true c 46 e)))
    by_test behind false e = rw e (ap (λ xs. c ∷ xs) behind)

pub text_of-parts_of : (text : List ℕ) → text_of (parts_of text) ≡ text
text_of-parts_of [] = refl
text_of-parts_of (c ∷ text) = by_test (c == 45) refl
  where
    by_test : (t : Bool) → (c == 45) ≡ t → text_of (parts_of (c ∷ text)) ≡ c ∷ text
    by_test true e = rw (e, cut_at_point-text text) (ap (λ x. x ∷ text) (sym (eqb-true c 45 e)))
    by_test false e = rw (e, cut_at_point-unsigned (c ∷ text)) (cut_at_point-text (c ∷ text))
