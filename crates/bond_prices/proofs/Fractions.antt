-- The decimals of each of the 256 fractions: what holds of them all is computed for each.
use Rattle.std.proofs.Common.{◌≡◌, ◌≢◌, ℕ, zero, suc, ◌+◌, ◌-◌, ◌*◌, ◌/◌, ◌%◌, ◌^◌, ◌<◌, ◌≤◌, Bool}
use Rattle.std.proofs.Common.{true, List, [], ◌∷◌, ◌++◌, length, refl, arith, if◌then◌else◌, ◌&&◌}
use Rattle.std.proofs.Common.{append_assoc}
use Rattle.std.proofs.lemmas.Bool.{and_parts, ne_eqb, eqb-true, leb-true}
use Rattle.std.proofs.lemmas.Bool.Decides.{Decides-below_and}
use Rattle.std.proofs.lemmas.Slice.Eq.{bytes_eq-Decides}
use Rattle.std.specs.Str.{bytes_eq}
use Rattle.std.specs.Prelude.{nat_le, ◌==◌, ◌||◌}
use Rattle.std.specs.Str.Parse.{AllDigits, digits_value}
use Rattle.std.specs.Char.{is_digit}
use Rattle.std.specs.List.{list_all}
use Rattle.bond_prices.specs.Price.{fraction_digits}
use Rattle.bond_prices.proofs.DigitTests.{digits_from_test}

-- the digits of r 256ths, by long division
abbrev pub divided : ℕ → ℕ → List ℕ
divided zero r = []
divided (suc places) r = if r == 0 then [] else (48 + (r * 10) / 256) ∷ divided places ((r * 10) % 256)

-- one digit more
pub divided-step : (i r : ℕ) → i < 8 → r ≢ 0 → divided (8 - i) r ≡ (48 + (r * 10) / 256) ∷ divided (8 - (i + 1)) ((r * 10) % 256)
divided-step i r within other = let more : 8 - i ≡ suc (8 - (i + 1)) = omega arith in rw (more, ne_eqb r 0 other) refl

-- whether the digits are lawful decimals of r 256ths
abbrev pub are_decimals : ℕ → List ℕ → Bool
are_decimals r digits = list_all (λ c. is_digit c 10) digits && ((256 * digits_value 10 digits == r * 10 ^ length digits) && (nat_le 1 (length digits) && nat_le (length digits) 8))

abbrev pub is_right_at : ℕ → List ℕ → Bool
is_right_at r digits = bytes_eq (divided 8 r) digits && ((r == 0) || are_decimals r digits)

abbrev pub is_right : ℕ → Bool
is_right r = is_right_at r (fraction_digits r)

abbrev pub all_right : ℕ → Bool
all_right zero = true
all_right (suc n) = is_right n && all_right n

all_256 : all_right 256 ≡ true
unfolding fraction_digits
all_256 = refl

right_at : (r : ℕ) → r < 256 → is_right r ≡ true
right_at r below = (Decides-below_and is_right (λ k. is_right k ≡ true) all_right (λ k. ((λ e. e), (λ e. e))) refl (λ _. refl) 256).0 all_256 r below

-- the long division gives the decimals
pub divided_is : (r : ℕ) → r < 256 → divided 8 r ≡ fraction_digits r
divided_is r below = (bytes_eq-Decides (divided 8 r) (fraction_digits r)).0 ((and_parts _ _ (right_at r below)).0)

-- before the first digit
pub divided-start : (text : List ℕ) (r : ℕ) → text ≡ [] → r < 256 → text ++ divided 8 r ≡ fraction_digits r
divided-start text r none below = rw none (divided_is r below)

-- a digit printed
pub divided-push : (new text before rest whole : List ℕ) (c d : ℕ) → new ≡ text ++ c ∷ [] → c ≡ d → before ≡ d ∷ rest → text ++ before ≡ whole → new ++ rest ≡ whole
divided-push new text before rest whole c d pushed same split is = rw (pushed, same, append_assoc) (rw split at is)

-- decimals of r 256ths: digits, at most eight of them, that are worth r 256ths
pub record AreDecimals (r : ℕ) (digits : List ℕ) : Type 0 where
  pub all_digits : AllDigits 10 digits
  pub exact : 256 * digits_value 10 digits ≡ r * 10 ^ length digits
  pub at_least_one : 1 ≤ length digits
  pub at_most : length digits ≤ 8

-- the decimals of each fraction are such
pub fraction_digits-decimals : (r : ℕ) → 1 ≤ r → r < 256 → AreDecimals r (fraction_digits r)
fraction_digits-decimals r some below =
    let ds : List ℕ = fraction_digits r in
    let right : ((r == 0) || are_decimals r ds) ≡ true = (and_parts (bytes_eq (divided 8 r) ds) ((r == 0) || are_decimals r ds) (right_at r below)).1 in
    let decimals : are_decimals r ds ≡ true = rw (ne_eqb r 0 (omega arith)) at right in
    from_test r ds decimals
  where
    from_test : (r : ℕ) (ds : List ℕ) → are_decimals r ds ≡ true → AreDecimals r ds
    from_test r ds e =
        let digits = and_parts (list_all (λ c. is_digit c 10) ds) ((256 * digits_value 10 ds == r * 10 ^ length ds) && (nat_le 1 (length ds) && nat_le (length ds) 8)) e in
        let value = and_parts (256 * digits_value 10 ds == r * 10 ^ length ds) (nat_le 1 (length ds) && nat_le (length ds) 8) digits.1 in
        let counts = and_parts (nat_le 1 (length ds)) (nat_le (length ds) 8) value.1 in
        record {
          all_digits = digits_from_test ds digits.0;
          exact = eqb-true (256 * digits_value 10 ds) (r * 10 ^ length ds) value.0;
          at_least_one = leb-true 1 (length ds) counts.0;
          at_most = leb-true (length ds) 8 counts.1;
        }
