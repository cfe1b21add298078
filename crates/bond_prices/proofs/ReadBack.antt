-- A printed price is read back as its number, and has no digit to spare.
use Rattle.std.proofs.Common.{◌≡◌, ◌≢◌, ℕ, suc, ◌+◌, ◌*◌, ◌/◌, ◌%◌, ◌^◌, ◌<◌, ◌≤◌, ◌⊎◌, inl, inr}
use Rattle.std.proofs.Common.{Bool, true, false, List, [], ◌∷◌, ◌++◌, length, Option, Some, None}
use Rattle.std.proofs.Common.{Ok, refl, sym, ◌∙◌, ap, arith, length-append}
use Rattle.std.proofs.lemmas.Bool.{eqb-true, eqb-false}
use Rattle.std.proofs.lemmas.Fmt.{decimal_is_IsNumeral, length-decimal-le}
use Rattle.std.proofs.Math.Nat.{pow-suc}
use Rattle.std.specs.Prelude.{◌==◌, decimal}
use Rattle.std.specs.Str.Parse.{AllDigits, digits_value, digits_value_after}
use Rattle.std.specs.Char.{digit_value}
use Rattle.bond_prices.specs.Price.{Parts, text_of, point_text, behind_point, number_of, scale_of}
use Rattle.bond_prices.specs.Price.{price_of, price_digits, fraction_digits, fraction_of}
use Rattle.bond_prices.specs.Price.{eight_decimals, before_nonzero, without_last_zeros}
use Rattle.bond_prices.specs.Price.{EndsInNonzero, IsLawful, IsReadAs, IsShortest}
use Rattle.bond_prices.proofs.Fractions.{fraction_digits-decimals}
use Rattle.bond_prices.proofs.Meaning.{price_of-read}

-- digits behind digits
AllDigits-append : (xs ys : List ℕ) → AllDigits 10 xs → AllDigits 10 ys → AllDigits 10 (xs ++ ys)
AllDigits-append [] ys h k = k
AllDigits-append (x ∷ xs) ys h k = (h.0, AllDigits-append xs ys h.1 k)

digits_value_after-append : (n : ℕ) (xs ys : List ℕ) → digits_value_after 10 n (xs ++ ys) ≡ digits_value_after 10 (digits_value_after 10 n xs) ys
digits_value_after-append n [] ys = refl
digits_value_after-append n (x ∷ xs) ys = digits_value_after-append (n * 10 + digit_value x) xs ys

digits_value_after-shift : (n : ℕ) (ys : List ℕ) → digits_value_after 10 n ys ≡ n * 10 ^ length ys + digits_value 10 ys
digits_value_after-shift n [] = omega arith
digits_value_after-shift n (y ∷ ys) =
    let first = digits_value_after-shift (n * 10 + digit_value y) ys in
    let second = digits_value_after-shift (0 + digit_value y) ys in
    let power : 10 ^ suc (length ys) ≡ 10 ^ length ys * 10 = pow-suc 10 (length ys) in
    rw (first, second, power) (omega arith)

digits_value-append : (xs ys : List ℕ) → digits_value 10 (xs ++ ys) ≡ digits_value 10 xs * 10 ^ length ys + digits_value 10 ys
digits_value-append xs ys = digits_value_after-append 0 xs ys ∙ digits_value_after-shift (digits_value 10 xs) ys

-- without the zeros that stand last, digits are none or end in another digit
before_nonzero-ends : (c : ℕ) (digits : List ℕ) → (digits ≡ []) ⊎ EndsInNonzero (Some digits) → (before_nonzero c digits ≡ []) ⊎ EndsInNonzero (Some (before_nonzero c digits))
before_nonzero-ends c [] h = by_test (c == 48) refl
  where
    by_test : (t : Bool) → (c == 48) ≡ t → (before_nonzero c [] ≡ []) ⊎ EndsInNonzero (Some (before_nonzero c []))
    by_test true e = inl (rw e refl)
    by_test false e = inr (rw e ([], c, refl, eqb-false c 48 e))
before_nonzero-ends c (d ∷ digits) (inl none) = absurd cc
before_nonzero-ends c (d ∷ digits) (inr ends) = inr (c ∷ ends.0, ends.1, ap (λ ds. c ∷ ds) ends.2, ends.3)

without_last_zeros-ends : (digits : List ℕ) → (without_last_zeros digits ≡ []) ⊎ EndsInNonzero (Some (without_last_zeros digits))
without_last_zeros-ends [] = inl refl
without_last_zeros-ends (c ∷ digits) = before_nonzero-ends c (without_last_zeros digits) (without_last_zeros-ends digits)

-- the decimals end in another digit than zero
fraction_digits-ends : (r : ℕ) → 1 ≤ length (fraction_digits r) → EndsInNonzero (Some (fraction_digits r))
unfolding fraction_digits
fraction_digits-ends r some = elim (without_last_zeros-ends (eight_decimals r)) [
  | inl none ↦ absurd (omega (arith, ap length none))
  | inr ends ↦ ends
]

-- the parts of a printed price
abbrev pub printed_parts : ℕ → Parts
printed_parts n = record { is_negative = false; whole = decimal (n / 256); decimals = fraction_of (n % 256) }

pub price_digits-parts : (n : ℕ) → price_digits n ≡ text_of (printed_parts n)
unfolding price_digits
price_digits-parts n = refl

-- what the fraction of a price is
record FractionFits (r : ℕ) (fraction : Option (List ℕ)) : Type 0 where
  all_digits : AllDigits 10 (behind_point fraction)
  exact : 256 * digits_value 10 (behind_point fraction) ≡ r * 10 ^ length (behind_point fraction)
  at_most : length (behind_point fraction) ≤ 8
  trimmed : EndsInNonzero fraction

fraction_of-fits : (r : ℕ) → r < 256 → FractionFits r (fraction_of r)
fraction_of-fits r below = by_test (r == 0) refl
  where
    by_test : (t : Bool) → (r == 0) ≡ t → FractionFits r (fraction_of r)
    by_test true e = rw (e, eqb-true r 0 e) (record { all_digits = tt; exact = refl; at_most = omega arith; trimmed = tt })
    by_test false e =
        let other : r ≢ 0 = eqb-false r 0 e in
        let are = fraction_digits-decimals r (omega arith) below in
        rw e (record { all_digits = are.all_digits; exact = are.exact; at_most = are.at_most; trimmed = fraction_digits-ends r are.at_least_one })

-- whole points and a fraction are worth what they are together
scaled_sum : (n w r p number behind : ℕ) → n ≡ 256 * w + r → number ≡ w * p + behind → 256 * behind ≡ r * p → 256 * number ≡ n * p
scaled_sum n w r p number behind split value exact = rw (split, value) (omega (arith, exact))

-- a printed price is read as its number
pub price_digits-read : (n : ℕ) → 1 ≤ n → n ≤ 255999 → IsReadAs (price_digits n) n
price_digits-read n one most =
    let w : ℕ = n / 256 in
    let fits = fraction_of-fits (n % 256) (omega arith) in
    let numeral = decimal_is_IsNumeral w (omega arith) in
    let points : length (decimal w) ≤ 3 = length-decimal-le 3 w (omega arith) (omega arith) (omega arith) in
    let some : 0 < length (decimal w) = numeral.0.0 in
    let behind : List ℕ = behind_point (fraction_of (n % 256)) in
    let lawful : IsLawful (printed_parts n) = record {
      all_digits = AllDigits-append (decimal w) behind numeral.0.1 fits.all_digits;
      at_least_one = rw (length-append (decimal w) behind) (omega arith);
      at_most = rw (length-append (decimal w) behind) (omega (arith, fits.at_most));
    } in
    let value : digits_value 10 (decimal w ++ behind) ≡ w * 10 ^ length behind + digits_value 10 behind = rw numeral.1 at (digits_value-append (decimal w) behind) in
    let split : n ≡ 256 * w + n % 256 = omega arith in
    let exact : 256 * number_of (printed_parts n) ≡ n * scale_of (printed_parts n) = scaled_sum n w (n % 256) (10 ^ length behind) _ _ split value fits.exact in
    record { parts = printed_parts n; lawful = lawful; built = price_digits-parts n; unsigned = refl; exact = exact; at_least_one = one; at_most = most }

pub price_digits-shortest : (n : ℕ) → 1 ≤ n → n ≤ 255999 → IsShortest (price_digits n) n
price_digits-shortest n one most = record {
  read = price_digits-read n one most;
  fraction = fraction_of (n % 256);
  built = price_digits-parts n;
  trimmed = (fraction_of-fits (n % 256) (omega arith)).trimmed;
}

-- the point and the decimals are at most one byte more than the decimals
length-point_text : (fraction : Option (List ℕ)) → length (point_text fraction) ≤ length (behind_point fraction) + 1
length-point_text None = omega arith
length-point_text (Some digits) = omega arith

-- a printed price has at most twelve bytes
pub length-price_digits : (n : ℕ) → n ≤ 255999 → length (price_digits n) ≤ 12
unfolding price_digits
length-price_digits n most =
    let points : length (decimal (n / 256)) ≤ 3 = length-decimal-le 3 (n / 256) (omega arith) (omega arith) (omega arith) in
    let fits = fraction_of-fits (n % 256) (omega arith) in
    rw (length-append (decimal (n / 256)) (point_text (fraction_of (n % 256)))) (omega (arith, points, fits.at_most, length-point_text (fraction_of (n % 256))))

pub price_of-price_digits : (n : ℕ) → 1 ≤ n → n ≤ 255999 → price_of (price_digits n) ≡ Ok n
price_of-price_digits n one most = price_of-read (price_digits n) n (price_digits-read n one most)

-- two prices that are printed alike are one
pub price_digits-injective : (m n : ℕ) → 1 ≤ m → m ≤ 255999 → 1 ≤ n → n ≤ 255999 → price_digits m ≡ price_digits n → m ≡ n
price_digits-injective m n m_one m_most n_one n_most same =
    let one = price_of-price_digits m m_one m_most in
    let other = price_of-price_digits n n_one n_most in
    let both : Ok m ≡ Ok n = sym one ∙ (ap price_of same ∙ other) in
    cc
