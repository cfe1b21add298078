-- A price as it is written and read again.
use Rattle.std.proofs.Common.{◌≡◌, ℕ, ◌/◌, ◌%◌, ◌*◌, ◌+◌, ◌≤◌, ◌==◌, true, List, [], ◌∷◌, map, decimal}
use Rattle.std.proofs.Common.{Some, Ok, refl, ap, arith, inl, inr}
use Rattle.std.specs.List.{list_all}
use Rattle.std.specs.Result.{result_ok}
use Rattle.std.proofs.lemmas.Bool.{and_parts, cases_Bool}
use Rattle.bond_prices.specs.Price.{before_nonzero, eight_decimals, fraction_digits, fraction_of}
use Rattle.bond_prices.specs.Price.{point_text, price_digits, price_of, without_last_zeros}
use Rattle.venue_text.specs.ReadBack.{is_in_part}
use Rattle.venue_text.proofs.ReadBackParts.{all_append, all_more, decimal_in_part, glyph}

glyphs : (f : ℕ → ℕ) (places : List ℕ)
    → list_all is_in_part (map (λ (place : ℕ). 48 + f place) places) ≡ true
glyphs f [] = refl
glyphs f (place ∷ places) =
    all_more is_in_part (48 + f place) (map (λ (place : ℕ). 48 + f place) places) (glyph (f place))
    (glyphs f places)

nonzero_in_part : (c : ℕ) (digits : List ℕ) → is_in_part c ≡ true
    → list_all is_in_part digits ≡ true → list_all is_in_part (before_nonzero c digits) ≡ true
nonzero_in_part c [] here all =
    elim (cases_Bool (c == 48)) [
      | inl zero_here ↦ rw zero_here refl
      | inr other ↦ rw other (all_more is_in_part c [] here refl)
    ]
nonzero_in_part c (d ∷ digits) here all = all_more is_in_part c (d ∷ digits) here all

unended_in_part : (digits : List ℕ) → list_all is_in_part digits ≡ true
    → list_all is_in_part (without_last_zeros digits) ≡ true
unended_in_part [] all = refl
unended_in_part (c ∷ digits) all =
    let parts = and_parts (is_in_part c) (list_all is_in_part digits) all in
    nonzero_in_part c (without_last_zeros digits) parts.0 (unended_in_part digits parts.1)

fraction_in_part : (r : ℕ) → list_all is_in_part (fraction_digits r) ≡ true
unfolding fraction_digits
fraction_in_part r =
    unended_in_part (eight_decimals r)
    (glyphs (λ (place : ℕ). ((390625 * r) / place) % 10)
    (10000000 ∷ 1000000 ∷ 100000 ∷ 10000 ∷ 1000 ∷ 100 ∷ 10 ∷ 1 ∷ []))

point_in_part : (r : ℕ) → list_all is_in_part (point_text (fraction_of r)) ≡ true
point_in_part r =
    elim (cases_Bool (r == 0)) [
      | inl whole ↦ rw whole refl
      | inr other ↦
          rw other (all_more is_in_part 46 (fraction_digits r) refl (fraction_in_part r))
    ]

pub price_word : (n : ℕ) → n ≤ 255999 → list_all is_in_part (price_digits n) ≡ true
unfolding price_digits
price_word n most =
    all_append is_in_part (decimal (n / 256)) (point_text (fraction_of (n % 256)))
    (decimal_in_part (n / 256) (omega (arith, most))) (point_in_part (n % 256))

pub price_back : (n : ℕ) → price_of (price_digits n) ≡ Ok n
    → result_ok (price_of (price_digits n)) ≡ Some n
price_back n is = ap result_ok is
