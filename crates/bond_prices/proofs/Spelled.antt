-- What the rest of a text spells, behind what was scanned of it: the loop of `read_decimal` keeps
-- it.
use Rattle.std.proofs.Common.{◌≡◌, ℕ, suc, ◌+◌, ◌-◌, ◌*◌, ◌^◌, ◌<◌, ◌≤◌, Bool, true, false, List}
use Rattle.std.proofs.Common.{[], ◌∷◌, length, Option, Some, None, refl, sym, ◌∙◌, ap, arith}
use Rattle.std.proofs.Common.{add-one, zero-add, if◌then◌else◌, ◌&&◌, lit<, get_or, drop, drop-cons}
use Rattle.std.proofs.lemmas.Bool.{lt-ltb, le-ltb, ne_eqb}
use Rattle.std.proofs.Math.Nat.{pow-suc, pow-le-pow_right, one-mul, mul_assoc, mul_comm}
use Rattle.std.specs.Prelude.{nat_lt, nat_le}
use Rattle.std.specs.Str.Parse.{digits_value_after}
use Rattle.std.specs.Char.{is_digit, digit_value}
use Rattle.std.specs.List.{list_all}
use Rattle.bond_prices.specs.Price.{Parts, digits_of, scale_of, cut_at_point}
use Rattle.bond_prices.specs.Decimal.{decimal_of}
use Rattle.bond_prices.specs.declared.decimal.Decimal.{Decimal}

-- the parts of a rest that stands before the point, or behind it
abbrev pub rest_parts : Bool → List ℕ → Parts
rest_parts false text = cut_at_point text
rest_parts true text = record { is_negative = false; whole = []; decimals = Some text }

-- whether the digits are lawful behind `count` others
abbrev pub lawful_after : ℕ → List ℕ → Bool
lawful_after count digits = list_all (λ c. is_digit c 10) digits && (nat_le 1 (count + length digits) && nat_le (count + length digits) 15)

-- the number of the digits behind `number`, which has `count` digits
abbrev pub digits_after : ℕ → ℕ → ℕ → List ℕ → Option Decimal
digits_after number count scale digits =
    if lawful_after count digits then Some (record { number = digits_value_after 10 number digits; scale = scale }) else None

-- the number that the rest spells behind `number`, which has `count` digits
abbrev pub spelled_after : ℕ → ℕ → ℕ → Bool → List ℕ → Option Decimal
spelled_after number count scale behind text =
    digits_after number count (scale * scale_of (rest_parts behind text)) (digits_of (rest_parts behind text))

pub spelled_after-start : (text : List ℕ) → spelled_after 0 0 1 false text ≡ decimal_of text
unfolding decimal_of
spelled_after-start text = simp (zero-add, one-mul)

-- the value of a digit
pub digit_value-digit : (c : ℕ) → 48 ≤ c → c ≤ 57 → digit_value c ≡ c - 48
digit_value-digit c low high = rw (le-ltb c 48 low, lt-ltb c 58 (omega arith)) refl

-- a digit is one
pub is_digit-digit : (c : ℕ) → 48 ≤ c → c ≤ 57 → is_digit c 10 ≡ true
is_digit-digit c low high = ap (λ v. nat_lt v 10) (digit_value-digit c low high) ∙ lt-ltb (c - 48) 10 (omega arith)

-- one digit more
digits_after-cons : (number count scale c : ℕ) (digits : List ℕ) → 48 ≤ c → c ≤ 57 → digits_after number count scale (c ∷ digits) ≡ digits_after (number * 10 + (c - 48)) (count + 1) scale digits
digits_after-cons number count scale c digits low high =
    let value : digit_value c ≡ c - 48 = digit_value-digit c low high in
    let test : is_digit c 10 ≡ true = is_digit-digit c low high in
    let more : count + suc (length digits) ≡ count + 1 + length digits = omega arith in
    rw (test, more, value) refl

-- a digit of the rest, scanned
pub spelled_after-digit : (number count scale c : ℕ) (behind : Bool) (text : List ℕ) → 48 ≤ c → c ≤ 57 → spelled_after number count scale behind (c ∷ text) ≡ spelled_after (number * 10 + (c - 48)) (count + 1) (if behind then scale * 10 else scale) behind text
spelled_after-digit number count scale c false text low high =
    rw (ne_eqb c 46 (omega arith)) (digits_after-cons number count (scale * scale_of (cut_at_point text)) c (digits_of (cut_at_point text)) low high)
spelled_after-digit number count scale c true text low high =
    let more : scale * 10 ^ suc (length text) ≡ scale * 10 * 10 ^ length text = ap (λ p. scale * p) (pow-suc 10 (length text) ∙ mul_comm (10 ^ length text) 10) ∙ sym (mul_assoc scale 10 (10 ^ length text)) in
    rw more (digits_after-cons number count (scale * 10 * 10 ^ length text) c text low high)

-- the same at an index
pub spelled_after-step : (text : List ℕ) (i number count scale digit : ℕ) (behind : Bool) → i < length text → 48 ≤ get_or text i 0 → get_or text i 0 ≤ 57 → digit ≡ get_or text i 0 - 48 → spelled_after (number * 10 + digit) (count + 1) (if behind then scale * 10 else scale) behind (drop (i + 1) text) ≡ spelled_after number count scale behind (drop i text)
spelled_after-step text i number count scale digit behind within low high is =
    let front : drop i text ≡ get_or text i 0 ∷ drop (i + 1) text = rw (add-one i) (drop-cons text i 0 within) in
    rw (is, front) (sym (spelled_after-digit number count scale (get_or text i 0) behind (drop (i + 1) text) low high))

-- a digit behind a number of `d` digits makes one of `d + 1`
pub push_below_power : (n digit d : ℕ) → n < 10 ^ d → digit ≤ 9 → n * 10 + digit < 10 ^ (d + 1)
push_below_power n digit d fits small = rw (add-one d, pow-suc 10 d) (omega arith)

pub scale_below_power : (n d : ℕ) → n ≤ 10 ^ d → n * 10 ≤ 10 ^ (d + 1)
scale_below_power n d fits = rw (add-one d, pow-suc 10 d) (omega arith)

pub scale_below_more : (n d : ℕ) → n ≤ 10 ^ d → n ≤ 10 ^ (d + 1)
scale_below_more n d fits = rw (add-one d, pow-suc 10 d) (omega arith)

-- a number of fewer digits is smaller
pub below_power : (n d most : ℕ) → n < 10 ^ d → d ≤ most → n < 10 ^ most
below_power n d most fits few = omega (arith, pow-le-pow_right {n = 10} (lit< tt) few)

pub most_power : (n d most : ℕ) → n ≤ 10 ^ d → d ≤ most → n ≤ 10 ^ most
most_power n d most fits few = omega (arith, pow-le-pow_right {n = 10} (lit< tt) few)
