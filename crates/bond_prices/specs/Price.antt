-- Prices as text: which texts are a price of how many 256ths, which fault each other text has, and
-- how a price is printed. A text is a list of bytes: 45 is '-', 46 is '.', 48 to 57 are the digits.
use Rattle.std.specs.Prelude.{◌≡◌, ◌≢◌, ℕ, ◌+◌, ◌*◌, ◌/◌, ◌%◌, ◌^◌, ◌<◌, ◌≤◌, ◌⊎◌, ◌==◌, ◌&&◌, ◌||◌}
use Rattle.std.specs.Prelude.{nat_lt, nat_le, Bool, true, false, if◌then◌else◌, List, [], ◌∷◌, ◌++◌}
use Rattle.std.specs.Prelude.{length, map, Option, Some, None, Result, Ok, Err, decimal}
use Rattle.std.specs.Str.Parse.{AllDigits, digits_value}
use Rattle.std.specs.Char.{is_digit}
use Rattle.std.specs.List.{list_all}
use Rattle.bond_prices.specs.declared.fault.PriceFault.{PriceFault}
use Rattle.bond_prices.specs.declared.fault.PriceFault.TheVariants.{Form, Range, Grid}

-- what a price is written with: a minus sign or none, the digits before the point, and the digits
-- behind it, or None where no point stands
pub record Parts : Type 0 where
  pub is_negative : Bool
  pub whole : List ℕ
  pub decimals : Option (List ℕ)

-- the text of the sign
abbrev pub sign_text : Bool → List ℕ
sign_text true = 45 ∷ []
sign_text false = []

-- the point and the digits behind it
abbrev pub point_text : Option (List ℕ) → List ℕ
point_text None = []
point_text (Some digits) = 46 ∷ digits

-- the text that the parts build
abbrev pub text_of : Parts → List ℕ
text_of p = sign_text p.is_negative ++ (p.whole ++ point_text p.decimals)

-- the digits behind the point
abbrev pub behind_point : Option (List ℕ) → List ℕ
behind_point None = []
behind_point (Some digits) = digits

-- all digits, in order
abbrev pub digits_of : Parts → List ℕ
digits_of p = p.whole ++ behind_point p.decimals

-- the digits read as one whole number
abbrev pub number_of : Parts → ℕ
number_of p = digits_value 10 (digits_of p)

-- ten to the number of digits behind the point: the price is number_of p / scale_of p points
abbrev pub scale_of : Parts → ℕ
scale_of p = 10 ^ length (behind_point p.decimals)

-- the form of a price: 1 to 15 digits
pub record IsLawful (p : Parts) : Type 0 where
  pub all_digits : AllDigits 10 (digits_of p)
  pub at_least_one : 1 ≤ length (digits_of p)
  pub at_most : length (digits_of p) ≤ 15

-- the text has the form of a price
pub record IsPriceForm (text : List ℕ) : Type 0 where
  pub parts : Parts
  pub lawful : IsLawful parts
  pub built : text ≡ text_of parts

-- the text is a price of n 256ths, exactly
pub record IsReadAs (text : List ℕ) (n : ℕ) : Type 0 where
  pub parts : Parts
  pub lawful : IsLawful parts
  pub built : text ≡ text_of parts
  pub unsigned : parts.is_negative ≡ false
  pub exact : 256 * number_of parts ≡ n * scale_of parts
  pub at_least_one : 1 ≤ n
  pub at_most : n ≤ 255999

-- the text has the form of a price, and its number is negative, or below one 256th, or above
-- 255,999 of them
pub record IsOutOfRange (text : List ℕ) : Type 0 where
  pub parts : Parts
  pub lawful : IsLawful parts
  pub built : text ≡ text_of parts
  pub outside :
      (parts.is_negative ≡ true)
      ⊎ (256 * number_of parts < scale_of parts)
      ⊎ (255999 * scale_of parts < 256 * number_of parts)

-- the text has the form of a price and its number is in range, but it is no whole number of 256ths
pub record IsOffGrid (text : List ℕ) : Type 0 where
  pub form : IsPriceForm text
  pub in_range : ¬ IsOutOfRange text
  pub read_as_none : (n : ℕ) → ¬ IsReadAs text n

-- an unsigned text, cut at its first point
abbrev pub cut_at_point : List ℕ → Parts
cut_at_point [] = record { is_negative = false; whole = []; decimals = None }
cut_at_point (c ∷ text) =
    if c == 46
    then record { is_negative = false; whole = []; decimals = Some text }
    else record {
      is_negative = false;
      whole = c ∷ (cut_at_point text).whole;
      decimals = (cut_at_point text).decimals;
    }

-- the parts that build a text, whatever its bytes are
abbrev pub parts_of : List ℕ → Parts
parts_of [] = cut_at_point []
parts_of (c ∷ text) =
    if c == 45
    then record {
      is_negative = true;
      whole = (cut_at_point text).whole;
      decimals = (cut_at_point text).decimals;
    }
    else cut_at_point (c ∷ text)

-- whether the digits are lawful
abbrev pub are_lawful : List ℕ → Bool
are_lawful digits =
    list_all (λ c. is_digit c 10) digits
    && (nat_le 1 (length digits) && nat_le (length digits) 15)

-- what scaled / scale 256ths are
abbrev pub price_at : ℕ → ℕ → Result ℕ PriceFault
price_at scaled scale =
    if nat_lt scaled scale || nat_lt (255999 * scale) scaled
    then Err Range
    else (if (scaled % scale) == 0 then Ok (scaled / scale) else Err Grid)

-- what the parts are
abbrev pub price_of_parts : Parts → Result ℕ PriceFault
price_of_parts p =
    if are_lawful (digits_of p)
    then (if p.is_negative then Err Range else price_at (256 * number_of p) (scale_of p))
    else Err Form

-- what the text is read as: a number of 256ths, or its fault
unfoldable pub price_of : List ℕ → Result ℕ PriceFault
price_of text = price_of_parts (parts_of text)

-- r 256ths in eight decimals: 256 divides 10^8, and 10^8 / 256 is 390625
abbrev pub eight_decimals : ℕ → List ℕ
eight_decimals r =
    map (λ place. 48 + ((390625 * r) / place) % 10)
    (10000000 ∷ 1000000 ∷ 100000 ∷ 10000 ∷ 1000 ∷ 100 ∷ 10 ∷ 1 ∷ [])

-- digits before others, of which a zero that would stand last is left out
abbrev pub before_nonzero : ℕ → List ℕ → List ℕ
before_nonzero c [] = if c == 48 then [] else c ∷ []
before_nonzero c (d ∷ digits) = c ∷ d ∷ digits

-- the digits without the zeros that stand last
abbrev pub without_last_zeros : List ℕ → List ℕ
without_last_zeros [] = []
without_last_zeros (c ∷ digits) = before_nonzero c (without_last_zeros digits)

-- the decimals of r 256ths
unfoldable pub fraction_digits : ℕ → List ℕ
fraction_digits r = without_last_zeros (eight_decimals r)

-- what stands behind the point, and None where no point stands
abbrev pub fraction_of : ℕ → Option (List ℕ)
fraction_of r = if r == 0 then None else Some (fraction_digits r)

-- the text of n 256ths: whole points without leading zeros, and the fraction without trailing zeros
unfoldable pub price_digits : ℕ → List ℕ
price_digits n = decimal (n / 256) ++ point_text (fraction_of (n % 256))

-- no point, or decimals of which there is a last, and it is not zero
abbrev pub EndsInNonzero : Option (List ℕ) → Type 0
EndsInNonzero None = Unit {0}
EndsInNonzero (Some digits) =
    (front : List ℕ) × (last : ℕ) × (digits ≡ front ++ last ∷ []) × (last ≢ 48)

-- the text is read as n and has no digit to spare: no leading zero but a lone one, and no trailing
-- zero
pub record IsShortest (text : List ℕ) (n : ℕ) : Type 0 where
  pub read : IsReadAs text n
  pub fraction : Option (List ℕ)
  pub built : text ≡ decimal (n / 256) ++ point_text fraction
  pub trimmed : EndsInNonzero fraction
