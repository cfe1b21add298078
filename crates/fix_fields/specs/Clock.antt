-- The part of a UTCTimestamp behind the date.
use Rattle.std.specs.Prelude.{◌≡◌, ℕ, ◌+◌, ◌*◌, ◌%◌, ◌<◌, ◌≤◌, List, ◌∷◌, ◌++◌, ◌⊎◌}
use Rattle.fix_fields.specs.declared.limits.TheConstants.{A_DAY}
use Rattle.fix_fields.specs.Frame.{three_digits}
use Rattle.fix_fields.specs.UtcTimestamp.{clock_text}

-- two bytes are the digits of n
pub record IsTwoDigits (n tens units : ℕ) : Type 0 where
  pub tens_in : (48 ≤ tens) × (tens ≤ 57)
  pub units_in : (48 ≤ units) × (units ≤ 57)
  pub value : n + 528 ≡ tens * 10 + units

-- a dash and a time of day in one of its two spellings
pub record IsClock (n : ℕ) (text : List ℕ) : Type 0 where
  pub moment : n < A_DAY
  pub spelling : (text ≡ 45 ∷ (clock_text n ++ (46 ∷ three_digits (n % 1000))))
      ⊎ ((n % 1000 ≡ 0) × (text ≡ 45 ∷ clock_text n))
