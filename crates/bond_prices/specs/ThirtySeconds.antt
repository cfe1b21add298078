-- Prices in 32nds, as a trader says them: 99-161 is 99 points, sixteen 32nds and an eighth of a
-- 32nd. A text is a list of bytes: 43 is '+', 45 is '-', 48 to 57 are the digits.
use Rattle.std.specs.Prelude.{ℕ, ◌+◌, ◌*◌, ◌/◌, ◌%◌, ◌<◌, ◌≡◌, ◌==◌, if◌then◌else◌}
use Rattle.std.specs.Prelude.{List, [], ◌∷◌, ◌++◌, decimal}

-- two digits, with a leading zero below ten
abbrev pub two_digits : ℕ → List ℕ
two_digits n = (48 + n / 10) ∷ (48 + n % 10) ∷ []

-- eighths of a 32nd: one digit, but '+' for four, which are half of it, and nothing for none
abbrev pub eighths_text : ℕ → List ℕ
eighths_text eighths =
    if eighths == 0 then [] else ((if eighths == 4 then 43 else 48 + eighths) ∷ [])

-- whole points, a dash, two digits of 32nds, and eighths of a 32nd
abbrev pub quoted : ℕ → ℕ → ℕ → List ℕ
quoted points parts eighths = decimal points ++ 45 ∷ two_digits parts ++ eighths_text eighths

-- the text of n 256ths: 256 are a point, and 8 a 32nd
unfoldable pub thirty_seconds : ℕ → List ℕ
thirty_seconds n = quoted (n / 256) ((n % 256) / 8) (n % 8)

-- the text says this number of 256ths in 32nds
pub record IsQuoted (text : List ℕ) (n : ℕ) : Type 0 where
  pub points : ℕ
  pub parts : ℕ
  pub eighths : ℕ
  pub built : text ≡ quoted points parts eighths
  pub below_a_point : parts < 32
  pub below_a_part : eighths < 8
  pub exact : n ≡ 256 * points + 8 * parts + eighths
