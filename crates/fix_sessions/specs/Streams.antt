-- A message as bytes, whoever wrote it, and what stands where in a stream.
use Rattle.std.specs.Prelude.{◌≡◌, ◌≤◌, ◌<◌, ℕ, ◌+◌, ◌%◌, true, List, [], ◌∷◌, ◌++◌, length, drop, codes, sum}
use Rattle.std.specs.List.{list_all}
use Rattle.std.specs.Char.{is_ascii_digit}
use Rattle.std.specs.Str.Parse.{digits_value}
use Rattle.fix_fields.specs.Frame.{end_text, three_digits}
use Rattle.fix_sessions.specs.Cuts.{front_of, is_end, is_version}
use Rattle.fix_sessions.specs.declared.cuts.Front.TheVariants as front
use Rattle.fix_sessions.specs.declared.cuts.TheConstants.{MOST_MESSAGE}

-- `8=V`, SOH, `9=L`, SOH, and what stands behind it
abbrev pub begun : List ℕ → List ℕ → List ℕ → List ℕ
begun version digits behind =
    codes "8=" ++ (version ++ (1 ∷ (codes "9=" ++ (digits ++ (1 ∷ behind)))))

-- V is a BeginString, and L, in 1 to 6 digits, the length of the body
pub record AreParts (version digits body : List ℕ) : Type 0 where
  pub version_is : is_version version ≡ true
  pub all_digits : list_all is_ascii_digit digits ≡ true
  pub some : 1 ≤ length digits
  pub few : length digits ≤ 6
  pub length_is : digits_value 10 digits ≡ length body
  pub fits : length (begun version digits body) + 7 ≤ MOST_MESSAGE

-- a message: its parts, and behind them `10=` with the sum of all bytes before it
pub record IsMessage (bytes : List ℕ) : Type 0 where
  pub version : List ℕ
  pub digits : List ℕ
  pub body : List ℕ
  pub parts : AreParts version digits body
  pub text : bytes ≡ begun version digits body ++ end_text (three_digits (sum (begun version digits body) % 256))

-- a message with a wrong sum: it was spoilt on its way
pub record IsSpoilt (bytes : List ℕ) : Type 0 where
  pub version : List ℕ
  pub digits : List ℕ
  pub body : List ℕ
  pub closing : List ℕ
  pub parts : AreParts version digits body
  pub closes : is_end closing ≡ true
  pub wrong : (closing ≡ end_text (three_digits (sum (begun version digits body) % 256))) → ⊥
  pub text : bytes ≡ begun version digits body ++ closing

-- none of some bytes begins what may be a message, with what stands behind them
abbrev pub BeginNothing : List ℕ → List ℕ → Type 0
BeginNothing [] behind = Unit {0}
BeginNothing (byte ∷ bytes) behind =
    (front_of ((byte ∷ bytes) ++ behind) ≡ front.Garbled) × BeginNothing bytes behind

-- a place within a message with a wrong sum
pub record IsWithinSpoilt (bytes : List ℕ) (place : ℕ) : Type 0 where
  pub start : ℕ
  pub len : ℕ
  pub wrong : front_of (drop start bytes) ≡ front.Wrong len
  pub behind_start : start < place
  pub before_end : place < start + len
