-- The text of a price in 32nds, as the code puts it together.
use Rattle.std.proofs.Common.{◌≡◌, ◌≢◌, ℕ, ◌+◌, ◌/◌, ◌%◌, List, [], ◌∷◌, ◌++◌, refl, arith}
use Rattle.std.proofs.Common.{append_assoc, lit<}
use Rattle.std.proofs.lemmas.List.{append-nil}
use Rattle.std.proofs.lemmas.Bool.{eq-eqb, ne_eqb}
use Rattle.std.proofs.Math.Nat.{mod-lt}
use Rattle.std.specs.Prelude.{◌==◌, decimal, if◌then◌else◌}
use Rattle.bond_prices.specs.ThirtySeconds.{two_digits, thirty_seconds, IsQuoted}

-- the text says its number
pub thirty_seconds-quoted : (n : ℕ) → IsQuoted (thirty_seconds n) n
unfolding thirty_seconds
thirty_seconds-quoted n =
    record {
      points = n / 256;
      parts = (n % 256) / 8;
      eighths = n % 8;
      built = refl;
      below_a_point = omega arith;
      below_a_part = mod-lt n (lit< tt);
      exact = omega arith;
    }

-- the points, the dash and two digits, character by character
pushed : (n : ℕ) (front first dash whole : List ℕ) → whole ≡ decimal (n / 256) → dash ≡ whole ++ 45 ∷ [] → first ≡ dash ++ (48 + ((n % 256) / 8) / 10) ∷ [] → front ≡ first ++ (48 + ((n % 256) / 8) % 10) ∷ [] → front ≡ decimal (n / 256) ++ 45 ∷ two_digits ((n % 256) / 8)
pushed n front first dash whole is dashed one two = rw (two, one, dashed, is, append_assoc, append_assoc) refl

-- the text of a price on a 32nd
pub quoted-part : (n : ℕ) (front first dash whole : List ℕ) → n % 8 ≡ 0 → whole ≡ decimal (n / 256) → dash ≡ whole ++ 45 ∷ [] → first ≡ dash ++ (48 + ((n % 256) / 8) / 10) ∷ [] → front ≡ first ++ (48 + ((n % 256) / 8) % 10) ∷ [] → front ≡ thirty_seconds n
unfolding thirty_seconds
quoted-part n front first dash whole none is dashed one two =
    rw (eq-eqb (n % 8) 0 none, append-nil) (pushed n front first dash whole is dashed one two)

-- the text of a price between two of them
pub quoted-eighths : (n sign : ℕ) (text front first dash whole : List ℕ) → n % 8 ≢ 0 → whole ≡ decimal (n / 256) → dash ≡ whole ++ 45 ∷ [] → first ≡ dash ++ (48 + ((n % 256) / 8) / 10) ∷ [] → front ≡ first ++ (48 + ((n % 256) / 8) % 10) ∷ [] → sign ≡ (if (n % 8) == 4 then 43 else 48 + n % 8) → text ≡ front ++ sign ∷ [] → text ≡ thirty_seconds n
unfolding thirty_seconds
quoted-eighths n sign text front first dash whole some is dashed one two signed last =
    rw (ne_eqb (n % 8) 0 some, last, signed, pushed n front first dash whole is dashed one two) refl
