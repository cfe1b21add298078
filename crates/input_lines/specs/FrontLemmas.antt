-- A byte more in front of a text, and a line more in front of others.
use Rattle.std.proofs.Common.{◌≡◌, ℕ, ◌+◌, ◌==◌, true, false, List, ◌∷◌, drop, take, ap, ◌∙◌, refl, arith}
use Rattle.std.proofs.Common.{suc, add-one}
use Rattle.std.proofs.Math.Nat.{add_comm}
use Rattle.std.specs.List.{before_first, after_first, position_or_len}
use Rattle.input_lines.specs.Lines.{is_skipped, spoken_from}

-- one character more in front, where it is not the byte
place_skip : (byte c : ℕ) (text : List ℕ) → (c == byte) ≡ false → position_or_len (λ (d : ℕ). d == byte) (c ∷ text) ≡ suc (position_or_len (λ (d : ℕ). d == byte) text)
place_skip byte c text other = rw other (add_comm 1 (position_or_len (λ (d : ℕ). d == byte) text) ∙ add-one (position_or_len (λ (d : ℕ). d == byte) text))

pub before_skip : (byte c : ℕ) (text : List ℕ) → (c == byte) ≡ false → before_first (λ (d : ℕ). d == byte) (c ∷ text) ≡ c ∷ before_first (λ (d : ℕ). d == byte) text
before_skip byte c text other = ap (λ n. take n (c ∷ text)) (place_skip byte c text other)

pub after_skip : (byte c : ℕ) (text : List ℕ) → (c == byte) ≡ false → after_first (λ (d : ℕ). d == byte) (c ∷ text) ≡ after_first (λ (d : ℕ). d == byte) text
after_skip byte c text other =
    let n = position_or_len (λ (d : ℕ). d == byte) text in
    let place : position_or_len (λ (d : ℕ). d == byte) (c ∷ text) + 1 ≡ suc (n + 1) = ap (λ m. m + 1) (place_skip byte c text other) ∙ omega arith in
    ap (λ m. drop m (c ∷ text)) place

-- lines that are not skipped
pub spoken_skip : (k : ℕ) (line : List ℕ) (lines : List (List ℕ)) → is_skipped line ≡ true → spoken_from k (line ∷ lines) ≡ spoken_from (k + 1) lines
spoken_skip k line lines skipped = rw skipped refl

pub spoken_stop : (k : ℕ) (line : List ℕ) (lines : List (List ℕ)) → is_skipped line ≡ false → spoken_from k (line ∷ lines) ≡ (k, line) ∷ spoken_from (k + 1) lines
spoken_stop k line lines spoken = rw spoken refl
