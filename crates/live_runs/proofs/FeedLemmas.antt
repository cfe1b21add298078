-- Lines among the bytes of an input: their ends, and lines that go on.
use Rattle.std.proofs.Common.{◌≡◌, ℕ, ◌+◌, ◌<◌, ◌==◌, Bool, true, false, List, [], ◌∷◌, ◌++◌}
use Rattle.std.proofs.Common.{length, cond, refl, ap, ◌∙◌, arith, inl, inr}
use Rattle.std.specs.List.{count_by, list_any}
use Rattle.std.proofs.lemmas.Bool.{cases_Bool}
use Rattle.std.proofs.lemmas.List.Sums.{sum_by_push}
use Rattle.input_lines.specs.Lines.{lines_of}

-- Bytes.

abbrev is_end : ℕ → Bool
is_end c = c == 10

-- the line feeds among bytes
pub feeds_end : (bytes : List ℕ) → count_by is_end (bytes ++ 10 ∷ []) ≡ count_by is_end bytes + 1
feeds_end bytes = sum_by_push (λ c. cond (is_end c) 1 0) bytes 10

pub feeds_stay : (bytes : List ℕ) (c : ℕ) → (c == 10) ≡ false → count_by is_end (bytes ++ c ∷ []) ≡ count_by is_end bytes
feeds_stay bytes c goes =
    sum_by_push (λ x. cond (is_end x) 1 0) bytes c ∙ ap (λ b. count_by is_end bytes + cond b 1 0) goes ∙ omega arith

onto : (c : ℕ) (text front : List ℕ) (parts : List (List ℕ)) → (c == 10) ≡ false → lines_of text ≡ front ∷ parts → lines_of (c ∷ text) ≡ (c ∷ front) ∷ parts
onto c text front parts goes is = rw (goes, is) refl

none_in : (c : ℕ) (text : List ℕ) → list_any is_end (c ∷ text) ≡ false → ((c == 10) ≡ false) × (list_any is_end text ≡ false)
none_in c text none =
    elim (cases_Bool (c == 10)) [
      | inl here ↦ (let never : true ≡ false = rw here at none in cc)
      | inr other ↦ (other, rw other at none)
    ]

-- a line that has begun, and its end
pub line_closed : (begun tail : List ℕ) → list_any is_end begun ≡ false → lines_of (begun ++ 10 ∷ tail) ≡ begun ∷ lines_of tail
line_closed [] tail none = refl
line_closed (c ∷ begun) tail none =
    let parts = none_in c begun none in
    onto c (begun ++ 10 ∷ tail) begun (lines_of tail) parts.0 (line_closed begun tail parts.1)

-- a last line without its end
pub line_last : (c : ℕ) (begun : List ℕ) → list_any is_end (c ∷ begun) ≡ false → lines_of (c ∷ begun) ≡ (c ∷ begun) ∷ []
line_last c [] none = let parts = none_in c [] none in rw parts.0 refl
line_last c (d ∷ begun) none =
    let parts = none_in c (d ∷ begun) none in
    onto c (d ∷ begun) (d ∷ begun) [] parts.0 (line_last d begun parts.1)

-- a line that goes on is at least as long as what has begun and its next byte
pub record GoesOn (begun : List ℕ) (all : List (List ℕ)) : Type 0 where
  pub line : List ℕ
  pub behind : List (List ℕ)
  pub is : all ≡ line ∷ behind
  pub long : length begun < length line

first_of : (c : ℕ) (tail : List ℕ) (lines : List (List ℕ)) → lines_of tail ≡ lines → (c == 10) ≡ false → GoesOn [] (lines_of (c ∷ tail))
first_of c tail [] is goes = record { line = c ∷ []; behind = []; is = rw (goes, is) refl; long = omega arith }
first_of c tail (line ∷ behind) is goes = record { line = c ∷ line; behind = behind; is = rw (goes, is) refl; long = omega arith }

pub line_goes_on : (begun : List ℕ) (c : ℕ) (tail : List ℕ) → list_any is_end begun ≡ false → (c == 10) ≡ false → GoesOn begun (lines_of (begun ++ c ∷ tail))
line_goes_on [] c tail none goes = first_of c tail (lines_of tail) refl goes
line_goes_on (d ∷ begun) c tail none goes =
    let parts = none_in d begun none in
    let behind = line_goes_on begun c tail parts.1 goes in
    record {
      line = d ∷ behind.line;
      behind = behind.behind;
      is = onto d (begun ++ c ∷ tail) behind.line behind.behind parts.0 behind.is;
      long = (let more = behind.long in omega (arith, more));
    }
