-- A frame has at most 4,096 bytes.
use Rattle.std.proofs.Common.{◌≡◌, ℕ, ◌≤◌, true, nat_le, List, length, Option, Some, is_some, ap}
use Rattle.std.proofs.lemmas.Bool.{and_parts, false≢true}
use Rattle.std.proofs.lemmas.Bool.Decides.{nat_tests}
use Rattle.std.proofs.Common.{arith}
use Rattle.fix_fields.specs.Frame.{Field, body_of, builds, fields_of, frame_of, length_digits_of, sum_digits_of}
use Rattle.fix_fields.specs.declared.limits.TheConstants.{MOST_FRAME}
use Rattle.laws_sessions.proofs.Choices.{choice}

up_to : (n : ℕ) → nat_le n MOST_FRAME ≡ true → n ≤ 4096
up_to n h = grind (arith, nat_tests)

built_fits : (bytes length_digits sum_digits : List ℕ) (fields : List Field)
    → builds bytes length_digits sum_digits fields ≡ true → length bytes ≤ 4096
unfolding builds
built_fits bytes length_digits sum_digits fields h = up_to (length bytes) (and_parts _ (nat_le (length bytes) MOST_FRAME) h).1

pub frame_fits : (bytes : List ℕ) (fields : List Field) → frame_of bytes ≡ Some fields → length bytes ≤ 4096
unfolding frame_of
frame_fits bytes fields =
    choice (λ (x : Option (List Field)). x ≡ Some fields → length bytes ≤ 4096)
    (builds bytes (length_digits_of bytes) (sum_digits_of bytes) (fields_of (body_of bytes))) _ _
    (λ h is. built_fits bytes (length_digits_of bytes) (sum_digits_of bytes) (fields_of (body_of bytes)) h)
    (λ h is. absurd (false≢true (ap is_some is)))
