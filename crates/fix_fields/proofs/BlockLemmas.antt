-- The first byte of its kind, looked for 16 bytes at a time.
use Rattle.std.proofs.Common.{◌≡◌, ℕ, ◌+◌, ◌<◌, ◌≤◌, ◌==◌, false, List, length, get_or, sym, arith}
use Rattle.std.proofs.Common.{inl, inr}
use Rattle.std.proofs.lemmas.Bool.{cases_lt}
use Rattle.std.proofs.lemmas.List.Sums.{position_or_len_is}
use Rattle.std.proofs.lemmas.Simd.{run_in_chunk_fails, run_in_chunk_stops}
use Rattle.std.specs.Simd.Lanes.{chunk}
use Rattle.fix_fields.proofs.PlaceLemmas.{place_of}

-- it stands neither in front of a block nor in front of its first place there
pub none_in_block : (c : ℕ) (xs : List ℕ) (i r : ℕ) → i + 16 ≤ length xs
    → ((k : ℕ) → k < i → (get_or xs k 0 == c) ≡ false) → r ≡ place_of c (chunk i 16 xs)
    → (k : ℕ) → k < i + r → (get_or xs k 0 == c) ≡ false
none_in_block c xs i r room none counted k less =
    elim (cases_lt k i) [
      | inl before ↦ none k before
      | inr behind ↦ run_in_chunk_fails (λ x. x == c) xs i 16 r 0 room counted k behind less
    ]

-- so that this place is the first of all
pub place_in_block : (c : ℕ) (xs : List ℕ) (i r : ℕ) → i + 16 ≤ length xs
    → ((k : ℕ) → k < i → (get_or xs k 0 == c) ≡ false) → r ≡ place_of c (chunk i 16 xs) → r < 16
    → i + r ≡ place_of c xs
place_in_block c xs i r room none counted short =
    sym (position_or_len_is (λ x. x == c) xs (i + r) 0 (omega arith) (none_in_block c xs i r room none counted)
    (λ _. run_in_chunk_stops (λ x. x == c) xs i 16 r 0 room counted short))
