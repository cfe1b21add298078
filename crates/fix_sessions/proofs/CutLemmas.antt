-- Cutting a text at the first place of a byte, and at the last.
use Rattle.std.proofs.Common.{◌≡◌, ◌≢◌, ℕ, ◌+◌, ◌-◌, ◌<◌, ◌≤◌, ◌==◌, Bool, cond, nat_lt, true, false, not, List}
use Rattle.std.proofs.Common.{[], length, take, drop, get_or, All, ap, sym, refl, arith, Some, None}
use Rattle.std.proofs.lemmas.Bool.{eq-eqb, ne_eqb}
use Rattle.std.proofs.lemmas.Bool.Decides.{nat_tests}
use Rattle.std.specs.List.{before_first, before_last, after_first, position, position_or_len, suffix_len}
use Rattle.std.proofs.lemmas.List.{take_all, drop_all}
use Rattle.std.proofs.lemmas.List.Sums.{suffix_len_is}

chosen_some : (b : Bool) (n place : ℕ) → cond b (Some n) None ≡ Some place → n ≡ place
chosen_some true n place h = cc
chosen_some false n place h = cc

chosen_none : (b : Bool) (n : ℕ) → cond b (Some n) None ≡ None → b ≡ false
chosen_none true n h = cc
chosen_none false n h = refl

-- a text cut at the first place of a byte, and one that has none
pub cut_there : (byte : ℕ) (text : List ℕ) (place : ℕ) → position (λ (c : ℕ). c == byte) text ≡ Some place
    → (take place text ≡ before_first (λ (c : ℕ). c == byte) text) × (drop (place + 1) text ≡ after_first (λ (c : ℕ). c == byte) text)
cut_there byte text place h =
    let p = λ (c : ℕ). c == byte in
    let found : position_or_len p text ≡ place = chosen_some (nat_lt (position_or_len p text) (length text)) (position_or_len p text) place h in
    rw found (refl, refl)

pub cut_nowhere : (byte : ℕ) (text : List ℕ) → position (λ (c : ℕ). c == byte) text ≡ None
    → (text ≡ before_first (λ (c : ℕ). c == byte) text) × ([] ≡ after_first (λ (c : ℕ). c == byte) text)
cut_nowhere byte text h =
    let p = λ (c : ℕ). c == byte in
    let beyond : nat_lt (position_or_len p text) (length text) ≡ false = chosen_none (nat_lt (position_or_len p text) (length text)) (position_or_len p text) h in
    let within : length text ≤ position_or_len p text = grind (arith, nat_tests) in
    (sym (take_all (position_or_len p text) text within), sym (drop_all (position_or_len p text + 1) text (omega arith)))

-- and at the last place of a byte
pub cut_at_last : (byte : ℕ) (text : List ℕ) (place : ℕ) → place < length text → get_or text place 0 ≡ byte
    → ((k : ℕ) → place + 1 ≤ k → k < length text → get_or text k 0 ≢ byte)
    → take place text ≡ before_last (λ (c : ℕ). c == byte) text
cut_at_last byte text place within here behind =
    let other = λ (c : ℕ). not (c == byte) in
    let back : place + 1 - 1 ≡ place = omega arith in
    let count : suffix_len other text ≡ length text - (place + 1) =
    suffix_len_is other text (place + 1) 0 (omega (arith, within))
    (λ k over in_text. ap not (ne_eqb (get_or text k 0) byte (behind k over in_text)))
    (λ some. rw back (ap not (eq-eqb (get_or text place 0) byte here))) in
    let before : place ≡ length text - suffix_len other text - 1 = omega (arith, count, within) in
    ap (λ n. take n text) before

pub cut_at_none : (byte : ℕ) (text : List ℕ) → All (λ c. c ≢ byte) text
    → [] ≡ before_last (λ (c : ℕ). c == byte) text
cut_at_none byte text none =
    let other = λ (c : ℕ). not (c == byte) in
    let count : suffix_len other text ≡ length text - 0 =
    suffix_len_is other text 0 0 (omega arith)
    (λ k over in_text. ap not (ne_eqb (get_or text k 0) byte (none k 0 in_text)))
    (λ some. absurd (omega (arith, some))) in
    let before : 0 ≡ length text - suffix_len other text - 1 = omega (arith, count) in
    ap (λ n. take n text) before
