-- The first place of a byte in a text.
use Rattle.std.proofs.Common.{◌≡◌, ℕ, ◌+◌, ◌≤◌, ◌==◌, Bool, cond, nat_lt, true, false, List, [], ◌∷◌, length, drop, sym, refl, arith, Some, None, inl, inr}
use Rattle.std.proofs.lemmas.Bool.Decides.{nat_tests}
use Rattle.std.proofs.lemmas.Bool.{cases_Bool}
use Rattle.std.specs.List.{after_first, position, position_or_len}
use Rattle.std.proofs.lemmas.List.{drop_all}

chosen_some : (b : Bool) (n place : ℕ) → cond b (Some n) None ≡ Some place → n ≡ place
chosen_some true n place h = cc
chosen_some false n place h = cc

chosen_none : (b : Bool) (n : ℕ) → cond b (Some n) None ≡ None → b ≡ false
chosen_none true n h = cc
chosen_none false n h = refl

pub place_within : (byte : ℕ) (text : List ℕ) → position_or_len (λ (c : ℕ). c == byte) text ≤ length text
place_within byte [] = omega arith
place_within byte (c ∷ text) =
    elim (cases_Bool (c == byte)) [
      | inl here ↦ rw here (omega arith)
      | inr other ↦ rw other (omega (arith, place_within byte text))
    ]

pub place_there : (byte : ℕ) (text : List ℕ) (place : ℕ) → position (λ (c : ℕ). c == byte) text ≡ Some place
    → place ≡ position_or_len (λ (c : ℕ). c == byte) text
place_there byte text place h =
    let p = λ (c : ℕ). c == byte in
    sym (chosen_some (nat_lt (position_or_len p text) (length text)) (position_or_len p text) place h)

pub place_nowhere : (byte : ℕ) (text : List ℕ) → position (λ (c : ℕ). c == byte) text ≡ None
    → length text ≡ position_or_len (λ (c : ℕ). c == byte) text
place_nowhere byte text h =
    let p = λ (c : ℕ). c == byte in
    let beyond : nat_lt (position_or_len p text) (length text) ≡ false = chosen_none (nat_lt (position_or_len p text) (length text)) (position_or_len p text) h in
    let within : length text ≤ position_or_len p text = grind (arith, nat_tests) in
    omega (arith, within, place_within byte text)

-- what stands behind it
pub behind_there : (byte : ℕ) (text : List ℕ) (place : ℕ) → position (λ (c : ℕ). c == byte) text ≡ Some place
    → drop (place + 1) text ≡ after_first (λ (c : ℕ). c == byte) text
behind_there byte text place h =
    let p = λ (c : ℕ). c == byte in
    let found : position_or_len p text ≡ place = chosen_some (nat_lt (position_or_len p text) (length text)) (position_or_len p text) place h in
    rw found refl

pub behind_nowhere : (byte : ℕ) (text : List ℕ) → position (λ (c : ℕ). c == byte) text ≡ None
    → [] ≡ after_first (λ (c : ℕ). c == byte) text
behind_nowhere byte text h =
    let p = λ (c : ℕ). c == byte in
    let len : length text ≡ position_or_len p text = place_nowhere byte text h in
    sym (drop_all (position_or_len p text + 1) text (omega (arith, len)))
