-- The tag of a field at the front of its piece.
use Rattle.std.proofs.Common.{◌≡◌, ◌≤◌, ◌<◌, ◌+◌, ◌==◌, ℕ, zero, suc, not, Bool, true, false, List, [], ◌∷◌, length, take, drop, get_or, Some, None, cond, nat_le, nat_lt, ◌&&◌}
use Rattle.std.proofs.Common.{refl, sym, ◌∙◌, ap, subst, arith, length-take}
use Rattle.std.specs.List.{list_all}
use Rattle.std.specs.Char.{is_ascii_digit}
use Rattle.std.specs.Str.Parse.{digits_value}
use Rattle.std.proofs.lemmas.List.{get_or-take}
use Rattle.std.proofs.lemmas.List.Sums.{position_or_len_is}
use Rattle.std.proofs.lemmas.Bool.Decides.{nat_tests}
use Rattle.fix_sessions.specs.Fields.{leads, is_tag_text, equals_place, field_at, piece_field}
use Rattle.fix_sessions.proofs.NumberLemmas.{digit_at, no_equals}

-- where a byte stands that none before it is
place_is : (piece : List ℕ) (k : ℕ) → k < length piece → list_all is_ascii_digit (take k piece) ≡ true → get_or piece k 0 ≡ 61
    → equals_place piece ≡ Some k
place_is piece k inside all is =
    let p = λ (byte : ℕ). byte == 61 in
    let digit : (j : ℕ) → j < k → is_ascii_digit (get_or piece j 0) ≡ true =
    λ j less. subst (λ c. is_ascii_digit c ≡ true) (get_or-take k piece j 0 less) (digit_at (take k piece) j (omega (arith, length-take k piece, less, inside)) all) in
    let before : (j : ℕ) → j < k → p (get_or piece j 0) ≡ false = λ j less. no_equals (get_or piece j 0) (digit j less) in
    let here : k < length piece → p (get_or piece k 0) ≡ true = λ _. ap p is in
    let place = position_or_len_is p piece k 0 (omega (arith, inside)) before here in
    let test : nat_lt k (length piece) ≡ true = grind (arith, nat_tests) in
    ap (λ n. cond (nat_lt n (length piece)) (Some n) None) place ∙ ap (λ b. cond b (Some k) None) test

lead_of : (piece : List ℕ) (k : ℕ) → 1 ≤ k → (get_or piece 0 0 == 48) ≡ false → leads 48 (take k piece) ≡ false
lead_of piece zero some other = absurd (omega (arith, some))
lead_of [] (suc k) some other = refl
lead_of (x ∷ xs) (suc k) some other = other

and4 : (a b c d : Bool) → a ≡ true → b ≡ true → c ≡ true → d ≡ false → (a && b && c && not d) ≡ true
and4 a b c d in_a in_b in_c in_d = rw in_a (rw in_b (rw in_c (rw in_d refl)))

tag_text_is : (piece : List ℕ) (k : ℕ) → 1 ≤ k → k ≤ 9 → k < length piece → list_all is_ascii_digit (take k piece) ≡ true → (get_or piece 0 0 == 48) ≡ false
    → is_tag_text (take k piece) ≡ true
tag_text_is piece k some few inside all other =
    let digits = take k piece in
    let len : length digits ≡ k = omega (arith, length-take k piece, inside) in
    let one : nat_le 1 (length digits) ≡ true = grind (arith, nat_tests) in
    let nine : nat_le (length digits) 9 ≡ true = grind (arith, nat_tests) in
    and4 (nat_le 1 (length digits)) (nat_le (length digits) 9) (list_all is_ascii_digit digits) (leads 48 digits)
    one nine all (lead_of piece k some other)

pub tag_there : (piece : List ℕ) (k number : ℕ) → 1 ≤ k → k ≤ 9 → k < length piece → list_all is_ascii_digit (take k piece) ≡ true
    → number ≡ digits_value 10 (take k piece) → get_or piece k 0 ≡ 61 → (get_or piece 0 0 == 48) ≡ false
    → piece_field piece ≡ Some (number, drop (k + 1) piece)
tag_there piece k number some few inside all value equals other =
    ap (field_at piece) (place_is piece k inside all equals)
    ∙ ap (λ b. cond b (Some (digits_value 10 (take k piece), drop (k + 1) piece)) None) (tag_text_is piece k some few inside all other)
    ∙ ap (λ n. Some (n, drop (k + 1) piece)) (sym value)
