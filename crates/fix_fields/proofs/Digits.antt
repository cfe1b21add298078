-- Numbers in decimal, as they stand at the front of a text.
use Rattle.std.proofs.Common.{◌≡◌, ℕ, ◌+◌, ◌-◌, ◌*◌, ◌<◌, ◌≤◌, true, false, List, [], ◌∷◌, ◌++◌}
use Rattle.std.proofs.Common.{length, take, get_or, sym, refl, ap₂, arith, inl, inr, zero, suc}
use Rattle.std.proofs.Common.{add-one}
use Rattle.std.specs.Char.{is_ascii_digit, digit_value}
use Rattle.std.specs.List.{prefix_len}
use Rattle.std.specs.Str.{all_ascii_digits}
use Rattle.std.specs.Str.Parse.{AllDigits, digits_value}
use Rattle.std.proofs.lemmas.Bool.Decides.{nat_tests}
use Rattle.std.proofs.lemmas.Int.Digits.{digits_value_more}
use Rattle.std.proofs.lemmas.Str.Parse.{IsNumeralModel, numerals_by_value, tells_digits}
use Rattle.std.proofs.lemmas.Str.Parse.{tells_all_ascii_digits, digit_from_value}
use Rattle.std.proofs.lemmas.Str.Parse.{digits_value_short, tells_by_index}
use Rattle.std.specs.Int.{IsInRange}
use Rattle.std.proofs.lemmas.Bool.{cases_Bool}
use Rattle.std.proofs.lemmas.List.{get_or-take, length-take, length-take-le}
use Rattle.std.proofs.lemmas.List.Sums.{prefix_len_is}
use Rattle.std.proofs.Math.Nat.{add_comm}
use Rattle.std.proofs.lemmas.Str.{digit_value_digit}

-- two texts are one where their first bytes are, and what stands behind these
pub cons_same : {x y : ℕ} {xs ys : List ℕ} → x ≡ y → xs ≡ ys → x ∷ xs ≡ y ∷ ys
cons_same first behind = ap₂ (λ x xs. x ∷ xs) first behind

pub plain : IsNumeralModel (AllDigits 10) (digits_value 10)
plain = numerals_by_value (AllDigits 10) tells_digits

pub tested : IsNumeralModel (λ digits. all_ascii_digits digits ≡ true) (digits_value 10)
tested = numerals_by_value (λ digits. all_ascii_digits digits ≡ true) tells_all_ascii_digits

-- a digit passes the test of a digit
pub is_digit : (c : ℕ) → digit_value c < 10 → is_ascii_digit c ≡ true
is_digit c h = let r = digit_from_value c h in grind (arith, nat_tests)

-- and what passes it is one
pub digit_is : (c : ℕ) → is_ascii_digit c ≡ true → digit_value c < 10
digit_is c h = grind (arith, nat_tests)

-- the digits at the front of a text are all that are counted, where there are not more than most
pub count_of : (most : ℕ) (digits : List ℕ) (c : ℕ) (behind : List ℕ) → AllDigits 10 digits → length digits ≤ most
    → is_ascii_digit c ≡ false → prefix_len is_ascii_digit (take most (digits ++ c ∷ behind)) ≡ length digits
count_of zero [] c behind all few stop = refl
count_of (suc most) [] c behind all few stop = rw stop refl
count_of zero (d ∷ digits) c behind all few stop = absurd (omega arith)
count_of (suc most) (d ∷ digits) c behind all few stop =
    rw (is_digit d all.0, count_of most digits c behind all.1 (omega arith) stop) (omega arith)

-- what is counted are digits
pub counted_digits : (most : ℕ) (text : List ℕ) → AllDigits 10 (take (prefix_len is_ascii_digit (take most text)) text)
counted_digits zero text = tt
counted_digits (suc most) [] = tt
counted_digits (suc most) (c ∷ text) =
    elim (cases_Bool (is_ascii_digit c)) [
      | inl digit ↦ rw (digit, add_comm 1 (prefix_len is_ascii_digit (take most text)), add-one) (digit_is c digit, counted_digits most text)
      | inr other ↦ rw other tt
    ]

-- the same by index
pub digits_from_reads : (text : List ℕ) (n : ℕ) → n ≤ length text
    → ((k : ℕ) → k < n → is_ascii_digit (get_or text k 0) ≡ true) → AllDigits 10 (take n text)
digits_from_reads text n fits each =
    (numerals_by_value (λ digits. (i : ℕ) → i < length digits → IsInRange 48 57 (get_or digits i 0)) tells_by_index).to (take n text)
    (λ i below.
    let inside : i < n = omega (arith, length-take-le n text fits) in
    let test = each i inside in
    rw (get_or-take n text i 0 inside) (digit_from_value (get_or text i 0) (digit_is (get_or text i 0) test)))

-- a number of at most eight digits
pub small : (text : List ℕ) (n : ℕ) → n ≤ length text → n ≤ 8
    → ((k : ℕ) → k < n → is_ascii_digit (get_or text k 0) ≡ true) → digits_value 10 (take n text) < 100000000
small text n fits few each =
    digits_value_short plain (take n text) 8 (digits_from_reads text n fits each) (omega (arith, length-take-le n text fits))

-- a count of digits that stops at its bound, at the end, or at another byte
pub counted : (most : ℕ) (text : List ℕ) (n : ℕ) → n ≤ most → n ≤ length text
    → ((k : ℕ) → k < n → is_ascii_digit (get_or text k 0) ≡ true)
    → (n < most → n < length text → is_ascii_digit (get_or text n 0) ≡ false)
    → n ≡ prefix_len is_ascii_digit (take most text)
counted most text n below fits each stop =
    sym (prefix_len_is is_ascii_digit (take most text) n 0 (omega (arith, length-take most text))
    (λ k less. rw (get_or-take most text k 0 (omega arith)) (each k less))
    (λ less. let inside : (n < most) × (n < length text) = omega (arith, length-take most text) in rw (get_or-take most text n 0 inside.0) (stop inside.0 inside.1)))

-- one more digit
pub one_more : (text : List ℕ) (n : ℕ) → n < length text → is_ascii_digit (get_or text n 0) ≡ true
    → digits_value 10 (take n text) * 10 + (get_or text n 0 - 48) ≡ digits_value 10 (take (n + 1) text)
one_more text n inside test =
    let c = get_or text n 0 in
    let range = digit_from_value c (digit_is c test) in
    omega (arith, digits_value_more 10 text n inside, digit_value_digit c range, range)
