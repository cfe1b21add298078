-- What may begin a message waits for no more bytes than a message has.
use Rattle.std.proofs.Common.{◌≡◌, ◌≤◌, ◌<◌, ◌+◌, ◌&&◌, ◌==◌, ◌⊎◌, ℕ, zero, suc, Bool, true, false, not, nat_le, nat_lt, List, [], ◌∷◌, length, drop, codes, inl, inr, if◌then◌else◌}
use Rattle.std.proofs.Common.{refl, sym, ◌∙◌, ap, arith, length-drop, length-take}
use Rattle.std.proofs.lemmas.Bool.{false≢true, and_parts}
use Rattle.std.proofs.lemmas.Bool.Decides.{nat_tests}
use Rattle.std.specs.List.{list_all}
use Rattle.std.specs.Char.{is_ascii_digit}
use Rattle.fix_sessions.specs.Cuts.{agrees, has_soh, near_version, version_of, behind_version, near_length, length_text, is_of_version, is_version, are_digits, whole_len, end_of, sum_of, is_end, has_sum, found_at, front_of, front_by_length, front_by_len, next_message, behind as passed_by}
use Rattle.fix_sessions.specs.declared.cuts.Found.{Found}
use Rattle.fix_sessions.specs.declared.cuts.What.{What}
use Rattle.fix_sessions.specs.declared.cuts.What.TheVariants as what
use Rattle.fix_sessions.specs.declared.cuts.Front.{Front}
use Rattle.fix_sessions.specs.declared.cuts.Front.TheVariants as front
use Rattle.fix_sessions.specs.declared.cuts.TheConstants.{MOST_MESSAGE}
use Rattle.fix_sessions.proofs.StreamFinds.{wrong_len}
use Rattle.fix_sessions.proofs.StreamLemmas.{next_garbled, next_long, next_whole, next_wrong}

abbrev is_begun : Front → Bool
is_begun front.Begun = true
is_begun other = false

-- a choice that gives what has begun
begun_else : (b : Bool) (x y : Front) → is_begun x ≡ false → (if b then x else y) ≡ front.Begun
    → (b ≡ false) × (y ≡ front.Begun)
begun_else true x y other h = absurd (false≢true (sym other ∙ ap is_begun h))
begun_else false x y other h = (refl, h)

begun_or : (b : Bool) (x y : Front) → (if b then x else y) ≡ front.Begun
    → ((b ≡ true) × (x ≡ front.Begun)) ⊎ ((b ≡ false) × (y ≡ front.Begun))
begun_or true x y h = inl (refl, h)
begun_or false x y h = inr (refl, h)

begun_inner : (b : Bool) → (if b then front.Begun else front.TooLong) ≡ front.Begun → b ≡ true
begun_inner true h = refl
begun_inner false h = absurd (false≢true (ap is_begun h))

no_end : (b : Bool) (n : ℕ) → (if b then front.Whole n else front.Wrong n) ≡ front.Begun → ⊥
no_end true n h = absurd (false≢true (ap is_begun h))
no_end false n h = absurd (false≢true (ap is_begun h))

not_false : (b : Bool) → not b ≡ false → b ≡ true
not_false true h = refl
not_false false h = absurd (false≢true (sym h))

-- a piece without SOH is all there is
no_soh : (near piece : List ℕ) → not (not (length piece == length near)) ≡ true → length piece ≡ length near
no_soh near piece h = grind (arith, nat_tests)

version_short : (text : List ℕ) → is_version text ≡ true → length text ≤ 16
version_short text h =
    let parts = and_parts (nat_le 1 (length text) && nat_le (length text) 16) (list_all is_of_version text) h in
    let two = and_parts (nat_le 1 (length text)) (nat_le (length text) 16) parts.0 in
    grind (arith, nat_tests)

digits_short : (text : List ℕ) → are_digits text ≡ true → length text ≤ 9
digits_short text h =
    let parts = and_parts (nat_le (length text) 9) (list_all is_ascii_digit text) h in
    grind (arith, nat_tests)

len_short : (bytes : List ℕ) → front_by_len bytes ≡ front.Begun → length bytes < MOST_MESSAGE
len_short bytes h =
    elim (begun_or (nat_lt MOST_MESSAGE (whole_len bytes)) _ _ h) [
      | inl long ↦
          (let inner = begun_inner (nat_lt (length bytes) MOST_MESSAGE) long.1 in
          grind (arith, nat_tests))
      | inr fits ↦
          (let few = begun_else (nat_lt 6 (length (length_text bytes))) front.Garbled _ refl fits.1 in
          elim (begun_or (nat_lt (length bytes) (whole_len bytes)) _ _ few.1) [
            | inl short ↦ (let a = fits.0 in let b = short.0 in grind (arith, nat_tests))
            | inr there ↦
                (let ends = begun_else (not (is_end (end_of bytes))) front.Garbled _ refl there.1 in
                absurd (no_end (has_sum (end_of bytes) (sum_of bytes)) (whole_len bytes) ends.1))
          ])
    ]

length_short : (bytes : List ℕ) → length (version_of bytes) ≤ 16 → front_by_length bytes ≡ front.Begun → length bytes < MOST_MESSAGE
length_short bytes version h =
    let rest = behind_version bytes in
    let nine = begun_else (not (agrees rest (codes "9=") && are_digits (length_text bytes))) front.Garbled _ refl h in
    let digits = (and_parts (agrees rest (codes "9=")) (are_digits (length_text bytes)) (not_false _ nine.0)).1 in
    let few = digits_short (length_text bytes) digits in
    elim (begun_or (not (has_soh (near_length bytes))) _ _ nine.1) [
      | inl lacks ↦
          (let same = no_soh (near_length bytes) (length_text bytes) lacks.0 in
          omega (
            arith,
            same,
            few,
            version,
            length-take 10 (drop 2 rest),
            length-drop 2 rest,
            length-drop (length (version_of bytes) + 1) (drop 2 bytes),
            length-drop 2 bytes,
          ))
      | inr ended ↦
          (let some = begun_else (length (length_text bytes) == 0) front.Garbled _ refl ended.1 in
          len_short bytes some.1)
    ]

pub begun_short : (bytes : List ℕ) → front_of bytes ≡ front.Begun → length bytes < MOST_MESSAGE
unfolding front_of
begun_short bytes h =
    let eight = begun_else (not (agrees bytes (codes "8="))) front.Garbled _ refl h in
    elim (begun_or (nat_le (length bytes) 2) _ _ eight.1) [
      | inl few ↦ (let two : length bytes ≤ 2 = (let f = few.0 in grind (arith, nat_tests)) in omega (arith, two))
      | inr more ↦
          (let version = begun_else (not (is_version (version_of bytes))) front.Garbled _ refl more.1 in
          let short = version_short (version_of bytes) (not_false _ version.0) in
          elim (begun_or (not (has_soh (near_version bytes))) _ _ version.1) [
            | inl lacks ↦
                (let same = no_soh (near_version bytes) (version_of bytes) lacks.0 in
                omega (arith, same, short, length-take 17 (drop 2 bytes), length-drop 2 bytes))
            | inr ended ↦ length_short bytes short ended.1
          ])
    ]

-- Step by step.

what_number : What → ℕ
what_number what.Nothing = 0
what_number (what.Message len) = 1
what_number what.TooLong = 2

message_not : (len : ℕ) → what.Message len ≡ what.Nothing → ⊥
unfolding what_number
message_not len h = (let never : 1 ≡ 0 = ap what_number h in absurd (omega (arith, never)))

long_not : what.TooLong ≡ what.Nothing → ⊥
unfolding what_number
long_not h = (let never : 2 ≡ 0 = ap what_number h in absurd (omega (arith, never)))

abbrev IsShortTo : ℕ → Type 0
IsShortTo n = (bytes : List ℕ) (skip : ℕ) → length bytes ≤ n
    → next_message bytes ≡ found_at skip what.Nothing → length bytes < skip + MOST_MESSAGE

short_later : (n x : ℕ) (xs : List ℕ) (skip k : ℕ) → IsShortTo n → length (x ∷ xs) ≤ suc n
    → next_message (x ∷ xs) ≡ found_at skip what.Nothing → 1 ≤ k
    → next_message (x ∷ xs) ≡ passed_by k (next_message (drop k (x ∷ xs))) → length (x ∷ xs) < skip + MOST_MESSAGE
short_later n x xs skip k ih few h some is =
    let rest = next_message (drop k (x ∷ xs)) in
    let both : passed_by k rest ≡ found_at skip what.Nothing = sym is ∙ h in
    let where_is : k + rest.skip ≡ skip = ap (λ (f : Found). f.skip) both in
    let what_is : rest.what ≡ what.Nothing = ap (λ (f : Found). f.what) both in
    let left = length-drop k (x ∷ xs) in
    let shorter : length (drop k (x ∷ xs)) ≤ n = omega (arith, few, some, left) in
    let found = ih (drop k (x ∷ xs)) rest.skip shorter (ap (λ w. found_at rest.skip w) what_is) in
    omega (arith, found, where_is, left)

short_by_front : (n x : ℕ) (xs : List ℕ) (skip : ℕ) → IsShortTo n → length (x ∷ xs) ≤ suc n
    → next_message (x ∷ xs) ≡ found_at skip what.Nothing → (f : Front) → front_of (x ∷ xs) ≡ f
    → length (x ∷ xs) < skip + MOST_MESSAGE
short_by_front n x xs skip ih few h front.Begun is = (let short = begun_short (x ∷ xs) is in omega (arith, short))
short_by_front n x xs skip ih few h front.Garbled is =
    short_later n x xs skip 1 ih few h (omega arith) (next_garbled (x ∷ xs) (omega arith) is)
short_by_front n x xs skip ih few h (front.Wrong k) is =
    let some : 1 ≤ k = (let w = wrong_len (x ∷ xs) k is in omega (arith, w)) in
    short_later n x xs skip k ih few h some (next_wrong (x ∷ xs) k (omega arith) some is)
short_by_front n x xs skip ih few h (front.Whole k) is =
    absurd (message_not k (ap (λ (f : Found). f.what) (sym (next_whole (x ∷ xs) k (omega arith) is) ∙ h)))
short_by_front n x xs skip ih few h front.TooLong is =
    absurd (long_not (ap (λ (f : Found). f.what) (sym (next_long (x ∷ xs) (omega arith) is) ∙ h)))

short_to : (n : ℕ) (bytes : List ℕ) (skip : ℕ) → length bytes ≤ n
    → next_message bytes ≡ found_at skip what.Nothing → length bytes < skip + MOST_MESSAGE
short_to zero [] skip few h = omega arith
short_to zero (x ∷ xs) skip few h = absurd (omega (arith, few))
short_to (suc n) [] skip few h = omega arith
short_to (suc n) (x ∷ xs) skip few h = short_by_front n x xs skip (short_to n) few h (front_of (x ∷ xs)) refl

pub waits_short : (bytes : List ℕ) (skip : ℕ) → next_message bytes ≡ found_at skip what.Nothing
    → length bytes < skip + MOST_MESSAGE
waits_short bytes skip h = short_to (length bytes) bytes skip (omega arith) h
