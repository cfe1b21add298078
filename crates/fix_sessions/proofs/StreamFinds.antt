-- What is found is a message: bytes that pass the tests of a front have its parts.
use Rattle.std.proofs.Common.{◌≡◌, ◌≤◌, ◌<◌, ◌+◌, ◌-◌, ◌%◌, ℕ, Bool, true, false, not, ◌&&◌, ◌==◌, nat_le, nat_lt, List, [], ◌∷◌, ◌++◌, length, take, drop, get_or, sum, codes, inl, inr, if◌then◌else◌}
use Rattle.std.proofs.Common.{refl, sym, ◌∙◌, ap, arith, append_assoc, length-drop, length-take}
use Rattle.std.proofs.lemmas.Bool.{cases_Bool, false≢true, and_parts}
use Rattle.std.proofs.lemmas.Bool.Decides.{nat_tests}
use Rattle.std.proofs.lemmas.List.{take_at, take_all, take-append-drop, length-take-le}
use Rattle.std.proofs.lemmas.List.Sums.{split_at_first, passes_at_first}
use Rattle.std.proofs.Math.Seq.{take-add}
use Rattle.std.proofs.lemmas.Slice.Eq.{bytes_eq-Decides}
use Rattle.std.specs.List.{after_first, list_all, position_or_len}
use Rattle.std.specs.Char.{is_ascii_digit}
use Rattle.std.specs.Str.Parse.{digits_value}
use Rattle.fix_fields.specs.Frame.{end_text, three_digits}
use Rattle.fix_sessions.specs.Cuts.{agrees, has_soh, near_version, version_of, behind_version, near_length, length_text, behind_length, is_version, are_digits, whole_len, end_of, sum_of, is_end, has_sum, front_of}
use Rattle.fix_sessions.specs.Fields.{front_piece}
use Rattle.fix_sessions.specs.Streams.{begun, IsMessage}
use Rattle.fix_sessions.specs.declared.cuts.Front.{Front}
use Rattle.fix_sessions.specs.declared.cuts.Front.TheVariants as front
use Rattle.fix_sessions.specs.declared.cuts.TheConstants.{MOST_MESSAGE}
use Rattle.fix_sessions.proofs.StreamFronts.{begun_more, begun_len, past_piece}

-- whether a front is a message, its sum right or wrong
abbrev pub is_framed : Front → Bool
is_framed (front.Whole len) = true
is_framed (front.Wrong len) = true
is_framed other = false

not_that : (b : Bool) (x y g : Front) → is_framed g ≡ true → is_framed x ≡ false → (if b then x else y) ≡ g
    → (b ≡ false) × (y ≡ g)
not_that true x y g there other h = absurd (false≢true (sym other ∙ ap is_framed h ∙ there))
not_that false x y g there other h = (refl, h)

not_false : (b : Bool) → not b ≡ false → b ≡ true
not_false true h = refl
not_false false h = absurd (false≢true (sym h))

waits_or_long : (b : Bool) → is_framed (if b then front.Begun else front.TooLong) ≡ false
waits_or_long true = refl
waits_or_long false = refl

pub record Tests (bytes : List ℕ) (g : Front) : Type 0 where
  pub eight : agrees bytes (codes "8=") ≡ true
  pub long : nat_le (length bytes) 2 ≡ false
  pub version_is : is_version (version_of bytes) ≡ true
  pub version_soh : has_soh (near_version bytes) ≡ true
  pub nine : agrees (behind_version bytes) (codes "9=") && are_digits (length_text bytes) ≡ true
  pub digits_soh : has_soh (near_length bytes) ≡ true
  pub some : (length (length_text bytes) == 0) ≡ false
  pub fits : nat_lt MOST_MESSAGE (whole_len bytes) ≡ false
  pub few : nat_lt 6 (length (length_text bytes)) ≡ false
  pub there : nat_lt (length bytes) (whole_len bytes) ≡ false
  pub closes : is_end (end_of bytes) ≡ true
  pub last : (if has_sum (end_of bytes) (sum_of bytes) then front.Whole (whole_len bytes) else front.Wrong (whole_len bytes)) ≡ g

pub tests : (bytes : List ℕ) (g : Front) → is_framed g ≡ true → front_of bytes ≡ g → Tests bytes g
unfolding front_of
tests bytes g is h =
    let a = not_that (not (agrees bytes (codes "8="))) front.Garbled _ g is refl h in
    let b = not_that (nat_le (length bytes) 2) front.Begun _ g is refl a.1 in
    let c = not_that (not (is_version (version_of bytes))) front.Garbled _ g is refl b.1 in
    let d = not_that (not (has_soh (near_version bytes))) front.Begun _ g is refl c.1 in
    let e = not_that (not (agrees (behind_version bytes) (codes "9=") && are_digits (length_text bytes))) front.Garbled _ g is refl d.1 in
    let f = not_that (not (has_soh (near_length bytes))) front.Begun _ g is refl e.1 in
    let i = not_that (length (length_text bytes) == 0) front.Garbled _ g is refl f.1 in
    let j = not_that (nat_lt MOST_MESSAGE (whole_len bytes)) _ _ g is (waits_or_long (nat_lt (length bytes) MOST_MESSAGE)) i.1 in
    let k = not_that (nat_lt 6 (length (length_text bytes))) front.Garbled _ g is refl j.1 in
    let l = not_that (nat_lt (length bytes) (whole_len bytes)) front.Begun _ g is refl k.1 in
    let m = not_that (not (is_end (end_of bytes))) front.Garbled _ g is refl l.1 in
    record {
      eight = not_false _ a.0;
      long = b.0;
      version_is = not_false _ c.0;
      version_soh = not_false _ d.0;
      nine = not_false _ e.0;
      digits_soh = not_false _ f.0;
      some = i.0;
      fits = j.0;
      few = k.0;
      there = l.0;
      closes = not_false _ m.0;
      last = m.1;
    }

len_in : Front → ℕ
len_in (front.Whole len) = len
len_in (front.Wrong len) = len
len_in other = 0

abbrev is_right : Front → Bool
is_right (front.Whole len) = true
is_right other = false

last_right : (b : Bool) (n len : ℕ) → (if b then front.Whole n else front.Wrong n) ≡ front.Whole len → (b ≡ true) × (n ≡ len)
unfolding len_in
last_right true n len h = (refl, ap len_in h)
last_right false n len h = absurd (false≢true (ap is_right h))

last_len : (b : Bool) (n len : ℕ) → (if b then front.Whole n else front.Wrong n) ≡ front.Wrong len → n ≡ len
unfolding len_in
last_len true n len h = ap len_in h
last_len false n len h = ap len_in h

-- how long a message with a wrong sum is
pub wrong_len : (bytes : List ℕ) (len : ℕ) → front_of bytes ≡ front.Wrong len → 13 ≤ len
wrong_len bytes len h =
    let t = tests bytes (front.Wrong len) refl h in
    let is = last_len (has_sum (end_of bytes) (sum_of bytes)) (whole_len bytes) len t.last in
    omega (arith, is)

-- A text that stands at the front, and a piece.

split_agrees : (bytes text : List ℕ) → length text ≤ length bytes → agrees bytes text ≡ true
    → bytes ≡ text ++ drop (length text) bytes
split_agrees bytes text long h =
    let same = (bytes_eq-Decides (take (length text) bytes) (take (length bytes) text)).0 h in
    sym (take-append-drop (length text) bytes)
    ∙ ap (λ t. t ++ drop (length text) bytes) (same ∙ take_all (length bytes) text long)

soh_place : (near : List ℕ) → has_soh near ≡ true → position_or_len (λ (c : ℕ). c == 1) near < length near
soh_place near h =
    let p = λ (c : ℕ). c == 1 in
    elim (cases_Bool (nat_lt (position_or_len p near) (length near))) [
      | inl within ↦ grind (arith, nat_tests)
      | inr beyond ↦
          (let past : length near ≤ position_or_len p near = grind (arith, nat_tests) in
          let same : length (front_piece near) ≡ length near = ap length (take_all (position_or_len p near) near past) in
          let equal : (length (front_piece near) == length near) ≡ true = grind (arith, nat_tests) in
          absurd (false≢true (sym (ap not equal) ∙ h)))
    ]

is_soh : (c : ℕ) → (c == 1) ≡ true → c ≡ 1
is_soh c h = grind (arith, nat_tests)

split_soh : (n : ℕ) (t : List ℕ) → has_soh (take n t) ≡ true
    → t ≡ front_piece (take n t) ++ (1 ∷ drop (length (front_piece (take n t)) + 1) t)
split_soh n t h =
    let p = λ (c : ℕ). c == 1 in
    let near = take n t in
    let w = front_piece near in
    let place = soh_place near h in
    let soh = is_soh (get_or near (position_or_len p near) 0) (passes_at_first p near 0 place) in
    let cut : near ≡ w ++ (1 ∷ after_first p near) =
    split_at_first p near 0 place ∙ ap (λ c. w ++ (c ∷ after_first p near)) soh in
    let more = after_first p near ++ drop n t in
    let whole : t ≡ w ++ (1 ∷ more) =
    sym (take-append-drop n t) ∙ ap (λ s. s ++ drop n t) cut ∙ append_assoc w (1 ∷ after_first p near) (drop n t) in
    let rest : drop (length w + 1) t ≡ more = ap (drop (length w + 1)) whole ∙ past_piece w more in
    whole ∙ ap (λ m. w ++ (1 ∷ m)) (sym rest)

soh_some : (t : List ℕ) → has_soh t ≡ true → 0 < length t
soh_some [] h = absurd (false≢true h)
soh_some (x ∷ xs) h = omega arith

-- bytes by their parts
pub parts_there : (bytes : List ℕ) (g : Front) → Tests bytes g
    → bytes ≡ begun (version_of bytes) (length_text bytes) (behind_length bytes)
parts_there bytes g t =
    let v = version_of bytes in
    let d = length_text bytes in
    let rest = behind_version bytes in
    let two : 2 ≤ length bytes = (let l = t.long in grind (arith, nat_tests)) in
    let near = soh_some (near_length bytes) t.digits_soh in
    let some : 2 ≤ length rest = omega (arith, near, length-take 10 (drop 2 rest), length-drop 2 rest) in
    let nine = and_parts (agrees rest (codes "9=")) (are_digits d) t.nine in
    split_agrees bytes (codes "8=") two t.eight
    ∙ ap (λ s. codes "8=" ++ s) (split_soh 17 (drop 2 bytes) t.version_soh)
    ∙ ap (λ s. codes "8=" ++ (v ++ (1 ∷ s))) (split_agrees rest (codes "9=") some nine.0)
    ∙ ap (λ s. codes "8=" ++ (v ++ (1 ∷ (codes "9=" ++ s)))) (split_soh 10 (drop 2 rest) t.digits_soh)

-- a front that is whole is a message
pub whole_is_message : (bytes : List ℕ) (len : ℕ) → front_of bytes ≡ front.Whole len
    → IsMessage (take len bytes) × ((13 ≤ len) × (len ≤ length bytes))
whole_is_message bytes len h =
    let t = tests bytes (front.Whole len) refl h in
    let v = version_of bytes in
    let d = length_text bytes in
    let tail = behind_length bytes in
    let n = digits_value 10 d in
    let b = take n tail in
    let right = last_right (has_sum (end_of bytes) (sum_of bytes)) (whole_len bytes) len t.last in
    let is = parts_there bytes (front.Whole len) t in
    let all : length bytes ≡ length v + length d + length tail + 6 = ap length is ∙ begun_len v d tail in
    let there : whole_len bytes ≤ length bytes = (let h = t.there in grind (arith, nat_tests)) in
    let enough : n ≤ length tail = omega (arith, all, there) in
    let body : length b ≡ n = length-take-le n tail enough in
    let lead = length (begun v d b) in
    let lead_is : lead ≡ length v + length d + n + 6 = begun_len v d b ∙ omega (arith, body) in
    let cut : bytes ≡ begun v d b ++ drop n tail =
    is ∙ ap (begun v d) (sym (take-append-drop n tail)) ∙ sym (begun_more v d b (drop n tail)) in
    let before : take lead bytes ≡ begun v d b = ap (take lead) cut ∙ take_at (begun v d b) (drop n tail) lead refl in
    let whole : whole_len bytes - 7 ≡ lead = omega (arith, lead_is) in
    let len_is : len ≡ lead + 7 = omega (arith, lead_is, right.1) in
    let sum_as : sum_of bytes ≡ sum (begun v d b) % 256 = ap (λ k. sum (take k bytes) % 256) whole ∙ ap (λ s. sum s % 256) before in
    let closing : end_of bytes ≡ end_text (three_digits (sum (begun v d b) % 256)) =
    (bytes_eq-Decides (end_of bytes) (end_text (three_digits (sum_of bytes)))).0 right.0 ∙ ap (λ k. end_text (three_digits k)) sum_as in
    let behind : take 7 (drop lead bytes) ≡ end_of bytes = ap (λ k. take 7 (drop k bytes)) (sym whole) in
    let digits = and_parts (nat_le (length d) 9) (list_all is_ascii_digit d) (and_parts (agrees (behind_version bytes) (codes "9=")) (are_digits d) t.nine).1 in
    let most : lead + 7 ≤ MOST_MESSAGE = (let f = t.fits in grind (arith, nat_tests, lead_is)) in (
      record {
        version = v;
        digits = d;
        body = b;
        parts = record {
          version_is = t.version_is;
          all_digits = digits.1;
          some = (let s = t.some in grind (arith, nat_tests));
          few = (let f = t.few in grind (arith, nat_tests));
          length_is = sym body;
          fits = most;
        };
        text = ap (λ k. take k bytes) len_is ∙ take-add lead 7 bytes
            ∙ ap (λ s. s ++ take 7 (drop lead bytes)) before
            ∙ ap (λ s. begun v d b ++ s) (behind ∙ closing);
      },
      (omega (arith, right.1), omega (arith, right.1, there)),
    )
