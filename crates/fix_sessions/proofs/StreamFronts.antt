-- What stands at the front of a stream that begins with the parts of a message.
use Rattle.std.proofs.Common.{◌≡◌, ◌≤◌, ◌<◌, ◌+◌, ◌-◌, ◌/◌, ◌%◌, ℕ, suc, inl, inr, Bool, true, false, not, ◌&&◌, ◌==◌, nat_le, nat_lt, List, [], ◌∷◌, ◌++◌, length, take, drop, sum, codes, if◌then◌else◌}
use Rattle.std.proofs.Common.{refl, sym, ◌∙◌, ap, arith, append_assoc, length-append}
use Rattle.std.proofs.lemmas.Bool.{cases_Bool, false≢true, and_parts}
use Rattle.std.proofs.lemmas.Bool.Decides.{nat_tests}
use Rattle.std.proofs.lemmas.List.{take_at, drop_at, take_all}
use Rattle.std.proofs.Math.Seq.{take-append-add}
use Rattle.std.proofs.lemmas.Slice.Eq.{bytes_eq-Decides}
use Rattle.std.specs.List.{list_all, position_or_len}
use Rattle.std.specs.Char.{is_ascii_digit}
use Rattle.std.specs.Str.Parse.{digits_value}
use Rattle.fix_fields.specs.Frame.{end_text, three_digits}
use Rattle.fix_sessions.specs.Cuts.{agrees, has_soh, near_version, version_of, behind_version, near_length, length_text, is_of_version, is_version, are_digits, whole_len, end_of, sum_of, is_end, has_sum, front_by_end, front_by_len, front_by_length, front_of}
use Rattle.fix_sessions.specs.Fields.{front_piece}
use Rattle.fix_sessions.specs.Streams.{begun, AreParts}
use Rattle.fix_sessions.specs.declared.cuts.Front.{Front}
use Rattle.fix_sessions.specs.declared.cuts.Front.TheVariants as front
use Rattle.fix_sessions.specs.declared.cuts.TheConstants.{MOST_MESSAGE}

-- a choice whose test fails, and one whose test passes
pub passes_on : (b : Bool) (x y : Front) → b ≡ false → (if b then x else y) ≡ y
passes_on true x y h = absurd (false≢true (sym h))
passes_on false x y h = refl

pub is_taken : (b : Bool) (x y : Front) → b ≡ true → (if b then x else y) ≡ x
is_taken true x y h = refl
is_taken false x y h = absurd (false≢true h)

not_true : (b : Bool) → b ≡ true → not b ≡ false
not_true b h = ap not h

-- A piece, up to its SOH.

front_stops : (v rest : List ℕ) → list_all (λ (c : ℕ). not (c == 1)) v ≡ true → front_piece (v ++ (1 ∷ rest)) ≡ v
front_stops [] rest none = refl
front_stops (x ∷ v) rest none =
    let p = λ (c : ℕ). c == 1 in
    let parts = and_parts (not (x == 1)) (list_all (λ (c : ℕ). not (c == 1)) v) none in
    let other : (x == 1) ≡ false = grind (arith, nat_tests) in
    let place : position_or_len p (x ∷ (v ++ (1 ∷ rest))) ≡ suc (position_or_len p (v ++ (1 ∷ rest))) =
    rw other (omega arith) in
    ap (λ n. take n (x ∷ (v ++ (1 ∷ rest)))) place ∙ ap (λ t. x ∷ t) (front_stops v rest parts.1)

weaker : (p q : ℕ → Bool) → ((c : ℕ) → p c ≡ true → q c ≡ true) → (text : List ℕ) → list_all p text ≡ true → list_all q text ≡ true
weaker p q less [] all = refl
weaker p q less (c ∷ text) all =
    let parts = and_parts (p c) (list_all p text) all in
    rw (less c parts.0) (weaker p q less text parts.1)

version_not_soh : (c : ℕ) → is_of_version c ≡ true → not (c == 1) ≡ true
version_not_soh c is = grind (arith, nat_tests)

digit_not_soh : (c : ℕ) → is_ascii_digit c ≡ true → not (c == 1) ≡ true
digit_not_soh c is = grind (arith, nat_tests)

-- the first bytes of a piece that is shorter, with its SOH
piece_near : (n : ℕ) (v rest : List ℕ) → length v < n
    → take n (v ++ (1 ∷ rest)) ≡ v ++ (1 ∷ take (n - length v - 1) rest)
piece_near n v rest short =
    let k = n - length v - 1 in
    let whole : n ≡ length v + suc k = omega (arith, short) in
    ap (λ m. take m (v ++ (1 ∷ rest))) whole ∙ take-append-add v (1 ∷ rest) (suc k)

near_front : (n : ℕ) (v rest : List ℕ) → length v < n → list_all (λ (c : ℕ). not (c == 1)) v ≡ true
    → front_piece (take n (v ++ (1 ∷ rest))) ≡ v
near_front n v rest short none =
    ap front_piece (piece_near n v rest short) ∙ front_stops v (take (n - length v - 1) rest) none

near_has_soh : (n : ℕ) (v rest : List ℕ) → length v < n → list_all (λ (c : ℕ). not (c == 1)) v ≡ true
    → has_soh (take n (v ++ (1 ∷ rest))) ≡ true
near_has_soh n v rest short none =
    let near = take n (v ++ (1 ∷ rest)) in
    let front : length (front_piece near) ≡ length v = ap length (near_front n v rest short none) in
    let all : length near ≡ length v + (1 + length (take (n - length v - 1) rest)) =
    ap length (piece_near n v rest short) ∙ length-append v (1 ∷ take (n - length v - 1) rest) ∙ omega arith in
    let apart : (length (front_piece near) == length near) ≡ false = grind (arith, nat_tests) in
    ap not apart

-- a text that stands at the front
agrees_there : (text rest : List ℕ) → agrees (text ++ rest) text ≡ true
agrees_there text rest =
    let long : length text ≤ length (text ++ rest) = omega (arith, length-append text rest) in
    (bytes_eq-Decides (take (length text) (text ++ rest)) (take (length (text ++ rest)) text)).1
    (take_at text rest (length text) refl ∙ sym (take_all (length (text ++ rest)) text long))

-- what stands behind a piece and its SOH
pub past_piece : (t more : List ℕ) → drop (length t + 1) (t ++ (1 ∷ more)) ≡ more
past_piece t more =
    ap (λ whole. drop (length t + 1) whole) (sym (append_assoc t (1 ∷ []) more))
    ∙ drop_at (t ++ (1 ∷ [])) more (length t + 1) (length-append t (1 ∷ []))

pub begun_len : (v d more : List ℕ) → length (begun v d more) ≡ length v + length d + length more + 6
begun_len v d more =
    let outer = length-append v (1 ∷ (codes "9=" ++ (d ++ (1 ∷ more)))) in
    let inner = length-append d (1 ∷ more) in
    omega (arith, outer, inner)

-- The parts of a message.

module _ (v d b rest : List ℕ) (parts : AreParts v d b) where
  abbrev all : List ℕ
  all = begun v d (b ++ rest)

  abbrev behind_v : List ℕ
  behind_v = codes "9=" ++ (d ++ (1 ∷ (b ++ rest)))

  v_parts : (nat_le 1 (length v) && nat_le (length v) 16 ≡ true) × (list_all is_of_version v ≡ true)
  v_parts = and_parts (nat_le 1 (length v) && nat_le (length v) 16) (list_all is_of_version v) parts.version_is

  v_short : length v ≤ 16
  v_short = let two = and_parts (nat_le 1 (length v)) (nat_le (length v) 16) v_parts.0 in grind (arith, nat_tests)

  v_none : list_all (λ (c : ℕ). not (c == 1)) v ≡ true
  v_none = weaker is_of_version (λ (c : ℕ). not (c == 1)) version_not_soh v v_parts.1

  d_none : list_all (λ (c : ℕ). not (c == 1)) d ≡ true
  d_none = weaker is_ascii_digit (λ (c : ℕ). not (c == 1)) digit_not_soh d parts.all_digits

  drop_two : drop 2 all ≡ v ++ (1 ∷ behind_v)
  drop_two = drop_at (codes "8=") (v ++ (1 ∷ behind_v)) 2 refl

  version_is : version_of all ≡ v
  version_is = ap (λ t. front_piece (take 17 t)) drop_two ∙ near_front 17 v behind_v (omega (arith, v_short)) v_none

  version_soh : has_soh (near_version all) ≡ true
  version_soh = ap (λ t. has_soh (take 17 t)) drop_two ∙ near_has_soh 17 v behind_v (omega (arith, v_short)) v_none

  behind_is : behind_version all ≡ behind_v
  behind_is = ap (λ n. drop (n + 1) (drop 2 all)) (ap length version_is) ∙ ap (drop (length v + 1)) drop_two ∙ past_piece v behind_v

  drop_nine : drop 2 (behind_version all) ≡ d ++ (1 ∷ (b ++ rest))
  drop_nine = ap (drop 2) behind_is ∙ drop_at (codes "9=") (d ++ (1 ∷ (b ++ rest))) 2 refl

  digits_are : length_text all ≡ d
  digits_are = ap (λ t. front_piece (take 10 t)) drop_nine ∙ near_front 10 d (b ++ rest) (omega (arith, parts.few)) d_none

  digits_soh : has_soh (near_length all) ≡ true
  digits_soh = ap (λ t. has_soh (take 10 t)) drop_nine ∙ near_has_soh 10 d (b ++ rest) (omega (arith, parts.few)) d_none

  len_is : whole_len all ≡ length (begun v d b) + 7
  len_is =
      let of_v = ap length version_is in
      let of_d = ap length digits_are in
      let value = ap (digits_value 10) digits_are ∙ parts.length_is in
      let whole = begun_len v d b in
      omega (arith, of_v, of_d, value, whole)

  at_length : front_of all ≡ front_by_length all
  unfolding front_of
  at_length =
      let long : nat_le (length all) 2 ≡ false = (let l = begun_len v d (b ++ rest) in grind (arith, nat_tests)) in
      let right : is_version (version_of all) ≡ true = ap is_version version_is ∙ parts.version_is in
      passes_on (not (agrees all (codes "8="))) _ _ (not_true _ (agrees_there (codes "8=") (v ++ (1 ∷ behind_v))))
      ∙ passes_on (nat_le (length all) 2) _ _ long
      ∙ passes_on (not (is_version (version_of all))) _ _ (not_true _ right)
      ∙ passes_on (not (has_soh (near_version all))) _ _ (not_true _ version_soh)

  at_len : front_by_length all ≡ front_by_len all
  at_len =
      let few : nat_le (length d) 9 ≡ true = (let f = parts.few in grind (arith, nat_tests)) in
      let right : are_digits (length_text all) ≡ true = ap are_digits digits_are ∙ rw (few, parts.all_digits) refl in
      let nine : agrees (behind_version all) (codes "9=") ≡ true = ap (λ t. agrees t (codes "9=")) behind_is ∙ agrees_there (codes "9=") (d ++ (1 ∷ (b ++ rest))) in
      let both : agrees (behind_version all) (codes "9=") && are_digits (length_text all) ≡ true = rw (nine, right) refl in
      let of_d : length (length_text all) ≡ length d = ap length digits_are in
      let some : (length (length_text all) == 0) ≡ false = (let s = parts.some in grind (arith, nat_tests)) in
      passes_on (not (agrees (behind_version all) (codes "9=") && are_digits (length_text all))) _ _ (not_true _ both)
      ∙ passes_on (not (has_soh (near_length all))) _ _ (not_true _ digits_soh)
      ∙ passes_on (length (length_text all) == 0) _ _ some

  at_end : length b + 7 ≤ length (b ++ rest) → front_by_len all ≡ front_by_end all
  at_end there =
      let whole = begun_len v d b in
      let given = begun_len v d (b ++ rest) in
      let fits = parts.fits in
      let is = len_is in
      let of_d : length (length_text all) ≡ length d = ap length digits_are in
      let f = parts.few in
      let short : nat_lt MOST_MESSAGE (whole_len all) ≡ false = grind (arith, nat_tests) in
      let six : nat_lt 6 (length (length_text all)) ≡ false = grind (arith, nat_tests) in
      let enough : nat_lt (length all) (whole_len all) ≡ false = grind (arith, nat_tests) in
      passes_on (nat_lt MOST_MESSAGE (whole_len all)) _ _ short
      ∙ passes_on (nat_lt 6 (length (length_text all))) _ _ six
      ∙ passes_on (nat_lt (length all) (whole_len all)) _ _ enough

-- what is begun goes on
pub begun_more : (v d b more : List ℕ) → begun v d b ++ more ≡ begun v d (b ++ more)
begun_more v d b more =
    ap (λ t. codes "8=" ++ t)
    (append_assoc v (1 ∷ (codes "9=" ++ (d ++ (1 ∷ b)))) more
    ∙ ap (λ t. v ++ (1 ∷ (codes "9=" ++ t))) (append_assoc d (1 ∷ b) more))

-- with what closes a message behind the body
module _ (v d b closing tail : List ℕ) (parts : AreParts v d b) (seven : length closing ≡ 7) where
  abbrev closed : List ℕ
  closed = begun v d (b ++ (closing ++ tail))

  abbrev lead : ℕ
  lead = length (begun v d b)

  closed_is : begun v d b ++ (closing ++ tail) ≡ closed
  closed_is = begun_more v d b (closing ++ tail)

  lead_is : whole_len closed - 7 ≡ lead
  lead_is = let is = len_is v d b (closing ++ tail) parts in omega (arith, is)

  closing_is : end_of closed ≡ closing
  closing_is =
      ap (λ n. take 7 (drop n closed)) lead_is ∙ ap (λ t. take 7 (drop lead t)) (sym closed_is)
      ∙ ap (take 7) (drop_at (begun v d b) (closing ++ tail) lead refl) ∙ take_at closing tail 7 seven

  sum_is : sum_of closed ≡ sum (begun v d b) % 256
  sum_is =
      ap (λ n. sum (take n closed) % 256) lead_is ∙ ap (λ t. sum (take lead t) % 256) (sym closed_is)
      ∙ ap (λ t. sum t % 256) (take_at (begun v d b) (closing ++ tail) lead refl)

  to_end : front_of closed ≡ front_by_end closed
  to_end =
      let there : length b + 7 ≤ length (b ++ (closing ++ tail)) =
      omega (arith, seven, length-append b (closing ++ tail), length-append closing tail) in
      at_length v d b (closing ++ tail) parts ∙ at_len v d b (closing ++ tail) parts ∙ at_end v d b (closing ++ tail) parts there

  pub front_right : is_end closing ≡ true → closing ≡ end_text (three_digits (sum (begun v d b) % 256))
      → front_of closed ≡ front.Whole (length (begun v d b) + 7)
  front_right closes right =
      let ends : is_end (end_of closed) ≡ true = ap is_end closing_is ∙ closes in
      let sums : has_sum (end_of closed) (sum_of closed) ≡ true =
      (bytes_eq-Decides (end_of closed) (end_text (three_digits (sum_of closed)))).1
      (closing_is ∙ right ∙ ap (λ n. end_text (three_digits n)) (sym sum_is)) in
      to_end ∙ passes_on (not (is_end (end_of closed))) _ _ (not_true _ ends)
      ∙ is_taken (has_sum (end_of closed) (sum_of closed)) _ _ sums
      ∙ ap front.Whole (len_is v d b (closing ++ tail) parts)

  pub front_wrong : is_end closing ≡ true → (closing ≡ end_text (three_digits (sum (begun v d b) % 256)) → ⊥)
      → front_of closed ≡ front.Wrong (length (begun v d b) + 7)
  front_wrong closes wrong =
      let ends : is_end (end_of closed) ≡ true = ap is_end closing_is ∙ closes in
      let sums : has_sum (end_of closed) (sum_of closed) ≡ false =
      elim (cases_Bool (has_sum (end_of closed) (sum_of closed))) [
        | inl same ↦ absurd (wrong (sym closing_is
            ∙ (bytes_eq-Decides (end_of closed) (end_text (three_digits (sum_of closed)))).0 same
            ∙ ap (λ n. end_text (three_digits n)) sum_is))
        | inr other ↦ other
      ] in
      to_end ∙ passes_on (not (is_end (end_of closed))) _ _ (not_true _ ends)
      ∙ passes_on (has_sum (end_of closed) (sum_of closed)) _ _ sums
      ∙ ap front.Wrong (len_is v d b (closing ++ tail) parts)

-- three digits of a sum close a message
small_digit : (n : ℕ) → n < 10 → is_ascii_digit (48 + n) ≡ true
small_digit n small = grind (arith, nat_tests)

pub sum_closes : (n : ℕ) → n < 256 → is_end (end_text (three_digits n)) ≡ true
sum_closes n small =
    let hundreds : n / 100 < 10 = omega (arith, small) in
    let tens : n / 10 % 10 < 10 = omega arith in
    let ones : n % 10 < 10 = omega arith in
    rw (small_digit (n / 100) hundreds, small_digit (n / 10 % 10) tens, small_digit (n % 10) ones) refl
