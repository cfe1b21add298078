-- Bytes cut by BodyLength: where the parts stand, and that they stand nowhere else.
use Rattle.std.proofs.Common.{◌≡◌, ℕ, ◌+◌, ◌-◌, ◌<◌, ◌≤◌, Bool, true, eqb, List, [], ◌∷◌, ◌++◌}
use Rattle.std.proofs.Common.{length, take, drop, get_or, sym, ap, ◌∙◌, subst, refl, arith, inl}
use Rattle.std.proofs.Common.{inr, add-one, append_assoc, length-append}
use Rattle.std.specs.Char.{is_ascii_digit}
use Rattle.std.specs.List.{prefix_len}
use Rattle.std.specs.Str.Parse.{AllDigits, digits_value}
use Rattle.std.proofs.lemmas.Bool.{cases_lt}
use Rattle.std.proofs.lemmas.Bool.Decides.{Decides-eqb}
use Rattle.std.proofs.lemmas.Slice.Eq.{starts_is}
use Rattle.std.specs.Cmp.Lexicographic.{pointwise}
use Rattle.std.proofs.lemmas.List.{take-append-drop, length-take, length-take-le, length-drop}
use Rattle.std.proofs.lemmas.List.{append_cancel_right, drop_all}
use Rattle.std.proofs.lemmas.List.Sums.{prefix_len-le-length}
use Rattle.std.proofs.lemmas.Str.Parse.{digits_value_short}
use Rattle.std.proofs.Math.Seq.{get_or-append_seam, take-append_seam, drop-append_seam}
use Rattle.std.proofs.Math.Seq.{drop-append-add, drop-cons}
use Rattle.fix_fields.specs.Frame.{IsLength, start_text, front_text, end_text}
use Rattle.fix_fields.specs.Garbled.{IsCut, Starts}
use Rattle.fix_fields.specs.Scan.{IsEnd}
use Rattle.fix_fields.proofs.Digits.{plain, count_of, counted_digits}

-- what stands behind the tag of BodyLength, how many digits are counted there, and their number
abbrev pub behind_start : List ℕ → List ℕ
behind_start bytes = drop 13 bytes

abbrev pub length_len : List ℕ → ℕ
length_len rest = prefix_len is_ascii_digit (take 6 rest)

abbrev pub body_len : List ℕ → ℕ
body_len rest = digits_value 10 (take (length_len rest) rest)

abbrev pub behind_length : List ℕ → List ℕ
behind_length rest = drop (length_len rest + 1) rest

-- what BodyLength at the front of a text fixes
pub record IsMeasured (rest digits body tail : List ℕ) : Type 0 where
  pub count : length_len rest ≡ length digits
  pub some : 0 < length_len rest
  pub more : length_len rest < length rest
  pub ended : get_or rest (length_len rest) 0 ≡ 1
  pub value : body_len rest ≡ length body
  pub seven : length (behind_length rest) ≡ body_len rest + 7
  pub digits_is : take (length_len rest) rest ≡ digits
  pub body_is : take (body_len rest) (behind_length rest) ≡ body
  pub tail_is : drop (body_len rest) (behind_length rest) ≡ tail

measured : (digits body tail : List ℕ) → IsLength digits (length body) → length tail ≡ 7
    → IsMeasured (digits ++ (1 ∷ (body ++ tail))) digits body tail
measured digits body tail is seven =
    let rest = digits ++ (1 ∷ (body ++ tail)) in
    let count : length_len rest ≡ length digits = count_of 6 digits 1 (body ++ tail) is.all_digits is.few refl in
    let front : take (length_len rest) rest ≡ digits = rw count (take-append_seam digits (1 ∷ (body ++ tail))) in
    let behind : behind_length rest ≡ body ++ tail = rw count (drop-append-add digits (1 ∷ (body ++ tail)) 1) in
    let value : body_len rest ≡ length body = ap (digits_value 10) front ∙ is.value in
    record {
      count = count;
      some = rw count is.some;
      more = rw count (omega (arith, length-append digits (1 ∷ (body ++ tail))));
      ended = rw count (get_or-append_seam digits 1 (body ++ tail) 0);
      value = value;
      seven = rw (value, behind) (omega (arith, length-append body tail));
      digits_is = front;
      body_is = rw (value, behind) (take-append_seam body tail);
      tail_is = rw (value, behind) (drop-append_seam body tail);
    }

-- the rest of bytes that are cut
pub rest_of_cut : (bytes digits body tail : List ℕ) → bytes ≡ front_text digits body ++ tail
    → behind_start bytes ≡ digits ++ (1 ∷ (body ++ tail))
rest_of_cut bytes digits body tail is = ap (drop 13) is ∙ append_assoc digits (1 ∷ body) tail

pub measured_in : (bytes digits body tail : List ℕ) → IsCut bytes digits body tail
    → IsMeasured (behind_start bytes) digits body tail
measured_in bytes digits body tail cut =
    subst (λ rest. IsMeasured rest digits body tail) (sym (rest_of_cut bytes digits body tail cut.text))
    (measured digits body tail cut.length_is cut.seven)

-- bytes whose parts stand so are cut there
pub record HasLength (rest : List ℕ) (n : ℕ) : Type 0 where
  pub some : 0 < n
  pub more : n < length rest
  pub ended : get_or rest n 0 ≡ 1
  pub seven : length (drop (n + 1) rest) ≡ digits_value 10 (take n rest) + 7

pub length_of_cut : (bytes digits body tail rest : List ℕ) (n : ℕ) → rest ≡ behind_start bytes → n ≡ length_len rest
    → IsCut bytes digits body tail → HasLength rest n
length_of_cut bytes digits body tail rest n rest_is n_is cut =
    let m = measured_in bytes digits body tail cut in
    rw (n_is, rest_is) (record { some = m.some; more = m.more; ended = m.ended; seven = m.seven })

pub cut_of_length : (bytes rest : List ℕ) (n : ℕ) → bytes ≡ start_text ++ rest → length bytes ≤ 4096 → n ≡ length_len rest
    → HasLength rest n → let behind = drop (n + 1) rest in let v = digits_value 10 (take n rest) in
    IsCut bytes (take n rest) (take v behind) (drop v behind)
cut_of_length bytes rest n starts fits n_is has =
    let digits = take n rest in
    let behind = drop (n + 1) rest in
    let v = digits_value 10 digits in
    let all : AllDigits 10 digits = rw n_is (counted_digits 6 rest) in
    let long : length digits ≡ n = length-take-le n rest (let more = has.more in omega arith) in
    let few : n ≤ 6 = omega (arith, prefix_len-le-length is_ascii_digit (take 6 rest), length-take 6 rest) in
    let seven = has.seven in
    let body_len_is : length (take v behind) ≡ v = length-take-le v behind (omega arith) in
    let tail : drop n rest ≡ 1 ∷ behind = rw (drop-cons rest n 0 has.more, has.ended, add-one) refl in
    record {
      fits = fits;
      length_is = record { all_digits = all; some = (let some = has.some in omega arith); few = omega arith; value = sym body_len_is };
      text = starts ∙ ap (λ t. start_text ++ t) (sym (append_assoc digits (1 ∷ take v behind) (drop v behind)
          ∙ (ap (λ t. digits ++ (1 ∷ t)) (take-append-drop v behind) ∙ (ap (λ t. digits ++ t) (sym tail) ∙ take-append-drop n rest))));
      seven = omega (arith, length-drop v behind);
    }

-- the cut is one
pub record AreSame (digits body tail digits' body' tail' : List ℕ) : Type 0 where
  pub digits_same : digits ≡ digits'
  pub body_same : body ≡ body'
  pub tail_same : tail ≡ tail'

pub cut_once : (bytes digits body tail digits' body' tail' : List ℕ) → IsCut bytes digits body tail
    → IsCut bytes digits' body' tail' → AreSame digits body tail digits' body' tail'
cut_once bytes digits body tail digits' body' tail' cut cut' =
    let m = measured_in bytes digits body tail cut in
    let m' = measured_in bytes digits' body' tail' cut' in
    record {
      digits_same = sym m.digits_is ∙ m'.digits_is;
      body_same = sym m.body_is ∙ m'.body_is;
      tail_same = sym m.tail_is ∙ m'.tail_is;
    }

-- a body has at most 4,071 bytes, since the length of a longer one has four digits
pub body_fits : (bytes digits body tail : List ℕ) → IsCut bytes digits body tail → length body ≤ 4071
body_fits bytes digits body tail cut =
    let fits = cut.fits in
    let whole : length bytes ≡ length digits + length body + 21 =
    omega (arith, ap length (rest_of_cut bytes digits body tail cut.text), ap length cut.text, length-append (digits ++ (1 ∷ body)) tail, length-append digits (1 ∷ body), cut.seven) in
    elim (cases_lt 3 (length digits)) [
      | inl long ↦ omega arith
      | inr short ↦ (let few : digits_value 10 digits < 1000 = digits_value_short plain digits 3 cut.length_is.all_digits short in omega (arith, cut.length_is.value))
    ]

pub seven_of_cut : (bytes digits body tail : List ℕ) → IsCut bytes digits body tail → 7 ≤ length bytes
seven_of_cut bytes digits body tail cut = omega (arith, ap length cut.text, length-append (front_text digits body) tail, cut.seven)

pub front_of_cut : (bytes digits body tail : List ℕ) → IsCut bytes digits body tail
    → take (length bytes - 7) bytes ≡ front_text digits body
front_of_cut bytes digits body tail cut =
    let n : length bytes - 7 ≡ length (front_text digits body) = omega (arith, ap length cut.text, length-append (front_text digits body) tail, cut.seven) in
    rw (n, cut.text) (take-append_seam (front_text digits body) tail)

-- CheckSum
abbrev pub end_begins : List ℕ
end_begins = 49 ∷ (48 ∷ (61 ∷ []))

pub end_parts : (tail digits rest : List ℕ) (n : ℕ) → rest ≡ drop 3 tail → n ≡ prefix_len is_ascii_digit (take 3 rest) → IsEnd tail digits
    → (n ≡ 3) × (get_or tail 6 0 ≡ 1) × (take n rest ≡ digits)
end_parts tail digits rest n rest_is n_is end =
    let is : rest ≡ digits ++ (1 ∷ []) = rest_is ∙ ap (drop 3) end.is in
    let three = end.lawful.three in
    let count : n ≡ length digits = n_is ∙ (ap (λ t. prefix_len is_ascii_digit (take 3 t)) is ∙ count_of 3 digits 1 [] end.lawful.all_digits (omega arith) refl) in
    let last : get_or (digits ++ (1 ∷ [])) 3 0 ≡ 1 = ap (λ k. get_or (digits ++ (1 ∷ [])) k 0) (sym three) ∙ get_or-append_seam digits 1 [] 0 in
    (count ∙ three, ap (λ t. get_or t 6 0) end.is ∙ last, rw (count, is) (take-append_seam digits (1 ∷ [])))

pub end_of_parts : (tail : List ℕ) → length tail ≡ 7 → tail ≡ 49 ∷ (48 ∷ (61 ∷ drop 3 tail))
    → prefix_len is_ascii_digit (take 3 (drop 3 tail)) ≡ 3 → get_or tail 6 0 ≡ 1 → IsEnd tail (take 3 (drop 3 tail))
end_of_parts tail seven starts count last =
    let rest = drop 3 tail in
    let long : length rest ≡ 4 = omega (arith, length-drop 3 tail) in
    let at : get_or rest 3 0 ≡ 1 = ap (λ t. get_or t 6 0) (sym starts) ∙ last in
    let one : drop 3 rest ≡ 1 ∷ [] = drop-cons rest 3 0 (omega arith) ∙ (ap (λ t. get_or rest 3 0 ∷ t) (drop_all 4 rest (omega arith)) ∙ ap (λ x. x ∷ []) at) in
    record {
      lawful = record { all_digits = subst (λ k. AllDigits 10 (take k rest)) count (counted_digits 3 rest); three = length-take-le 3 rest (omega arith) };
      is = starts ∙ ap (λ t. 49 ∷ (48 ∷ (61 ∷ t))) (sym (ap (λ t. take 3 rest ++ t) (sym one) ∙ take-append-drop 3 rest));
    }

-- the digits of CheckSum are its own
pub end_once : (digits digits' : List ℕ) → end_text digits ≡ end_text digits' → digits ≡ digits'
end_once digits digits' is = append_cancel_right digits digits' (1 ∷ []) (ap (drop 3) is)

-- bytes that begin as a frame does
pub begins_of : (bytes : List ℕ) (r : Bool) → r ≡ pointwise eqb start_text (take 13 bytes) → r ≡ true → bytes ≡ start_text ++ drop 13 bytes
begins_of bytes r value is = (starts_is Decides-eqb bytes start_text r value).0 is

pub starts_of : (bytes : List ℕ) → length bytes ≤ 4096 → (r : Bool) → r ≡ pointwise eqb start_text (take 13 bytes) → r ≡ true → Starts bytes
starts_of bytes fits r value is = record { fits = fits; rest = drop 13 bytes; text = begins_of bytes r value is }
