-- What is found at the front of bytes, from what the code sees of them.
use Rattle.std.proofs.Common.{◌≡◌, ◌≢◌, ℕ, ◌+◌, ◌-◌, ◌<◌, ◌≤◌, ◌==◌, ◌⊎◌, Bool, true, false, eqb}
use Rattle.std.proofs.Common.{List, [], ◌∷◌, ◌++◌, length, take, drop, get_or, sym, ap, ◌∙◌, subst}
use Rattle.std.proofs.Common.{refl, arith, inl, inr, add-one, append_assoc, length-append}
use Rattle.std.specs.Prelude.{nat_lt}
use Rattle.std.specs.Char.{is_ascii_digit}
use Rattle.std.specs.List.{prefix_len}
use Rattle.std.specs.Str.Parse.{AllDigits, digits_value}
use Rattle.std.proofs.lemmas.Bool.{cases_Bool, cases_lt, false≢true, eqb-true}
use Rattle.std.proofs.lemmas.Bool.Decides.{nat_tests}
use Rattle.std.specs.Cmp.Lexicographic.{pointwise}
use Rattle.std.proofs.lemmas.List.{append-nil, take_rest, take-append-drop, length-take}
use Rattle.std.proofs.lemmas.List.{length-take-le, length-drop, nil_from_length, take_all}
use Rattle.std.proofs.lemmas.List.{get_or-take}
use Rattle.std.proofs.lemmas.List.Sums.{prefix_len-le-length, prefix_len_stops}
use Rattle.std.proofs.Math.Seq.{drop-append-add, drop-cons}
use Rattle.fix_fields.specs.declared.limits.TheConstants.{MOST_FRAME}
use Rattle.fix_fields.specs.declared.fault.StreamFault.TheVariants.{Start, Length, TooLong, End}
use Rattle.fix_fields.specs.Frame.{IsLength, start_text, front_text}
use Rattle.fix_fields.specs.Scan.{IsEnd, WaitsFor, IsWhole}
use Rattle.fix_fields.specs.Envelope.{message_len, front_of, front_in_start, front_in_length}
use Rattle.fix_fields.specs.Envelope.{front_behind_length}
use Rattle.fix_fields.specs.Envelope.Front.{Begun, Whole, Faulty}
use Rattle.fix_fields.proofs.Digits.{counted_digits}
use Rattle.fix_fields.proofs.CutLemmas.{begins_of}
use Rattle.fix_fields.proofs.FrontFacts.{begun_short}
use Rattle.fix_fields.proofs.FrontLemmas.{front_digits, front_measured, front_fault, front_whole}

-- BeginString and the tag of BodyLength

departs : (wanted bytes : List ℕ) → ((more : List ℕ) → ¬ (bytes ≡ wanted ++ more)) → ((more : List ℕ) → ¬ (wanted ≡ bytes ++ more))
    → front_in_start wanted bytes ≡ Faulty Start
unfolding front_in_start
departs [] bytes longer shorter = absurd (longer bytes refl)
departs (first ∷ wanted) [] longer shorter = absurd (shorter (first ∷ wanted) refl)
departs (first ∷ wanted) (byte ∷ bytes) longer shorter =
    elim (cases_Bool (byte == first)) [
      | inl same ↦
          (let own : byte ≡ first = eqb-true byte first same in
          rw same (departs wanted bytes (λ more is. longer more (ap (λ t. byte ∷ t) is ∙ ap (λ b. b ∷ (wanted ++ more)) own))
          (λ more is. shorter more (ap (λ t. first ∷ t) is ∙ ap (λ b. b ∷ (bytes ++ more)) (sym own)))))
      | inr other ↦ rw other refl
    ]

pub found_departs : (bytes : List ℕ) → 13 ≤ length bytes → ((more : List ℕ) → ¬ (bytes ≡ start_text ++ more)) → front_of bytes ≡ Faulty Start
unfolding front_of
found_departs bytes long none =
    departs start_text bytes none (λ more is.
    (let nothing : more ≡ [] = nil_from_length more (omega (arith, ap length is, length-append bytes more)) in
    none [] (sym (is ∙ (ap (λ t. bytes ++ t) nothing ∙ append-nil bytes)))))

pub found_departs_early : (bytes : List ℕ) → length bytes < 13 → ((more : List ℕ) → ¬ (start_text ≡ bytes ++ more)) → front_of bytes ≡ Faulty Start
unfolding front_of
found_departs_early bytes short none =
    departs start_text bytes (λ more is. absurd (omega (arith, ap length is, length-append start_text more))) none

begun_in_start : (bytes more : List ℕ) → 0 < length more → front_in_start (bytes ++ more) bytes ≡ Begun
unfolding front_in_start
begun_in_start [] [] some = absurd (omega arith)
begun_in_start [] (first ∷ more) some = refl
begun_in_start (byte ∷ bytes) more some =
    let test : (byte == byte) ≡ true = grind (arith, nat_tests) in
    rw test (begun_in_start bytes more some)

-- nothing waits for no bytes
waits_for_none : (bytes : List ℕ) → front_of bytes ≡ Begun → WaitsFor 0 bytes
waits_for_none bytes is = record { begun = is; short = begun_short bytes is; waits = λ more less. absurd (omega arith) }

pub found_in_start : (bytes more : List ℕ) → length bytes < 13 → start_text ≡ bytes ++ more → WaitsFor 0 bytes
unfolding front_of
found_in_start bytes more short is =
    waits_for_none bytes (ap (λ t. front_in_start t bytes) is ∙ begun_in_start bytes more (omega (arith, ap length is, length-append bytes more)))

-- BodyLength

-- a count stops at a byte that does not pass, unless it is full or at the end
stops : (most : ℕ) (text : List ℕ) (n : ℕ) → n ≡ prefix_len is_ascii_digit (take most text) → n < most → n < length text
    → is_ascii_digit (get_or text n 0) ≡ false
stops most text n is less inside =
    let before : prefix_len is_ascii_digit (take most text) < length (take most text) = omega (arith, length-take most text) in
    let stop = prefix_len_stops is_ascii_digit (take most text) 0 before in
    let here : get_or (take most text) n 0 ≡ get_or text n 0 = get_or-take most text n 0 less in
    ap is_ascii_digit (sym here ∙ ap (λ k. get_or (take most text) k 0) is) ∙ stop

-- the digits that were counted
pub record AreCounted (bytes rest : List ℕ) (n : ℕ) : Type 0 where
  pub text : bytes ≡ start_text ++ rest
  pub all_digits : AllDigits 10 (take n rest)
  pub count : length (take n rest) ≡ n
  pub few : n ≤ 6
  pub stop : n < 6 → n < length rest → is_ascii_digit (get_or rest n 0) ≡ false

pub counted_at : (bytes rest : List ℕ) (n : ℕ) → bytes ≡ start_text ++ rest → n ≡ prefix_len is_ascii_digit (take 6 rest) → AreCounted bytes rest n
counted_at bytes rest n text is =
    let few = prefix_len-le-length is_ascii_digit (take 6 rest) in
    let size = length-take 6 rest in
    record {
      text = text;
      all_digits = subst (λ k. AllDigits 10 (take k rest)) (sym is) (counted_digits 6 rest);
      count = length-take-le n rest (omega arith);
      few = omega arith;
      stop = λ less inside. stops 6 rest n is less inside;
    }

-- the digits behind BeginString and the tag of BodyLength
pub counted_in : (bytes : List ℕ) (starts : Bool) (n : ℕ) → starts ≡ pointwise eqb start_text (take 13 bytes) → starts ≡ true
    → n ≡ prefix_len is_ascii_digit (take 6 (take (length bytes - 13) (drop 13 bytes)))
    → AreCounted bytes (take (length bytes - 13) (drop 13 bytes)) n
counted_in bytes starts n value is count =
    counted_at bytes _ n (begins_of bytes starts value is ∙ ap (λ t. start_text ++ t) (sym (take_rest bytes 13))) count

split_at : (rest : List ℕ) (n : ℕ) → n < length rest → rest ≡ take n rest ++ (get_or rest n 0 ∷ drop (n + 1) rest)
split_at rest n inside =
    sym (ap (λ t. take n rest ++ t) (sym (drop-cons rest n 0 inside ∙ rw add-one refl)) ∙ take-append-drop n rest)

in_length_none : (digits : List ℕ) → front_in_length digits [] ≡ Begun
unfolding front_in_length
in_length_none digits = refl

-- digits alone
pub found_digits : (bytes rest : List ℕ) (n : ℕ) → AreCounted bytes rest n → n ≡ length rest → WaitsFor 0 bytes
found_digits bytes rest n are all =
    let whole = take_all n rest (omega arith) in
    let digits : AllDigits 10 rest = subst (λ t. AllDigits 10 t) whole are.all_digits in
    let few = are.few in
    waits_for_none bytes (ap front_of (are.text ∙ ap (λ t. start_text ++ t) (sym (append-nil rest)))
    ∙ (front_digits rest [] digits (omega arith) ∙ in_length_none rest))

-- a byte out of place
pub found_no_length : (bytes rest : List ℕ) (n : ℕ) → AreCounted bytes rest n → n < length rest → (n ≡ 0) ⊎ (get_or rest n 0 ≢ 1)
    → front_of bytes ≡ Faulty Length
found_no_length bytes rest n are inside out =
    let few = are.few in
    let count = are.count in
    front_fault Length bytes (record {
      digits = take n rest;
      byte = get_or rest n 0;
      behind = drop (n + 1) rest;
      all_digits = are.all_digits;
      few = omega arith;
      text = are.text ∙ ap (λ t. start_text ++ t) (split_at rest n inside);
      seventh = λ digit. elim (cases_lt n 6) [
        | inl less ↦ absurd (false≢true (sym (are.stop less inside) ∙ digit))
        | inr six ↦ omega arith
      ];
      first = λ soh. elim out [ inl none ↦ omega arith | inr other ↦ absurd (other soh) ];
    })

-- BodyLength is whole
pub record IsHead (bytes digits behind : List ℕ) (n v : ℕ) : Type 0 where
  pub length_is : IsLength digits v
  pub count : length digits ≡ n
  pub text : bytes ≡ start_text ++ (digits ++ (1 ∷ behind))
  pub head_len : message_len digits ≡ 13 + n + 1 + v + 7
  pub size : length bytes ≡ 13 + n + 1 + length behind

pub head_at : (bytes rest : List ℕ) (n v : ℕ) → AreCounted bytes rest n → 0 < n → n < length rest → get_or rest n 0 ≡ 1
    → v ≡ digits_value 10 (take n rest) → IsHead bytes (take n rest) (drop (n + 1) rest) n v
head_at bytes rest n v are some inside soh value =
    let digits = take n rest in
    let behind = drop (n + 1) rest in
    let few = are.few in
    let count = are.count in
    let text : bytes ≡ start_text ++ (digits ++ (1 ∷ behind)) =
    are.text ∙ (ap (λ t. start_text ++ t) (split_at rest n inside) ∙ ap (λ b. start_text ++ (digits ++ (b ∷ behind))) soh) in
    record {
      length_is = record { all_digits = are.all_digits; some = omega arith; few = omega arith; value = sym value };
      count = count;
      text = text;
      head_len = omega (arith, length-append digits (1 ∷ []));
      size = omega (arith, ap length text, length-append digits (1 ∷ behind));
    }

pub found_too_long : (bytes digits behind : List ℕ) (n v : ℕ) → IsHead bytes digits behind n v → MOST_FRAME < 13 + n + 1 + v + 7
    → front_of bytes ≡ Faulty TooLong
found_too_long bytes digits behind n v is long =
    let size = is.head_len in
    let value = is.length_is.value in
    front_fault TooLong bytes (record {
      length_digits = digits;
      behind = behind;
      length_is = record { all_digits = is.length_is.all_digits; some = is.length_is.some; few = is.length_is.few; value = refl };
      text = is.text;
      long = omega arith;
    })

-- a message of which bytes are still to come
short_is_begun : (bytes digits behind : List ℕ) (n v : ℕ) → IsHead bytes digits behind n v → 13 + n + 1 + v + 7 ≤ MOST_FRAME
    → length bytes < 13 + n + 1 + v + 7 → front_of bytes ≡ Begun
unfolding front_behind_length
short_is_begun bytes digits behind n v is fits short =
    let value = is.length_is.value in
    let size = is.size in
    let whole = is.head_len in
    let test : nat_lt MOST_FRAME (message_len digits) ≡ false = grind (arith, nat_tests) in
    let less : nat_lt (length behind) (digits_value 10 digits + 7) ≡ true = grind (arith, nat_tests) in
    ap front_of is.text ∙ (front_measured digits behind v is.length_is ∙ rw (test, less) refl)

head_more : (bytes digits behind more : List ℕ) (n v : ℕ) → IsHead bytes digits behind n v → IsHead (bytes ++ more) digits (behind ++ more) n v
head_more bytes digits behind more n v is =
    let size = is.size in
    record {
      length_is = is.length_is;
      count = is.count;
      text = ap (λ t. t ++ more) is.text ∙ ap (λ t. start_text ++ t) (append_assoc digits (1 ∷ behind) more);
      head_len = is.head_len;
      size = omega (arith, length-append bytes more, length-append behind more);
    }

pub found_begun : (bytes digits behind : List ℕ) (n v : ℕ) → IsHead bytes digits behind n v → 13 + n + 1 + v + 7 ≤ MOST_FRAME
    → length bytes < 13 + n + 1 + v + 7 → WaitsFor (13 + n + 1 + v + 7) bytes
found_begun bytes digits behind n v is fits short = record {
  begun = short_is_begun bytes digits behind n v is fits short;
  short = omega arith;
  waits = λ more less. short_is_begun (bytes ++ more) digits (behind ++ more) n v (head_more bytes digits behind more n v is) fits less;
}

-- the seven bytes behind the body
pub record HasSeven (digits behind tail : List ℕ) (v : ℕ) : Type 0 where
  pub body_len : length (take v behind) ≡ v
  pub seven : length tail ≡ 7
  pub text : behind ≡ take v behind ++ (tail ++ drop 7 (drop v behind))

seven_at : (bytes digits behind tail : List ℕ) (n v : ℕ) → IsHead bytes digits behind n v → 13 + n + 1 + v + 7 ≤ length bytes
    → tail ≡ take 7 (drop (13 + n + 1 + v) bytes) → HasSeven digits behind tail v
seven_at bytes digits behind tail n v is enough tail_is =
    let size = is.size in
    let count = is.count in
    let head = start_text ++ (digits ++ (1 ∷ [])) in
    let parts : bytes ≡ head ++ behind = is.text ∙ ap (λ t. start_text ++ t) (sym (append_assoc digits (1 ∷ []) behind)) in
    let at : 13 + n + 1 + v ≡ length head + v = omega (arith, length-append digits (1 ∷ [])) in
    let there : drop (13 + n + 1 + v) bytes ≡ drop v behind = rw (at, parts) (drop-append-add head behind v) in
    let own : tail ≡ take 7 (drop v behind) = tail_is ∙ ap (λ t. take 7 t) there in
    record {
      body_len = length-take-le v behind (omega arith);
      seven = ap length own ∙ length-take-le 7 (drop v behind) (omega (arith, length-drop v behind));
      text = sym (ap (λ t. take v behind ++ (t ++ drop 7 (drop v behind))) own
          ∙ (ap (λ t. take v behind ++ t) (take-append-drop 7 (drop v behind)) ∙ take-append-drop v behind));
    }

text_of_seven : (bytes digits behind tail : List ℕ) (n v : ℕ) → IsHead bytes digits behind n v → HasSeven digits behind tail v
    → bytes ≡ front_text digits (take v behind) ++ (tail ++ drop 7 (drop v behind))
text_of_seven bytes digits behind tail n v is has =
    is.text ∙ (ap (λ t. start_text ++ (digits ++ (1 ∷ t))) has.text
    ∙ ap (λ t. start_text ++ t) (sym (append_assoc digits (1 ∷ take v behind) (tail ++ drop 7 (drop v behind)))))

pub found_no_end : (bytes digits behind tail : List ℕ) (n v : ℕ) → IsHead bytes digits behind n v → 13 + n + 1 + v + 7 ≤ MOST_FRAME
    → 13 + n + 1 + v + 7 ≤ length bytes → tail ≡ take 7 (drop (13 + n + 1 + v) bytes) → ((sum_digits : List ℕ) → ¬ IsEnd tail sum_digits)
    → front_of bytes ≡ Faulty End
found_no_end bytes digits behind tail n v is fits enough tail_is none =
    let has = seven_at bytes digits behind tail n v is enough tail_is in
    let whole = is.head_len in
    front_fault End bytes (record {
      length_digits = digits;
      body = take v behind;
      tail = tail;
      behind = drop 7 (drop v behind);
      length_is = subst (λ k. IsLength digits k) (sym has.body_len) is.length_is;
      fits = omega arith;
      seven = has.seven;
      text = text_of_seven bytes digits behind tail n v is has;
      no_end = λ sum_digits are own. none sum_digits (record { lawful = are; is = own });
    })

pub found_whole : (bytes digits behind tail sum_digits : List ℕ) (n v : ℕ) → IsHead bytes digits behind n v → 13 + n + 1 + v + 7 ≤ MOST_FRAME
    → 13 + n + 1 + v + 7 ≤ length bytes → tail ≡ take 7 (drop (13 + n + 1 + v) bytes) → IsEnd tail sum_digits
    → IsWhole (13 + n + 1 + v + 7) bytes
found_whole bytes digits behind tail sum_digits n v is fits enough tail_is end =
    let has = seven_at bytes digits behind tail n v is enough tail_is in
    let body = take v behind in
    let message = front_text digits body ++ tail in
    let count = is.count in
    let body_len = has.body_len in
    let seven = has.seven in
    let size : length message ≡ 13 + n + 1 + v + 7 = omega (arith, length-append (digits ++ (1 ∷ body)) tail, length-append digits (1 ∷ body)) in
    let whole : front_of bytes ≡ Whole (13 + n + 1 + v + 7) =
    ap front_of (text_of_seven bytes digits behind tail n v is has ∙ sym (append_assoc (front_text digits body) tail (drop 7 (drop v behind))))
    ∙ (front_whole message (drop 7 (drop v behind)) (record {
      length_digits = digits;
      body = body;
      sum_digits = sum_digits;
      length_is = subst (λ k. IsLength digits k) (sym body_len) is.length_is;
      sum_is = end.lawful;
      text = ap (λ t. front_text digits body ++ t) end.is;
      fits = omega arith;
    }) ∙ ap Whole size) in
    record { whole = whole; some = omega arith; inside = enough }
