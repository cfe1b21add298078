-- What stands at the front of a stream is what the function answers, whatever bytes come behind.
use Rattle.std.proofs.Common.{◌≡◌, ◌≢◌, ℕ, ◌+◌, ◌<◌, ◌≤◌, ◌==◌, ◌&&◌, true, false, List, [], ◌∷◌}
use Rattle.std.proofs.Common.{◌++◌, length, take, drop, sym, ap, ◌∙◌, subst, refl, arith, inl, inr}
use Rattle.std.proofs.Common.{append_assoc, length-append}
use Rattle.std.specs.Prelude.{nat_lt}
use Rattle.std.specs.Char.{is_ascii_digit}
use Rattle.std.specs.Str.Parse.{AllDigits, digits_value}
use Rattle.std.proofs.lemmas.Bool.{cases_Bool, eqb-true}
use Rattle.std.proofs.lemmas.Bool.Decides.{nat_tests, Decides-eqb}
use Rattle.std.proofs.lemmas.List.{append-nil}
use Rattle.std.proofs.Math.Seq.{take-append_seam, drop-append_seam}
use Rattle.fix_fields.specs.declared.limits.TheConstants.{MOST_FRAME}
use Rattle.fix_fields.specs.declared.fault.StreamFault.{StreamFault}
use Rattle.fix_fields.specs.declared.fault.StreamFault.TheVariants.{Start, Length, TooLong, End}
use Rattle.fix_fields.specs.declared.fault.StreamFault.TheVariants.{Memory}
use Rattle.fix_fields.specs.Frame.{IsLength, AreSumDigits, start_text, front_text, end_text}
use Rattle.fix_fields.specs.Envelope.{IsEnvelope, DepartsFromStart, HasNoLength, IsTooLong}
use Rattle.fix_fields.specs.Envelope.{HasNoEnd, IsStreamFault, message_len, is_end, front_of}
use Rattle.fix_fields.specs.Envelope.{front_in_start, front_in_length, front_behind_length}
use Rattle.fix_fields.specs.Envelope.Front.{Whole, Faulty}
use Rattle.fix_fields.proofs.Digits.{is_digit}
use Rattle.fix_fields.proofs.FrontFacts.{end_from_test, end_test, message_len_is, has_fault}
use Rattle.fix_fields.proofs.FrontFacts.{has_whole}

-- from the facts to the function

in_length_digits : (more digits bytes : List ℕ) → AllDigits 10 more → length digits + length more ≤ 6
    → front_in_length digits (more ++ bytes) ≡ front_in_length (digits ++ more) bytes
unfolding front_in_length
in_length_digits [] digits bytes all few = ap (λ t. front_in_length t bytes) (sym (append-nil digits))
in_length_digits (digit ∷ more) digits bytes all few =
    let test : is_ascii_digit digit ≡ true = is_digit digit all.0 in
    let room : nat_lt (length digits) 6 ≡ true = grind (arith, nat_tests) in
    rw (test, room) (in_length_digits more (digits ++ (digit ∷ [])) bytes all.1 (omega (arith, length-append digits (digit ∷ [])))
    ∙ ap (λ t. front_in_length t bytes) (append_assoc digits (digit ∷ []) more))

front_behind_start : (bytes : List ℕ) → front_of (start_text ++ bytes) ≡ front_in_length [] bytes
unfolding front_of front_in_start
front_behind_start bytes = refl

pub front_digits : (digits bytes : List ℕ) → AllDigits 10 digits → length digits ≤ 6
    → front_of (start_text ++ (digits ++ bytes)) ≡ front_in_length digits bytes
front_digits digits bytes all few =
    front_behind_start (digits ++ bytes) ∙ in_length_digits digits [] bytes all (omega arith)

ended_length : (digits bytes : List ℕ) → 0 < length digits → front_in_length digits (1 ∷ bytes) ≡ front_behind_length digits bytes
unfolding front_in_length
ended_length digits bytes some = let test : nat_lt 0 (length digits) ≡ true = grind (arith, nat_tests) in rw test refl

pub front_measured : (digits bytes : List ℕ) (n : ℕ) → IsLength digits n
    → front_of (start_text ++ (digits ++ (1 ∷ bytes))) ≡ front_behind_length digits bytes
front_measured digits bytes n is = front_digits digits (1 ∷ bytes) is.all_digits is.few ∙ ended_length digits bytes is.some

in_start_departs : (before more : List ℕ) (wanted byte : ℕ) (behind : List ℕ) → byte ≢ wanted
    → front_in_start (before ++ (wanted ∷ more)) (before ++ (byte ∷ behind)) ≡ Faulty Start
unfolding front_in_start
in_start_departs [] more wanted byte behind other =
    let test : (byte == wanted) ≡ false = grind (arith, nat_tests) in rw test refl
in_start_departs (first ∷ before) more wanted byte behind other =
    let test : (first == first) ≡ true = (Decides-eqb first first).1 refl in
    rw test (in_start_departs before more wanted byte behind other)

front_departs : (bytes : List ℕ) → DepartsFromStart bytes → front_of bytes ≡ Faulty Start
unfolding front_of
front_departs bytes is =
    rw is.text (ap (λ t. front_in_start t (is.before ++ (is.byte ∷ is.behind))) is.start
    ∙ in_start_departs is.before is.more is.wanted is.byte is.behind is.other)

stray_byte : (digits : List ℕ) (byte : ℕ) (bytes : List ℕ) → (is_ascii_digit byte ≡ true → length digits ≡ 6) → (byte ≡ 1 → length digits ≡ 0)
    → front_in_length digits (byte ∷ bytes) ≡ Faulty Length
unfolding front_in_length
stray_byte digits byte bytes seventh first =
    let no_digit : (is_ascii_digit byte && nat_lt (length digits) 6) ≡ false =
    elim (cases_Bool (is_ascii_digit byte)) [
      | inl is ↦ (let six = seventh is in let t : nat_lt (length digits) 6 ≡ false = grind (arith, nat_tests) in rw (is, t) refl)
      | inr not ↦ rw not refl
    ] in
    let no_end : ((byte == 1) && nat_lt 0 (length digits)) ≡ false =
    elim (cases_Bool (byte == 1)) [
      | inl is ↦ (let none = first (eqb-true byte 1 is) in let t : nat_lt 0 (length digits) ≡ false = grind (arith, nat_tests) in rw (is, t) refl)
      | inr not ↦ rw not refl
    ] in
    rw (no_digit, no_end) refl

front_no_length : (bytes : List ℕ) → HasNoLength bytes → front_of bytes ≡ Faulty Length
front_no_length bytes is =
    rw is.text (front_digits is.digits (is.byte ∷ is.behind) is.all_digits is.few ∙ stray_byte is.digits is.byte is.behind is.seventh is.first)

front_too_long : (bytes : List ℕ) → IsTooLong bytes → front_of bytes ≡ Faulty TooLong
unfolding front_behind_length
front_too_long bytes is =
    let test : nat_lt MOST_FRAME (message_len is.length_digits) ≡ true = (let long = is.long in grind (arith, nat_tests)) in
    rw is.text (front_measured is.length_digits is.behind _ is.length_is ∙ rw test refl)

-- what stands behind a body that fits
pub record HasTail (digits body tail behind : List ℕ) : Type 0 where
  pub test : nat_lt MOST_FRAME (message_len digits) ≡ false
  pub there : nat_lt (length (body ++ (tail ++ behind))) (digits_value 10 digits + 7) ≡ false
  pub tail_is : take 7 (drop (digits_value 10 digits) (body ++ (tail ++ behind))) ≡ tail

has_tail : (digits body tail behind : List ℕ) → IsLength digits (length body) → message_len digits ≤ MOST_FRAME → length tail ≡ 7
    → HasTail digits body tail behind
has_tail digits body tail behind is fits seven =
    let value = is.value in
    let long : length (body ++ (tail ++ behind)) ≡ length body + (7 + length behind) = omega (arith, length-append body (tail ++ behind), length-append tail behind) in
    record {
      test = grind (arith, nat_tests);
      there = grind (arith, nat_tests);
      tail_is = rw (value, drop-append_seam body (tail ++ behind)) (subst (λ k. take k (tail ++ behind) ≡ tail) seven (take-append_seam tail behind));
    }

text_of_parts : (digits body rest : List ℕ) → front_text digits body ++ rest ≡ start_text ++ (digits ++ (1 ∷ (body ++ rest)))
text_of_parts digits body rest = ap (λ t. start_text ++ t) (append_assoc digits (1 ∷ body) rest)

front_no_end : (bytes : List ℕ) → HasNoEnd bytes → front_of bytes ≡ Faulty End
unfolding front_behind_length
front_no_end bytes is =
    let has = has_tail is.length_digits is.body is.tail is.behind is.length_is is.fits is.seven in
    let none : is_end is.tail ≡ false =
    elim (cases_Bool (is_end is.tail)) [
      | inl end ↦ (let own = end_from_test is.tail is.seven end in absurd (is.no_end (take 3 (drop 3 is.tail)) own.0 own.1))
      | inr not ↦ not
    ] in
    rw (is.text, text_of_parts is.length_digits is.body (is.tail ++ is.behind))
    (front_measured is.length_digits (is.body ++ (is.tail ++ is.behind)) _ is.length_is ∙ rw (has.test, has.there, has.tail_is, none) refl)

seven_long : (digits : List ℕ) → AreSumDigits digits → length (end_text digits) ≡ 7
seven_long digits are = let three = are.three in omega (arith, length-append digits (1 ∷ []))

pub envelope_len : (message : List ℕ) (is : IsEnvelope message) → length message ≡ message_len is.length_digits
envelope_len message is =
    omega (
      arith,
      ap length is.text,
      length-append (front_text is.length_digits is.body) (end_text is.sum_digits),
      seven_long is.sum_digits is.sum_is,
      message_len_is is.length_digits is.body is.length_is,
    )

pub front_whole : (message behind : List ℕ) → IsEnvelope message → front_of (message ++ behind) ≡ Whole (length message)
unfolding front_behind_length
front_whole message behind is =
    let long = envelope_len message is in
    let fits = is.fits in
    let has = has_tail is.length_digits is.body (end_text is.sum_digits) behind is.length_is (omega arith) (seven_long is.sum_digits is.sum_is) in
    let end : is_end (end_text is.sum_digits) ≡ true = end_test is.sum_digits is.sum_is in
    let text : message ++ behind ≡ start_text ++ (is.length_digits ++ (1 ∷ (is.body ++ (end_text is.sum_digits ++ behind)))) =
    ap (λ t. t ++ behind) is.text ∙ (append_assoc (front_text is.length_digits is.body) (end_text is.sum_digits) behind
    ∙ text_of_parts is.length_digits is.body (end_text is.sum_digits ++ behind)) in
    rw text (front_measured is.length_digits (is.body ++ (end_text is.sum_digits ++ behind)) _ is.length_is
    ∙ rw (has.test, has.there, has.tail_is, end) (ap Whole (sym long)))

pub front_fault : (fault : StreamFault) (bytes : List ℕ) → IsStreamFault fault bytes → front_of bytes ≡ Faulty fault
front_fault Start bytes is = front_departs bytes is
front_fault Length bytes is = front_no_length bytes is
front_fault TooLong bytes is = front_too_long bytes is
front_fault End bytes is = front_no_end bytes is
front_fault Memory bytes is = absurd is

-- an answer stands whatever bytes come

pub fault_more : (fault : StreamFault) (bytes more : List ℕ) → IsStreamFault fault bytes → IsStreamFault fault (bytes ++ more)
fault_more Start bytes more is = record {
  before = is.before;
  wanted = is.wanted;
  more = is.more;
  byte = is.byte;
  behind = is.behind ++ more;
  start = is.start;
  text = ap (λ t. t ++ more) is.text ∙ append_assoc is.before (is.byte ∷ is.behind) more;
  other = is.other;
}
fault_more Length bytes more is = record {
  digits = is.digits;
  byte = is.byte;
  behind = is.behind ++ more;
  all_digits = is.all_digits;
  few = is.few;
  text = ap (λ t. t ++ more) is.text ∙ ap (λ t. start_text ++ t) (append_assoc is.digits (is.byte ∷ is.behind) more);
  seventh = is.seventh;
  first = is.first;
}
fault_more TooLong bytes more is = record {
  length_digits = is.length_digits;
  behind = is.behind ++ more;
  length_is = is.length_is;
  text = ap (λ t. t ++ more) is.text ∙ ap (λ t. start_text ++ t) (append_assoc is.length_digits (1 ∷ is.behind) more);
  long = is.long;
}
fault_more End bytes more is = record {
  length_digits = is.length_digits;
  body = is.body;
  tail = is.tail;
  behind = is.behind ++ more;
  length_is = is.length_is;
  fits = is.fits;
  seven = is.seven;
  text = ap (λ t. t ++ more) is.text ∙ (append_assoc (front_text is.length_digits is.body) (is.tail ++ is.behind) more
      ∙ ap (λ t. front_text is.length_digits is.body ++ t) (append_assoc is.tail is.behind more));
  no_end = is.no_end;
}
fault_more Memory bytes more is = absurd is

pub front_more_faulty : (bytes more : List ℕ) (fault : StreamFault) → front_of bytes ≡ Faulty fault → front_of (bytes ++ more) ≡ Faulty fault
front_more_faulty bytes more fault is = front_fault fault (bytes ++ more) (fault_more fault bytes more (has_fault bytes fault is))

pub front_more_whole : (bytes more : List ℕ) (n : ℕ) → front_of bytes ≡ Whole n → front_of (bytes ++ more) ≡ Whole n
front_more_whole bytes more n is =
    let has = has_whole bytes n is in
    ap (λ t. front_of (t ++ more)) has.text ∙ (ap front_of (append_assoc has.message has.behind more)
    ∙ (front_whole has.message (has.behind ++ more) has.envelope ∙ ap Whole has.long))
