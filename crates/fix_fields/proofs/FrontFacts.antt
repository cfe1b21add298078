-- What the answer on the front of a stream says of its bytes.
use Rattle.std.proofs.Common.{◌≡◌, ℕ, ◌+◌, ◌<◌, ◌≤◌, ◌==◌, ◌&&◌, ◌⊎◌, true, false, List, [], ◌∷◌}
use Rattle.std.proofs.Common.{◌++◌, length, take, drop, sym, ap, ◌∙◌, subst, refl, arith, inl, inr}
use Rattle.std.proofs.Common.{append_assoc, length-append}
use Rattle.std.specs.Prelude.{nat_lt, codes}
use Rattle.std.specs.Char.{is_ascii_digit}
use Rattle.std.specs.Str.{all_ascii_digits}
use Rattle.std.specs.Str.Parse.{AllDigits, digits_value}
use Rattle.std.proofs.lemmas.Bool.{and_parts, cases_Bool, false≢true, eqb-true}
use Rattle.std.proofs.lemmas.Bool.Decides.{nat_tests, Decides-eqb}
use Rattle.std.proofs.lemmas.Slice.Eq.{bytes_eq-Decides}
use Rattle.std.proofs.lemmas.List.{append-nil, take-append-drop, length-take-le, length-drop}
use Rattle.fix_fields.specs.declared.limits.TheConstants.{MOST_FRAME}
use Rattle.fix_fields.specs.declared.fault.StreamFault.{StreamFault}
use Rattle.fix_fields.specs.Frame.{IsLength, AreSumDigits, start_text, front_text, end_text}
use Rattle.fix_fields.specs.Envelope.{IsEnvelope, IsStreamFault, message_len, is_end, Front}
use Rattle.fix_fields.specs.Envelope.{front_of, front_in_start, front_in_length}
use Rattle.fix_fields.specs.Envelope.{front_behind_length}
use Rattle.fix_fields.specs.Envelope.Front.{Begun, Whole, Faulty}
use Rattle.fix_fields.proofs.Digits.{tested, digit_is}

-- the bytes begin with a message of n bytes
pub record HasWhole (n : ℕ) (bytes : List ℕ) : Type 0 where
  pub message : List ℕ
  pub behind : List ℕ
  pub envelope : IsEnvelope message
  pub long : length message ≡ n
  pub text : bytes ≡ message ++ behind

-- what an answer says of the bytes
abbrev pub Says : Front → List ℕ → Type 0
Says Begun bytes = length bytes < MOST_FRAME
Says (Whole n) bytes = HasWhole n bytes
Says (Faulty fault) bytes = IsStreamFault fault bytes

-- an answer is one of three
pub cases_Front : (v : Front) → (v ≡ Begun) ⊎ (((n : ℕ) × (v ≡ Whole n)) ⊎ ((fault : StreamFault) × (v ≡ Faulty fault)))
cases_Front Begun = inl refl
cases_Front (Whole n) = inr (inl (n, refl))
cases_Front (Faulty fault) = inr (inr (fault, refl))

-- CheckSum
pub end_from_test : (tail : List ℕ) → length tail ≡ 7 → is_end tail ≡ true
    → AreSumDigits (take 3 (drop 3 tail)) × (tail ≡ end_text (take 3 (drop 3 tail)))
end_from_test (a ∷ (b ∷ (c ∷ (d ∷ (e ∷ (f ∷ (g ∷ []))))))) long test =
    let tail = a ∷ (b ∷ (c ∷ (d ∷ (e ∷ (f ∷ (g ∷ [])))))) in
    let two = and_parts _ _ test in
    let one = and_parts _ _ two.0 in
    let front : a ∷ (b ∷ (c ∷ [])) ≡ codes "10=" = (bytes_eq-Decides (take 3 tail) (codes "10=")).0 one.0 in
    let last : g ∷ [] ≡ 1 ∷ [] = (bytes_eq-Decides (drop 6 tail) (1 ∷ [])).0 two.1 in
    let digits : AllDigits 10 (d ∷ (e ∷ (f ∷ []))) = tested.to (d ∷ (e ∷ (f ∷ []))) one.1 in (
      record { all_digits = digits; three = refl },
      ap (λ t. t ++ (d ∷ (e ∷ (f ∷ (g ∷ []))))) front ∙ ap (λ t. codes "10=" ++ (d ∷ (e ∷ (f ∷ t)))) last,
    )
end_from_test _ long test = absurd (omega arith)

pub end_test : (digits : List ℕ) → AreSumDigits digits → is_end (end_text digits) ≡ true
end_test (d ∷ (e ∷ (f ∷ []))) are =
    let digits : all_ascii_digits (d ∷ (e ∷ (f ∷ []))) ≡ true = tested.from (d ∷ (e ∷ (f ∷ []))) are.all_digits in
    rw digits refl
end_test [] are = absurd (let three = are.three in omega arith)
end_test _ are = absurd (let three = are.three in omega arith)

-- how long a message is
pub message_len_is : (digits body : List ℕ) → IsLength digits (length body)
    → message_len digits ≡ length (front_text digits body) + 7
message_len_is digits body is =
    let value = is.value in
    omega (arith, length-append digits (1 ∷ []), length-append digits (1 ∷ body))

-- from the function to the facts

behind_says : (digits bytes : List ℕ) → AllDigits 10 digits → 0 < length digits → length digits ≤ 6
    → Says (front_behind_length digits bytes) (start_text ++ (digits ++ (1 ∷ bytes)))
unfolding front_behind_length
behind_says digits bytes all some few =
    let n = digits_value 10 digits in
    elim (cases_Bool (nat_lt MOST_FRAME (message_len digits))) [
      | inl long ↦ rw long (record {
        length_digits = digits;
        behind = bytes;
        length_is = record { all_digits = all; some = some; few = few; value = refl };
        text = refl;
        long = (let t = long in grind (arith, nat_tests));
      })
      | inr fits ↦ elim (cases_Bool (nat_lt (length bytes) (n + 7))) [
        | inl short ↦
            (let few_bytes : length bytes < n + 7 = (let t = short in grind (arith, nat_tests)) in
            let most : message_len digits ≤ MOST_FRAME = (let t = fits in grind (arith, nat_tests)) in
            rw (fits, short) (omega (arith, length-append digits (1 ∷ bytes), length-append digits (1 ∷ []))))
        | inr there ↦
            (let enough : n + 7 ≤ length bytes = (let t = there in grind (arith, nat_tests)) in
            let most : message_len digits ≤ MOST_FRAME = (let t = fits in grind (arith, nat_tests)) in
            let body = take n bytes in
            let tail = take 7 (drop n bytes) in
            let behind = drop 7 (drop n bytes) in
            let body_len : length body ≡ n = length-take-le n bytes (omega arith) in
            let seven : length tail ≡ 7 = length-take-le 7 (drop n bytes) (omega (arith, length-drop n bytes)) in
            let measure : IsLength digits (length body) = record { all_digits = all; some = some; few = few; value = sym body_len } in
            let parts : bytes ≡ body ++ (tail ++ behind) =
            sym (ap (λ t. body ++ t) (take-append-drop 7 (drop n bytes)) ∙ take-append-drop n bytes) in
            let text : start_text ++ (digits ++ (1 ∷ bytes)) ≡ front_text digits body ++ (tail ++ behind) =
            ap (λ t. start_text ++ (digits ++ (1 ∷ t))) parts
            ∙ ap (λ t. start_text ++ t) (sym (append_assoc digits (1 ∷ body) (tail ++ behind))) in
            elim (cases_Bool (is_end tail)) [
              | inl end ↦
                  (let is = end_from_test tail seven end in
                  let sum_digits = take 3 (drop 3 tail) in
                  let whole : message_len digits ≡ length (front_text digits body) + 7 = message_len_is digits body measure in
                  let size : length (front_text digits body ++ tail) ≡ message_len digits = omega (arith, length-append (front_text digits body) tail) in
                  rw (fits, there, end) (record {
                    message = front_text digits body ++ tail;
                    behind = behind;
                    envelope = record {
                      length_digits = digits;
                      body = body;
                      sum_digits = sum_digits;
                      length_is = measure;
                      sum_is = is.0;
                      text = ap (λ t. front_text digits body ++ t) is.1;
                      fits = omega arith;
                    };
                    long = size;
                    text = text ∙ sym (append_assoc (front_text digits body) tail behind);
                  }))
              | inr none ↦ rw (fits, there, none) (record {
                length_digits = digits;
                body = body;
                tail = tail;
                behind = behind;
                length_is = measure;
                fits = most;
                seven = seven;
                text = text;
                no_end = λ sum_digits are is. false≢true (sym none ∙ (ap is_end is ∙ end_test sum_digits are));
              })
            ])
      ]
    ]

digits_push : (digits : List ℕ) (byte : ℕ) → AllDigits 10 digits → is_ascii_digit byte ≡ true → AllDigits 10 (digits ++ (byte ∷ []))
digits_push [] byte all test = (digit_is byte test, tt)
digits_push (digit ∷ digits) byte all test = (all.0, digits_push digits byte all.1 test)

length_says : (bytes digits : List ℕ) → AllDigits 10 digits → length digits ≤ 6
    → Says (front_in_length digits bytes) (start_text ++ (digits ++ bytes))
unfolding front_in_length
length_says [] digits all few = omega (arith, length-append digits [])
length_says (byte ∷ bytes) digits all few =
    elim (cases_Bool (is_ascii_digit byte && nat_lt (length digits) 6)) [
      | inl more ↦
          (let parts = and_parts (is_ascii_digit byte) (nat_lt (length digits) 6) more in
          let room : length digits < 6 = (let t = parts.1 in grind (arith, nat_tests)) in
          rw more (subst (λ t. Says (front_in_length (digits ++ (byte ∷ [])) bytes) (start_text ++ t)) (append_assoc digits (byte ∷ []) bytes)
          (length_says bytes (digits ++ (byte ∷ [])) (digits_push digits byte all parts.0) (omega (arith, length-append digits (byte ∷ []))))))
      | inr past ↦ elim (cases_Bool ((byte == 1) && nat_lt 0 (length digits))) [
        | inl ended ↦
            (let parts = and_parts (byte == 1) (nat_lt 0 (length digits)) ended in
            let soh : byte ≡ 1 = eqb-true byte 1 parts.0 in
            let some : 0 < length digits = (let t = parts.1 in grind (arith, nat_tests)) in
            rw (past, ended, soh) (behind_says digits bytes all some few))
        | inr stray ↦ rw (past, stray) (record {
          digits = digits;
          byte = byte;
          behind = bytes;
          all_digits = all;
          few = few;
          text = refl;
          seventh = λ digit. (let t : (true && nat_lt (length digits) 6) ≡ false = subst (λ b. (b && nat_lt (length digits) 6) ≡ false) digit past in grind (arith, nat_tests));
          first = λ soh. (let t : ((1 == 1) && nat_lt 0 (length digits)) ≡ false = subst (λ b. ((b == 1) && nat_lt 0 (length digits)) ≡ false) soh stray in grind (arith, nat_tests));
        })
      ]
    ]

start_says : (wanted before bytes : List ℕ) → start_text ≡ before ++ wanted → Says (front_in_start wanted bytes) (before ++ bytes)
unfolding front_in_start
start_says [] before bytes is =
    subst (λ t. Says (front_in_length [] bytes) (t ++ bytes)) (is ∙ append-nil before) (length_says bytes [] tt (omega arith))
start_says (first ∷ wanted) before [] is =
    omega (arith, ap length is, length-append before (first ∷ wanted), length-append before [])
start_says (first ∷ wanted) before (byte ∷ bytes) is =
    elim (cases_Bool (byte == first)) [
      | inl same ↦
          (let own : byte ≡ first = eqb-true byte first same in
          rw (same, own) (subst (λ t. Says (front_in_start wanted bytes) t) (append_assoc before (first ∷ []) bytes)
          (start_says wanted (before ++ (first ∷ [])) bytes (is ∙ sym (append_assoc before (first ∷ []) wanted)))))
      | inr other ↦ rw other (record {
        before = before;
        wanted = first;
        more = wanted;
        byte = byte;
        behind = bytes;
        start = is;
        text = refl;
        other = λ own. false≢true (sym other ∙ (Decides-eqb byte first).1 own);
      })
    ]

pub front_says : (bytes : List ℕ) → Says (front_of bytes) bytes
unfolding front_of
front_says bytes = start_says start_text [] bytes refl

pub has_fault : (bytes : List ℕ) (fault : StreamFault) → front_of bytes ≡ Faulty fault → IsStreamFault fault bytes
has_fault bytes fault is = subst (λ v. Says v bytes) is (front_says bytes)

pub has_whole : (bytes : List ℕ) (n : ℕ) → front_of bytes ≡ Whole n → HasWhole n bytes
has_whole bytes n is = subst (λ v. Says v bytes) is (front_says bytes)

pub begun_short : (bytes : List ℕ) → front_of bytes ≡ Begun → length bytes < MOST_FRAME
begun_short bytes is = subst (λ v. Says v bytes) is (front_says bytes)
