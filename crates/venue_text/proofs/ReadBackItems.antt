-- Each item of what was due, written as a line and read again.
use Rattle.std.proofs.Common.{◌≡◌, ℕ, ◌/◌, ◌%◌, ◌<◌, ◌==◌, ◌||◌, not, Bool, true, false, cond, List}
use Rattle.std.proofs.Common.{[], ◌∷◌, ◌++◌, length, map, codes, decimal, slice_index, Option, Some}
use Rattle.std.proofs.Common.{Ok, refl, ap, ◌∙◌, arith, inl, inr, zero, suc}
use Rattle.std.specs.List.{list_all, list_any}
use Rattle.std.specs.Result.{result_ok}
use Rattle.std.proofs.lemmas.Bool.{and_parts, cases_Bool, or_parts}
use Rattle.std.proofs.lemmas.Bool.Decides.{nat_tests}
use Rattle.std.proofs.lemmas.Fmt.{decimal_digit}
use Rattle.std.proofs.lemmas.List.{append_assoc}
use Rattle.hex.specs.Hex.{decode_of, encode_lower, encode_with, lower_digits}
use Rattle.fix_fields.specs.TimeOfDay.{time_text}
use Rattle.market_terms.specs.Codes.{close_code}
use Rattle.market_terms.specs.declared.closes.Close.{Close}
use Rattle.market_terms.specs.declared.closes.Close.TheVariants as close
use Rattle.quote_messages.specs.Texts.{number_of}
use Rattle.step_replay.specs.declared.dues.Due.{Due}
use Rattle.step_replay.specs.declared.dues.Due.TheVariants as due
use Rattle.input_lines.specs.DueLines.{close_of, closed_of, drop_of}
use Rattle.input_lines.specs.Lines.{behind_part, first_part, time_of}
use Rattle.input_lines.specs.OptionSteps.{◌>>=◌}
use Rattle.venue_text.specs.ReadBack.{ReadsAs, is_in_line, is_in_part, is_short}
use Rattle.input_lines.specs.SayLine.{hexed_of, received_of, soh_for_bar, with_bar}
use Rattle.venue_text.specs.WrittenDues.{bytes_line, due_line, hex_line, is_unsayable, own_line}
use Rattle.venue_text.proofs.ReadBackParts.{all_append, all_more, behind_is, decimal_in_part}
use Rattle.venue_text.proofs.ReadBackParts.{first_is, in_line, short_back, time_in_part}

-- Numbers.

pub short_word : (n : ℕ) → is_short n ≡ true → list_all is_in_part (decimal n) ≡ true
short_word n short =
    let below : n < 1000000000 = grind (arith, nat_tests) in
    decimal_in_part n (omega arith)

-- A lifting.

pub lifted_back : (date : List ℕ) (quote : ℕ) → is_short quote ≡ true → ReadsAs date (due.Lifted quote)
lifted_back date quote short = record {
  line = codes "lifted " ++ decimal quote;
  written = refl;
  is_one = record {
    in_line = all_append is_in_line (codes "lifted ") (decimal quote) refl
        (in_line (decimal quote) (short_word quote short));
    spoken = refl;
    undivided = refl;
  };
  read = λ firm number.
      ap (λ (n : Option ℕ). (n >>= (λ (quote : ℕ). Some (due.Lifted quote)))
      >>= (λ (item : Due). Some (item, number))) (short_back quote short);
}

-- A drop.

drop_with : Option ℕ → Option ℕ → Option Due
drop_with last moment = do
  last ← last
  moment ← moment
  Some (due.Drop last moment)

drop_by : (date text : List ℕ) (last moment : ℕ) → number_of (first_part text) ≡ Some last
    → time_of date (behind_part text) ≡ Some moment → drop_of date text ≡ Some (due.Drop last moment)
unfolding drop_of drop_with
drop_by date text last moment one two =
    ap (λ (n : Option ℕ). drop_with n (time_of date (behind_part text))) one
    ∙ ap (λ (t : Option ℕ). drop_with (Some last) t) two

pub drop_back : (date : List ℕ) (last moment : ℕ) → is_short last ≡ true
    → time_of date (time_text moment) ≡ Some moment → ReadsAs date (due.Drop last moment)
drop_back date last moment short time =
    let word = short_word last short in
    let rest = decimal last ++ 32 ∷ time_text moment in
    record {
      line = codes "drop " ++ rest;
      written = refl;
      is_one = record {
        in_line = all_append is_in_line (codes "drop ") rest refl
            (all_append is_in_line (decimal last) (32 ∷ time_text moment) (in_line (decimal last) word)
            (all_more is_in_line 32 (time_text moment) refl
            (in_line (time_text moment) (time_in_part moment))));
        spoken = refl;
        undivided = refl;
      };
      read = λ firm number.
          ap (λ (item : Option Due). item >>= (λ (item : Due). Some (item, number)))
          (drop_by date rest last moment
          (ap number_of (first_is (decimal last) (time_text moment) word) ∙ short_back last short)
          (ap (time_of date) (behind_is (decimal last) (time_text moment) word) ∙ time));
    }

-- How a request ended.

close_word : (how : Close) → (list_all is_in_part (decimal (close_code how)) ≡ true)
    × (close_of (decimal (close_code how)) ≡ Some how)
close_word close.Hit = rw (decimal_digit 1 (omega arith)) (refl, refl)
close_word close.Expired = rw (decimal_digit 3 (omega arith)) (refl, refl)
close_word close.Cover = rw (decimal_digit 4 (omega arith)) (refl, refl)
close_word close.DoneAway = rw (decimal_digit 5 (omega arith)) (refl, refl)
close_word close.Pass = rw (decimal_digit 6 (omega arith)) (refl, refl)

closed_with : Option ℕ → Option Close → Option ℕ → Option Due
closed_with number how moment = do
  number ← number
  how ← how
  moment ← moment
  Some (due.Closed number how moment)

closed_by : (date text : List ℕ) (number : ℕ) (how : Close) (moment : ℕ)
    → number_of (first_part text) ≡ Some number → close_of (first_part (behind_part text)) ≡ Some how
    → time_of date (behind_part (behind_part text)) ≡ Some moment
    → closed_of date text ≡ Some (due.Closed number how moment)
unfolding closed_of closed_with
closed_by date text number how moment one two three =
    ap (λ (n : Option ℕ). closed_with n (close_of (first_part (behind_part text)))
    (time_of date (behind_part (behind_part text)))) one
    ∙ ap (λ (h : Option Close). closed_with (Some number) h
    (time_of date (behind_part (behind_part text)))) two
    ∙ ap (λ (t : Option ℕ). closed_with (Some number) (Some how) t) three

pub closed_back : (date : List ℕ) (number : ℕ) (how : Close) (moment : ℕ) → is_short number ≡ true
    → time_of date (time_text moment) ≡ Some moment → ReadsAs date (due.Closed number how moment)
closed_back date number how moment short time =
    let word = short_word number short in
    let kind = decimal (close_code how) in
    let kind_word = close_word how in
    let behind = kind ++ 32 ∷ time_text moment in
    let rest = decimal number ++ 32 ∷ behind in
    let behind_number = behind_is (decimal number) behind word in
    record {
      line = codes "closed " ++ rest;
      written = ap (λ (l : List ℕ). codes "closed " ++ (l ++ 10 ∷ []))
          (append_assoc (decimal number) (32 ∷ kind) (32 ∷ time_text moment));
      is_one = record {
        in_line = all_append is_in_line (codes "closed ") rest refl
            (all_append is_in_line (decimal number) (32 ∷ behind) (in_line (decimal number) word)
            (all_more is_in_line 32 behind refl
            (all_append is_in_line kind (32 ∷ time_text moment) (in_line kind kind_word.0)
            (all_more is_in_line 32 (time_text moment) refl
            (in_line (time_text moment) (time_in_part moment))))));
        spoken = refl;
        undivided = refl;
      };
      read = λ firm number_to_say.
          ap (λ (item : Option Due). item >>= (λ (item : Due). Some (item, number_to_say)))
          (closed_by date rest number how moment
          (ap number_of (first_is (decimal number) behind word) ∙ short_back number short)
          (ap (λ (l : List ℕ). close_of (first_part l)) behind_number
          ∙ ap close_of (first_is kind (time_text moment) kind_word.0) ∙ kind_word.1)
          (ap (λ (l : List ℕ). time_of date (behind_part l)) behind_number
          ∙ ap (time_of date) (behind_is kind (time_text moment) kind_word.0) ∙ time));
    }

-- A message of the dealer's own, byte by byte.

bar_back : (c : ℕ) → is_unsayable c ≡ false
    → (is_in_line (with_bar c) ≡ true) × (soh_for_bar (with_bar c) ≡ c)
bar_back c sayable =
    let parts = or_parts (c == 124) (c == 10) sayable in
    elim (cases_Bool (c == 1)) [
      | inl soh ↦ (let same : 1 ≡ c = grind (arith, nat_tests) in rw soh (refl, same))
      | inr other ↦ rw (other, parts.1, parts.0) (refl, refl)
    ]

pub barred_in_line : (message : List ℕ) → list_any is_unsayable message ≡ false
    → list_all is_in_line (map with_bar message) ≡ true
barred_in_line [] sayable = refl
barred_in_line (c ∷ message) sayable =
    let parts = or_parts (is_unsayable c) (list_any is_unsayable message) sayable in
    all_more is_in_line (with_bar c) (map with_bar message) (bar_back c parts.0).0
    (barred_in_line message parts.1)

pub barred_back : (message : List ℕ) → list_any is_unsayable message ≡ false
    → map soh_for_bar (map with_bar message) ≡ message
barred_back [] sayable = refl
barred_back (c ∷ message) sayable =
    let parts = or_parts (is_unsayable c) (list_any is_unsayable message) sayable in
    let here = (bar_back c parts.0).1 in
    let later = barred_back message parts.1 in
    cc

pub barred_some : (message : List ℕ) → not (length message == 0) ≡ true
    → (length (map with_bar message) == 0) ≡ false
barred_some [] some = cc
barred_some (c ∷ message) some = grind (arith, nat_tests)

pub received_by : (date text frame : List ℕ) (moment : ℕ)
    → time_of date (first_part text) ≡ Some moment → behind_part text ≡ frame
    → (length frame == 0) ≡ false → received_of date text ≡ Some (moment, map soh_for_bar frame)
unfolding received_of
received_by date text frame moment time behind some = rw (time, behind, some) refl

bytes_back : (date : List ℕ) (moment : ℕ) (message : List ℕ) → not (length message == 0) ≡ true
    → list_any is_unsayable message ≡ false → time_of date (time_text moment) ≡ Some moment
    → due_line (due.Own moment message) ≡ bytes_line moment message
    → ReadsAs date (due.Own moment message)
bytes_back date moment message some sayable time is =
    let frame = map with_bar message in
    let rest = time_text moment ++ 32 ∷ frame in
    let word = time_in_part moment in
    record {
      line = codes "own " ++ rest;
      written = is;
      is_one = record {
        in_line = all_append is_in_line (codes "own ") rest refl
            (all_append is_in_line (time_text moment) (32 ∷ frame) (in_line (time_text moment) word)
            (all_more is_in_line 32 frame refl (barred_in_line message sayable)));
        spoken = refl;
        undivided = refl;
      };
      read = λ firm number.
          ap (λ (received : Option (ℕ × List ℕ)).
          (received >>= (λ (received : ℕ × List ℕ). Some (due.Own received.0 received.1)))
          >>= (λ (item : Due). Some (item, number)))
          (received_by date rest frame moment
          (ap (time_of date) (first_is (time_text moment) frame word) ∙ time)
          (behind_is (time_text moment) frame word) (barred_some message some)
          ∙ ap (λ (m : List ℕ). Some (moment, m)) (barred_back message sayable));
    }

-- The same digit by digit.

digit_of : (test : ℕ → Bool) (table : List ℕ) → list_all test table ≡ true → test 0 ≡ true
    → (k : ℕ) → test (slice_index table k) ≡ true
digit_of test [] all none k = none
digit_of test (c ∷ table) all none zero = (and_parts (test c) (list_all test table) all).0
digit_of test (c ∷ table) all none (suc k) =
    digit_of test table (and_parts (test c) (list_all test table) all).1 none k

pub hex_in_line : (message : List ℕ) → list_all is_in_line (encode_lower message) ≡ true
unfolding encode_with
hex_in_line [] = refl
hex_in_line (b ∷ message) =
    let high = slice_index lower_digits (b / 16) in
    let low = slice_index lower_digits (b % 16) in
    all_more is_in_line high (low ∷ encode_lower message)
    (digit_of is_in_line lower_digits refl refl (b / 16))
    (all_more is_in_line low (encode_lower message)
    (digit_of is_in_line lower_digits refl refl (b % 16)) (hex_in_line message))

pub hex_some : (message : List ℕ) → not (length message == 0) ≡ true
    → (length (encode_lower message) == 0) ≡ false
unfolding encode_with
hex_some [] some = cc
hex_some (c ∷ message) some = grind (arith, nat_tests)

pub hexed_by : (date text digits message : List ℕ) (moment : ℕ)
    → time_of date (first_part text) ≡ Some moment → behind_part text ≡ digits
    → decode_of digits ≡ Ok message → (length digits == 0) ≡ false
    → hexed_of date text ≡ Some (moment, message)
unfolding hexed_of
hexed_by date text digits message moment time behind back some =
    let found : result_ok (decode_of digits) ≡ Some message = ap result_ok back in
    rw (time, behind, found, some) refl

digits_back : (date : List ℕ) (moment : ℕ) (message : List ℕ) → not (length message == 0) ≡ true
    → decode_of (encode_lower message) ≡ Ok message → time_of date (time_text moment) ≡ Some moment
    → due_line (due.Own moment message) ≡ hex_line moment message
    → ReadsAs date (due.Own moment message)
digits_back date moment message some back time is =
    let digits = encode_lower message in
    let rest = time_text moment ++ 32 ∷ digits in
    let word = time_in_part moment in
    record {
      line = codes "hex " ++ rest;
      written = is;
      is_one = record {
        in_line = all_append is_in_line (codes "hex ") rest refl
            (all_append is_in_line (time_text moment) (32 ∷ digits) (in_line (time_text moment) word)
            (all_more is_in_line 32 digits refl (hex_in_line message)));
        spoken = refl;
        undivided = refl;
      };
      read = λ firm number.
          ap (λ (received : Option (ℕ × List ℕ)).
          (received >>= (λ (received : ℕ × List ℕ). Some (due.Own received.0 received.1)))
          >>= (λ (item : Due). Some (item, number)))
          (hexed_by date rest digits message moment
          (ap (time_of date) (first_is (time_text moment) digits word) ∙ time)
          (behind_is (time_text moment) digits word) back (hex_some message some));
    }

pub own_back : (date : List ℕ) (moment : ℕ) (message : List ℕ) → not (length message == 0) ≡ true
    → decode_of (encode_lower message) ≡ Ok message → time_of date (time_text moment) ≡ Some moment
    → ReadsAs date (due.Own moment message)
unfolding own_line
own_back date moment message some back time =
    elim (cases_Bool (list_any is_unsayable message)) [
      | inl unsayable ↦
          digits_back date moment message some back time
          (ap (λ (b : Bool). cond b (hex_line moment message) (bytes_line moment message)) unsayable)
      | inr sayable ↦
          bytes_back date moment message some sayable time
          (ap (λ (b : Bool). cond b (hex_line moment message) (bytes_line moment message)) sayable)
    ]
