-- A message of an investor's own, written as a line and read again.
use Rattle.std.proofs.Common.{◌≡◌, ℕ, ◌==◌, not, Bool, true, false, cond, List, ◌∷◌, ◌++◌, length}
use Rattle.std.proofs.Common.{map, codes, Option, Some, Ok, refl, ap, ◌∙◌, inl, inr}
use Rattle.std.specs.List.{list_any}
use Rattle.std.proofs.lemmas.Bool.{cases_Bool}
use Rattle.hex.specs.Hex.{decode_of, encode_lower}
use Rattle.fix_fields.specs.TimeOfDay.{time_text}
use Rattle.input_lines.specs.Lines.{time_of}
use Rattle.input_lines.specs.OptionSteps.{◌>>=◌}
use Rattle.input_lines.specs.SayLine.{with_bar}
use Rattle.venue_text.specs.ReadBack.{is_in_line}
use Rattle.venue_text.specs.WrittenDues.{bytes_line, hex_line, is_unsayable, own_line}
use Rattle.venue_text.proofs.ReadBackItems.{barred_back, barred_in_line, barred_some, hex_in_line}
use Rattle.venue_text.proofs.ReadBackItems.{hex_some, hexed_by, received_by}
use Rattle.venue_text.proofs.ReadBackParts.{all_append, behind_is, first_is, time_in_part}
use Rattle.investor_views.specs.declared.dues.InvestorDue.{InvestorDue}
use Rattle.investor_views.specs.declared.dues.InvestorDue.TheVariants as due
use Rattle.investor_texts.specs.ReadBack.{ReadsAs}
use Rattle.investor_texts.specs.WrittenText.{item_line}
use Rattle.investor_texts.proofs.ReadBackParts.{before_line}

-- A message of the investor's own, byte by byte.

bytes_back : (date : List ℕ) (moment : ℕ) (message : List ℕ) → not (length message == 0) ≡ true
    → list_any is_unsayable message ≡ false → time_of date (time_text moment) ≡ Some moment
    → item_line (due.Own moment message) ≡ bytes_line moment message
    → ReadsAs date (due.Own moment message)
bytes_back date moment message some sayable time is =
    let frame = map with_bar message in
    let front = time_text moment in
    let word = time_in_part moment in
    let rest = front ++ 32 ∷ frame in
    record {
      line = codes "own " ++ rest;
      written = is;
      is_one = record {
        in_line = all_append is_in_line (codes "own ") rest refl
            (before_line front frame word (barred_in_line message sayable));
        spoken = refl;
        undivided = refl;
      };
      no_bond = refl;
      no_dealer = refl;
      read = λ firm number.
          ap (λ (received : Option (ℕ × List ℕ)).
          (received >>= (λ (received : ℕ × List ℕ). Some (due.Own received.0 received.1)))
          >>= (λ (item : InvestorDue). Some (item, number)))
          (received_by date rest frame moment (ap (time_of date) (first_is front frame word) ∙ time)
          (behind_is front frame word) (barred_some message some)
          ∙ ap (λ (m : List ℕ). Some (moment, m)) (barred_back message sayable));
    }

-- The same digit by digit.

digits_back : (date : List ℕ) (moment : ℕ) (message : List ℕ) → not (length message == 0) ≡ true
    → decode_of (encode_lower message) ≡ Ok message → time_of date (time_text moment) ≡ Some moment
    → item_line (due.Own moment message) ≡ hex_line moment message
    → ReadsAs date (due.Own moment message)
digits_back date moment message some back time is =
    let digits = encode_lower message in
    let front = time_text moment in
    let word = time_in_part moment in
    let rest = front ++ 32 ∷ digits in
    record {
      line = codes "hex " ++ rest;
      written = is;
      is_one = record {
        in_line = all_append is_in_line (codes "hex ") rest refl
            (before_line front digits word (hex_in_line message));
        spoken = refl;
        undivided = refl;
      };
      no_bond = refl;
      no_dealer = refl;
      read = λ firm number.
          ap (λ (received : Option (ℕ × List ℕ)).
          (received >>= (λ (received : ℕ × List ℕ). Some (due.Own received.0 received.1)))
          >>= (λ (item : InvestorDue). Some (item, number)))
          (hexed_by date rest digits message moment
          (ap (time_of date) (first_is front digits word) ∙ time) (behind_is front digits word) back
          (hex_some message some));
    }

pub own_back : (date : List ℕ) (moment : ℕ) (message : List ℕ) → not (length message == 0) ≡ true
    → decode_of (encode_lower message) ≡ Ok message → time_of date (time_text moment) ≡ Some moment
    → ReadsAs date (due.Own moment message)
unfolding own_line
own_back date moment message some back time =
    elim (cases_Bool (list_any is_unsayable message)) [
      | inl unsayable ↦
          digits_back date moment message some back time
          (ap (λ (b : Bool). cond b (hex_line moment message) (bytes_line moment message)) unsayable)
      | inr sayable ↦
          bytes_back date moment message some sayable time
          (ap (λ (b : Bool). cond b (hex_line moment message) (bytes_line moment message)) sayable)
    ]
