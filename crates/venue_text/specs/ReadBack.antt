-- What was due, written as due text and read again.
use Rattle.std.specs.Prelude.{◌≡◌, ℕ, Bool, true, false, ◌==◌, ◌&&◌, not, List, [], ◌∷◌, ◌++◌, length}
use Rattle.std.specs.Prelude.{codes, nat_lt, Some, Ok}
use Rattle.std.specs.List.{list_all}
use Rattle.venue_rows.specs.Rows.{DealerValues}
use Rattle.venue_rows.specs.Texts.{is_firm_name, same_text}
use Rattle.step_replay.specs.declared.dues.Due.{Due}
use Rattle.step_replay.specs.declared.dues.Due.TheVariants as due
use Rattle.input_lines.specs.DueLines.{date_of, due_of, row_of}
use Rattle.input_lines.specs.DueText.{due_text_of, dues_from}
use Rattle.input_lines.specs.Lines.{is_skipped, lines_of, spoken_from}
use Rattle.venue_text.specs.WrittenDues.{due_line, due_lines}

-- a number that due text can say: of at most nine digits
abbrev pub is_short : ℕ → Bool
is_short n = nat_lt n 1000000000

-- Whether due text can say an item: a message of the dealer's own has bytes, the investor of a
-- request has a name that a firm may have, and each number is short.
abbrev pub is_sayable : Due → Bool
is_sayable (due.Own moment message) = not (length message == 0)
is_sayable (due.Shown ask moment) = is_firm_name ask.investor
is_sayable (due.Lifted quote) = is_short quote
is_sayable (due.Closed request close moment) = is_short request
is_sayable (due.Drop last moment) = is_short last

-- a byte that ends no line, and one that ends no part either
abbrev pub is_in_line : ℕ → Bool
is_in_line c = not (c == 10)

abbrev pub is_in_part : ℕ → Bool
is_in_part c = not (c == 32) && not (c == 10)

-- one line, which is neither skipped nor a divider
pub record IsOneLine (line : List ℕ) : Type 0 where
  pub in_line : list_all is_in_line line ≡ true
  pub spoken : is_skipped line ≡ false
  pub undivided : same_text line (codes "%%") ≡ false

-- an item is written as a line, which is read as the item, whatever stands before it
pub record ReadsAs (date : List ℕ) (item : Due) : Type 0 where
  pub line : List ℕ
  pub written : due_line item ≡ line ++ 10 ∷ []
  pub is_one : IsOneLine line
  pub read : (firm : List ℕ) (number : ℕ)
      → due_of date firm number line ≡ Some (item, number)

-- a list is read back from its lines, whatever stands before them
abbrev pub AreReadBack : List ℕ → List Due → Type 0
AreReadBack date dues = (firm : List ℕ) (number k : ℕ)
    → dues_from date firm number (spoken_from k (lines_of (due_lines dues))) ≡ Ok dues

-- the lines of a date and of a dealer with these values
pub record AreHeader (date : List ℕ) (row : DealerValues) (first second : List ℕ) : Type 0 where
  pub first_is_one : IsOneLine first
  pub is_date : date_of first ≡ Some date
  pub second_is_one : IsOneLine second
  pub is_row : row_of second ≡ Some row

-- and so is the whole due text, which begins with such lines
abbrev pub IsReadBack : List ℕ → List Due → Type 0
IsReadBack date dues = (row : DealerValues) (first second : List ℕ)
    → AreHeader date row first second
    → due_text_of (first ++ 10 ∷ (second ++ 10 ∷ due_lines dues))
    ≡ Ok (record { date = date; row = row; dues = dues })
