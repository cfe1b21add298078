-- What was due to an investor, written as due text and read again.
use Rattle.std.specs.Prelude.{◌≡◌, ℕ, Bool, true, false, ◌==◌, ◌&&◌, not, List, ◌∷◌, [], ◌++◌, length}
use Rattle.std.specs.Prelude.{codes, Option, Some, None, Ok}
use Rattle.venue_rows.specs.Texts.{is_firm_name, same_text}
use Rattle.input_lines.specs.Lines.{first_part, lines_of, spoken_from}
use Rattle.venue_text.specs.ReadBack.{IsOneLine, is_short}
use Rattle.investor_views.specs.declared.dues.InvestorDue.{InvestorDue}
use Rattle.investor_views.specs.declared.dues.InvestorDue.TheVariants as due
use Rattle.investor_texts.specs.InvestorLines.{item_of}
use Rattle.investor_texts.specs.InvestorText.{Read, with_lines}
use Rattle.investor_texts.specs.WrittenText.{item_line, item_lines}

-- K, where it is given, of at most nine digits
abbrev pub is_short_if : Option ℕ → Bool
is_short_if None = true
is_short_if (Some k) = is_short k

-- Whether due text can say an item: a message of the investor's own has bytes, a dealer has a name
-- that a firm may have, and each number is short.
abbrev pub is_sayable : InvestorDue → Bool
is_sayable (due.Own moment message) = not (length message == 0)
is_sayable (due.Offered request dealer price valid_until moment) =
    is_short request && is_firm_name dealer
is_sayable (due.Gone request quote moment) = is_short request && is_short quote
is_sayable (due.Declined request dealer moment) = is_short request && is_firm_name dealer
is_sayable (due.Answered request response reply moment) =
    is_short request && is_short_if response.k
is_sayable (due.Expired request moment) = is_short request

-- an item is written as a line, which is read as the item, whatever stands before it
pub record ReadsAs (date : List ℕ) (item : InvestorDue) : Type 0 where
  pub line : List ℕ
  pub written : item_line item ≡ line ++ 10 ∷ []
  pub is_one : IsOneLine line
  pub no_bond : same_text (first_part line) (codes "bond") ≡ false
  pub no_dealer : same_text (first_part line) (codes "dealer") ≡ false
  pub read : (firm : List ℕ) (number : ℕ)
      → item_of date firm number line ≡ Some (item, number)

-- a list is read back from its lines, whatever was read before them
abbrev pub AreReadBack : List ℕ → List InvestorDue → Type 0
AreReadBack date dues = (firm : List ℕ) (read : Read) (k : ℕ)
    → with_lines date firm read (spoken_from k (lines_of (item_lines dues)))
    ≡ Ok (record read { dues = read.dues ++ dues })
