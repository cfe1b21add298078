-- The forms of the short texts of a configuration.
use Rattle.std.specs.Prelude.{ℕ, Bool, true, false, ◌&&◌, ◌||◌, ◌==◌, List, [], ◌∷◌, ◌++◌, length}
use Rattle.std.specs.Prelude.{nat_le, nat_lt, nat_eq, not, codes, Option, Some, None, if◌then◌else◌}
use Rattle.std.specs.List.{list_all, list_any}
use Rattle.std.specs.Cmp.Lexicographic.{pointwise}
use Rattle.std.specs.Char.{is_ascii_uppercase, is_ascii_digit}
use Rattle.venue_rows.specs.declared.traders.TheConstants.Traders.{MOST}

-- a capital letter or a digit
abbrev pub is_capital_or_digit : ℕ → Bool
is_capital_or_digit c = is_ascii_uppercase c || is_ascii_digit c

-- the name of a firm or of a trader: 1 to 8 capital letters and digits, the first a letter
abbrev pub is_name : List ℕ → Bool
is_name [] = false
is_name (first ∷ rest) =
    (is_ascii_uppercase first && nat_le (length rest) 7) && list_all is_capital_or_digit rest

-- the identifier of a bond (SecurityID 48): 12 capital letters and digits
abbrev pub is_bond_id : List ℕ → Bool
is_bond_id text = (length text == 12) && list_all is_capital_or_digit text

-- a text where it passes a test, and nothing where it does not
abbrev pub text_if : (List ℕ → Bool) → List ℕ → Option (List ℕ)
text_if passes text = if passes text then Some text else None

-- whether two texts are the same, byte by byte
abbrev pub same_text : List ℕ → List ℕ → Bool
same_text a b = pointwise nat_eq a b

-- whether two lists of texts are the same, text by text
abbrev pub same_texts : List (List ℕ) → List (List ℕ) → Bool
same_texts a b = pointwise same_text a b

-- whether a text is one of these
abbrev pub is_among : List (List ℕ) → List ℕ → Bool
is_among texts text = list_any (λ own. same_text own text) texts

-- the names that no firm has: that of the venue, and that of its clock
abbrev pub reserved_names : List (List ℕ)
reserved_names = codes "VENUE" ∷ codes "CLOCK" ∷ []

-- the name of a firm: any name but those
abbrev pub is_firm_name : List ℕ → Bool
is_firm_name text = not (is_among reserved_names text) && is_name text

-- a trader behind the others of a firm, and whether there was room for it: a firm has at most so
-- many
abbrev pub trader_added : List (List ℕ) → List ℕ → List (List ℕ) × Bool
trader_added traders name =
    if nat_lt (length traders) MOST then (traders ++ name ∷ [], true) else (traders, false)
