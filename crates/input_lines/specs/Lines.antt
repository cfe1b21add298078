-- The lines of a text, the parts of a line, and what single parts spell. A line feed is the byte
-- 10, a space 32, `#` 35, a dash 45, an equals sign 61 and a vertical bar 124.
use Rattle.std.specs.Prelude.{ℕ, ◌+◌, Bool, true, ◌==◌, List, [], ◌∷◌, ◌++◌, length, nat_le, codes}
use Rattle.std.specs.Prelude.{Option, Some, None, if◌then◌else◌}
use Rattle.std.specs.List.{list_any, before_first, after_first, onto_first}
use Rattle.std.specs.Result.{result_ok}
use Rattle.fix_fields.specs.UtcTimestamp.{moment_of}
use Rattle.venue_rows.specs.Texts.{same_text}
use Rattle.market_terms.specs.declared.asks.Side.{Side}
use Rattle.market_terms.specs.declared.asks.Side.TheVariants.{Buy, Sell}

-- the parts of a text that a byte ends, the last one also without it
abbrev pub parts_of : ℕ → List ℕ → List (List ℕ)
parts_of end [] = []
parts_of end (c ∷ text) =
    if c == end then [] ∷ parts_of end text else onto_first c (parts_of end text)

-- a text has a line for each line feed, and one for what stands behind the last
abbrev pub lines_of : List ℕ → List (List ℕ)
lines_of text = parts_of 10 text

-- a line that is empty or begins with `#` says nothing
abbrev pub is_skipped : List ℕ → Bool
is_skipped [] = true
is_skipped (c ∷ line) = c == 35

-- the lines that are not skipped, each with its number, where the first of these lines has number k
abbrev pub spoken_from : ℕ → List (List ℕ) → List (ℕ × List ℕ)
spoken_from k [] = []
spoken_from k (line ∷ lines) =
    if is_skipped line then spoken_from (k + 1) lines else (k, line) ∷ spoken_from (k + 1) lines

-- the lines of a text that are not skipped; numbers count all lines from 1
abbrev pub spoken_lines : List ℕ → List (ℕ × List ℕ)
spoken_lines text = spoken_from 1 (lines_of text)

-- the number of a line behind the last one
abbrev pub one_past : List ℕ → ℕ
one_past text = length (lines_of text) + 1

-- a line `%%` divides an input
abbrev pub has_divider : List ℕ → Bool
has_divider text = list_any (λ line. same_text line (codes "%%")) (lines_of text)

-- one space divides the parts of a line: the first part
abbrev pub first_part : List ℕ → List ℕ
first_part text = before_first (λ c. c == 32) text

-- what stands behind the first part and its space
abbrev pub behind_part : List ℕ → List ℕ
behind_part text = after_first (λ c. c == 32) text

-- whether a further part stands behind the first one
abbrev pub has_part_behind : List ℕ → Bool
has_part_behind text = list_any (λ c. c == 32) text

-- SIDE, the side of the investor: `1` buys, `2` sells
abbrev pub side_of : List ℕ → Option Side
side_of text =
    if same_text text (codes "1") then Some Buy
    else if same_text text (codes "2") then Some Sell
    else None

-- TIME, a moment of the day, at most `HH:MM:SS.sss`: what it is as a UTCTimestamp behind the date
-- and a dash
abbrev pub time_of : List ℕ → List ℕ → Option ℕ
time_of date text =
    if nat_le (length text) 12 then result_ok (moment_of date (date ++ 45 ∷ text)) else None
