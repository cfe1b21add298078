-- A text at the first line that divides it, as the code finds it.
use Rattle.std.specs.Prelude.{◌≡◌, ℕ, ◌+◌, ◌≤◌, true, List, length}
use Rattle.std.specs.List.{list_any, before_first, after_first}
use Rattle.input_lines.specs.Lines.{lines_of}
use Rattle.input_lines.specs.VenueParts.{is_divider, text_of_lines}

-- what stands before the line, how many lines that is, and what stands behind it
pub record StandsApart (text before : List ℕ) (count : ℕ) (behind : List ℕ) : Type 0 where
  pub is : list_any is_divider (lines_of text) ≡ true
  pub closed : before ≡ text_of_lines (lines_of before)
  pub lines_before : lines_of before ≡ before_first is_divider (lines_of text)
  pub count_is : count ≡ length (before_first is_divider (lines_of text))
  pub lines_behind : lines_of behind ≡ after_first is_divider (lines_of text)
  pub behind_fits : count + 1 + length behind ≤ length text
  pub before_fits : length before ≤ length text
