-- Which word is a quote's, and whether a row of words has it.
use Rattle.std.specs.Prelude.{ℕ, ◌+◌, ◌-◌, Bool, true, nat_lt, Option, Some, None}

-- the word of a dealer's quote with this own number, from 1: a dealer's words stand one behind the
-- other in the row, from its first word on
abbrev pub word_of : ℕ → ℕ → ℕ
word_of first quote = first + (quote - 1)

-- whether a row of so many words has the word that is asked, where one is
abbrev pub has_word : ℕ → Option ℕ → Bool
has_word count None = true
has_word count (Some word) = nat_lt word count
