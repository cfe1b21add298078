-- What the private scans and steps of a board say: the log of its book, and the rule of its words.
-- No public clause names these.
-- The log of a book begins with an entry that is no settlement: its word is how many words the
-- board has.
use Rattle.std.specs.Prelude.{◌≡◌, ℕ, zero, suc, ◌<◌, ◌^◌, true, List, [], ◌∷◌, ◌++◌, length}
use Rattle.std.specs.Prelude.{Option, Some, None, slice_index_or}
use mathlib.Core.List.{IsPrefix}
use Rattle.logbook.specs.Pages.{Cell, cell, Step, View, Book, Named}
use Rattle.quote_word.specs.declared.settled.Settled.{Settled}
use Rattle.quote_word.specs.declared.settled.Settled.TheVariants.{Withdrawn, Lifted}
use Rattle.quote_word.specs.declared.settled.Settlement.{Settlement}
use Rattle.quote_word.specs.SettleLog.{SettleLog, entry_of, IsLegal, added_by}
use Rattle.quote_word.specs.Board.{BoardName, Front}

-- the number that stands in a word: 0 is open, 1 is withdrawn and 2 is lifted
abbrev pub code_of : Option Settled → ℕ
code_of None = 0
code_of (Some Withdrawn) = 1
code_of (Some Lifted) = 2

-- what a number in a word says
abbrev pub entry_of_code : ℕ → Option Settled
entry_of_code zero = None
entry_of_code (suc zero) = Some Withdrawn
entry_of_code (suc (suc n)) = Some Lifted

-- the log of a book of so many words, as it begins
abbrev pub opening_log : ℕ → List Settlement
opening_log words = record { word = words; settled = Withdrawn } ∷ []

-- the log has its first entry
abbrev pub IsBegun : List Settlement → Type 0
IsBegun [] = ⊥
IsBegun (first ∷ log) = Unit {0}

-- how many words the board has
abbrev pub words_of : List Settlement → ℕ
words_of [] = 0
words_of (first ∷ log) = first.word

-- the settlements behind the first entry
abbrev pub settle_log : List Settlement → SettleLog
settle_log [] = []
settle_log (first ∷ log) = log

-- the rule: there are as many words as the log says, the settlements are legal, and each word is
-- what its entry says
pub record IsKept (cells : List Cell) (log : List Settlement) : Type 0 where
  pub begun : IsBegun log
  pub legal : IsLegal (settle_log log)
  pub count : length cells ≡ words_of log
  pub codes : (w : ℕ) → w < length cells
      → cell cells w ≡ (code_of (entry_of w (settle_log log)), true)

-- an exchange found the word as its entry in some lawful log that begins with what had been seen,
-- and saw that log, with the wish where the word was open
abbrev pub Exchanged : Step Settlement → View Settlement ℕ → ℕ → View Settlement ℕ → Type 0
Exchanged s before found after =
    (log : List Settlement) × IsPrefix before.0 log × IsLegal (settle_log log)
    × (found ≡ code_of (entry_of s.key (settle_log log)))
    × (after.0 ≡ log ++ added_by (entry_of s.key (settle_log log)) s.key s.ask.settled)

-- a look found the word as its entry in the lawful log that it then saw
abbrev pub Looked : Step Settlement → View Settlement ℕ → ℕ → View Settlement ℕ → Type 0
Looked s before found after =
    IsBegun after.0 × IsLegal (settle_log after.0)
    × (found ≡ code_of (entry_of s.key (settle_log after.0)))

-- what clauses see of a token
abbrev pub front_of : Book → List Settlement → Front
front_of book log =
    record { board = record { book = book; words = words_of log }; log = settle_log log }

-- a word of a book
abbrev pub word_of : Book → ℕ → Named
word_of book k = record { tracked = true; key = k; book = book }

-- the words of a board, each at its place. Their numbers are those of a u32
pub record AreWords (words : List Named) (board : BoardName) : Type 0 where
  pub count : length words ≡ board.words
  pub few : board.words < 2 ^ 32
  pub each : (k : ℕ) (d : Named) → k < length words
      → slice_index_or words k d ≡ word_of board.book k
