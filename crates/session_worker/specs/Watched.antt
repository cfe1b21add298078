-- The words of a board as one action asks them: what was seen of the board, and what was asked.
use Rattle.std.specs.Prelude.{◌≡◌, ℕ, ◌<◌, Option, Some, None}
use Rattle.quote_word.specs.Board.{Front, SettlesOnBoard}
use Rattle.quote_word.specs.BoardLaws as laws
use Rattle.quote_word.specs.SettleLog.{entry_of}
use Rattle.quote_word.specs.declared.settled.Settled.{Settled}
use Rattle.session_worker.specs.declared.watched.WordsAsked.{WordsAsked}
use Rattle.session_worker.specs.declared.watched.WordsAsked.TheVariants as all_asked

-- what an action has seen of the board, and all the words that it asked, with their settlements
pub record Watched : Type 0 where
  pub front : Front
  pub asked : WordsAsked

-- these words and one more
abbrev pub and_asked : WordsAsked → ℕ → Settled → WordsAsked
and_asked all_asked.Nothing word settlement = all_asked.One word settlement
and_asked (all_asked.One other was) word settlement = all_asked.Several
and_asked all_asked.Several word settlement = all_asked.Several

-- the word that was asked, where it is one alone
abbrev pub word_in : WordsAsked → Option (ℕ × Settled)
word_in all_asked.Nothing = None
word_in (all_asked.One word settlement) = Some (word, settlement)
word_in all_asked.Several = None

-- what a word is, as the action has seen it
abbrev pub entry_watched : Watched → ℕ → Option Settled
entry_watched watched word = entry_of word watched.front.log

-- one exchange, which is noted
pub record SettlesWatched (before : Watched) (word : ℕ) (wish settlement : Settled)
    (after : Watched)
    : Type 0 where
  pub on_board : SettlesOnBoard before.front word wish settlement after.front
  pub noted : after.asked ≡ and_asked before.asked word settlement

-- one word with its settlement
abbrev pub one_asked : ℕ → Option Settled → WordsAsked
one_asked word None = all_asked.Nothing
one_asked word (Some settlement) = all_asked.One word settlement

-- all that is asked: the word, if one is, with its settlement, and no other
abbrev pub asked_of : (ℕ → Option Settled) → Option ℕ → WordsAsked
asked_of entry None = all_asked.Nothing
asked_of entry (Some word) = one_asked word (entry word)

-- no word comes or goes
pub watched_keeps_count : (before after : Watched) (w : ℕ) (wish settlement : Settled)
    → SettlesWatched before w wish settlement after
    → after.front.board.words ≡ before.front.board.words
watched_keeps_count before after w wish settlement e =
    laws.board_keeps_count before.front after.front w wish settlement e.on_board

-- the settlement is the word's entry afterwards
pub watched_answers_entry : (before after : Watched) (w : ℕ) (wish settlement : Settled)
    → w < before.front.board.words → SettlesWatched before w wish settlement after
    → entry_watched after w ≡ Some settlement
watched_answers_entry before after w wish settlement within e =
    laws.board_answers_entry before.front after.front w wish settlement within e.on_board

-- an entry that stands stays
pub watched_keeps_entries : (before after : Watched) (w v : ℕ) (wish settlement was : Settled)
    → SettlesWatched before w wish settlement after → entry_watched before v ≡ Some was
    → entry_watched after v ≡ Some was
watched_keeps_entries before after w v wish settlement was e stands =
    laws.board_keeps_entries before.front after.front w v wish settlement was e.on_board stands
