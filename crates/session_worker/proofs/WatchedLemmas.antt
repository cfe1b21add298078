-- What an action that asks a word at most has seen and noted.
use Rattle.std.proofs.Common.{◌≡◌, ◌∙◌, ap, sym, ℕ, Option, Some, None}
use Rattle.quote_word.specs.Board.{BoardName, Front, SettlesOnBoard}
use Rattle.quote_word.specs.declared.settled.Settled.{Settled}
use Rattle.venue_steps.specs.Words.{AsksAtMost, SettlesSo, word_to_ask}
use Rattle.session_worker.specs.Watched.{SettlesWatched, Watched, and_asked, asked_of}
use Rattle.session_worker.specs.Watched.{entry_watched, one_asked}
use Rattle.session_worker.specs.declared.watched.WordsAsked.{WordsAsked}
use Rattle.session_worker.specs.declared.watched.WordsAsked.TheVariants as all_asked
use Rattle.session_worker.proofs.LockLemmas.{entry_seen}

-- an exchange that is noted is one on the board
pub settled_on_board : (before after : Watched) (word : ℕ) (wish : Settled)
    (settlement : Option Settled) → SettlesSo SettlesWatched before word wish settlement after
    → SettlesSo SettlesOnBoard before.front word wish settlement after.front
settled_on_board before after word wish (Some settlement) e = e.on_board
settled_on_board before after word wish None e = e

-- a step that asks a word at most asks it of the board
pub asks_on_board : (before after : Watched) (word : Option ℕ) (wish : Settled)
    → AsksAtMost SettlesWatched entry_watched before word wish after
    → AsksAtMost SettlesOnBoard entry_seen before.front word wish after.front
asks_on_board before after None wish e = ap (λ (watched : Watched). watched.front) e
asks_on_board before after (Some word) wish e =
    settled_on_board before after word wish (entry_watched after word) e

-- an exchange is noted with its settlement
pub exchange_is_noted : (before after : Watched) (word : ℕ) (wish : Settled)
    (settlement : Option Settled) → before.asked ≡ all_asked.Nothing
    → SettlesSo SettlesWatched before word wish settlement after
    → after.asked ≡ one_asked word settlement
exchange_is_noted before after word wish (Some settlement) none e =
    e.noted ∙ ap (λ asked. and_asked asked word settlement) none
exchange_is_noted before after word wish None none e = elim e [ ]

-- what is noted is the word that was asked, with its settlement, and nothing where none was asked
pub asked_is_noted : (before after : Watched) (word : Option ℕ) (wish : Settled)
    → before.asked ≡ all_asked.Nothing → AsksAtMost SettlesWatched entry_watched before word wish after
    → after.asked ≡ asked_of (entry_watched after) word
asked_is_noted before after None wish none e =
    ap (λ (watched : Watched). watched.asked) e ∙ none
asked_is_noted before after (Some word) wish none e =
    exchange_is_noted before after word wish (entry_watched after word) none e

-- the same by what a lock has seen afterwards, and by how many words its board has
pub noted_by : (count words : ℕ) (after : Watched) (seen : Front) (asked : WordsAsked)
    (word : Option ℕ) → count ≡ words → seen ≡ after.front → asked ≡ after.asked
    → after.asked ≡ asked_of (entry_watched after) (word_to_ask count word)
    → asked ≡ asked_of (entry_seen seen) (word_to_ask words word)
noted_by count words after seen asked word counts same told noted =
    told ∙ noted
    ∙ ap (λ (n : ℕ). asked_of (entry_watched after) (word_to_ask n word)) counts
    ∙ ap (λ (front : Front). asked_of (entry_seen front) (word_to_ask words word)) (sym same)

-- how many words they are: those of the board whose token the lock has
pub counted_by : (board : BoardName) (held again : Front) (watched : Watched)
    → watched ≡ record { front = again; asked = all_asked.Nothing } → again ≡ held → held.board ≡ board
    → watched.front.board.words ≡ board.words
counted_by board held again watched begun same ours =
    ap (λ (w : Watched). w.front.board.words) begun
    ∙ ap (λ (front : Front). front.board.words) same
    ∙ ap (λ (b : BoardName). b.words) ours
