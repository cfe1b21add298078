-- The answers to the words that a dealer's desk asks, by the laws of the layers below.
use Rattle.std.proofs.Common.{◌≡◌, refl, ap, subst, ℕ, true, List, [], ◌∷◌, ◌++◌, map, Option, Some}
use Rattle.std.proofs.Common.{None, All, is_some, if◌then◌else◌}
use Rattle.std.proofs.lemmas.List.Elements.{All-cons, All-head, All-nil, All-tail}
use Rattle.std.specs.Option.{option_map}
use Rattle.dealer_desk.specs.DealerFacts.{book_of}
use Rattle.dealer_desk.specs.DealerDesk.{DeskEvents, with_event}
use Rattle.dealer_desk.specs.DealerOutput.{dealer_output, desk_after}
use Rattle.dealer_desk.specs.SettledWords.{settled_words, asked_by, asked_word}
use Rattle.dealer_desk.specs.declared.events.DealerEvent.{DealerEvent}
use Rattle.quote_word.specs.Board.{Front, SettlesOnBoard}
use Rattle.quote_word.specs.SettleLog.{entry_of}
use Rattle.quote_word.specs.declared.settled.Settled.{Settled}
use Rattle.quote_word.specs.declared.settled.Settlement.{Settlement}
use Rattle.recorded_days.specs.DayDues.{AnswersAre, AreAnswered, IsSettledIfAsked, day_due_list}
use Rattle.step_replay.specs.DealerView.{dealer_view}
use Rattle.venue_rows.specs.declared.dealer_rows.DealerRow.{DealerRow}
use Rattle.venue_steps.specs.Words.{AsksAtMost, SettlesSo, settlement_in, has_word, word_of}
use Rattle.venue_steps.specs.Words.{word_to_ask}
use Rattle.day_checks.specs.AskedWords.{StandsIn, by_word}
use Rattle.session_worker.proofs.LockLemmas.{entry_seen}

-- Laws of the layers below.

-- the words that were asked grow event by event
abbrev pub AsksEventByEvent : Type 0
AsksEventByEvent = (date : List ℕ) (row : DealerRow) (events : List DealerEvent) (more : DealerEvent)
    → settled_words (desk_after date row (events ++ more ∷ [])).facts
    ≡ settled_words (desk_after date row events).facts
    ++ asked_by date row (book_of (desk_after date row events).facts) more

-- a settlement exactly where a word is asked, event by event
abbrev pub AnsweredOneByOne : Type 0
AnsweredOneByOne = (desk : DeskEvents) (now : DealerEvent)
    → AreAnswered desk → IsSettledIfAsked desk now → AreAnswered (with_event desk now)

-- both
pub record DeskLaws : Type 0 where
  pub asks : AsksEventByEvent
  pub answered : AnsweredOneByOne

-- what a desk sent is the dealer view of what was due by its events
abbrev pub SentTheirView : Type 0
SentTheirView = (date : List ℕ) (row : DealerRow) (events : List DealerEvent)
    (word_is : ℕ → Option Settled)
    → AreAnswered (record { date = date; row = row; events = events })
    → AnswersAre word_is (record { date = date; row = row; events = events })
    → dealer_output date row events ≡ dealer_view date row (day_due_list date row events)

-- Answers.

-- the settlement of the word that is asked stands in the log from which it is taken
pub answer_stands : (first quote : ℕ) (log : List Settlement) (found : Option Settled)
    → entry_of (word_of first quote) log ≡ found
    → All (StandsIn log) (map (by_word first) (asked_word (Some quote) found))
answer_stands first quote log None is = All-nil (StandsIn log)
answer_stands first quote log (Some settled) is =
    All-cons (StandsIn log) (word_of first quote, settled) [] is (All-nil (StandsIn log))

-- the same where a word is asked or none
pub asked_stands : (first : ℕ) (log : List Settlement) (quote : Option ℕ)
    → All (StandsIn log) (map (by_word first)
    (asked_word quote (settlement_in (λ w. entry_of w log) (option_map (word_of first) quote))))
asked_stands first log None = All-nil (StandsIn log)
asked_stands first log (Some quote) =
    answer_stands first quote log (entry_of (word_of first quote) log) refl

-- an exchange leaves an entry
pub exchange_answers : (seen : Front) (word : ℕ) (wish : Settled) (settlement : Option Settled)
    (later : Front) → SettlesSo SettlesOnBoard seen word wish settlement later → is_some settlement ≡ true
exchange_answers seen word wish (Some settlement) later e = refl
exchange_answers seen word wish None later e = elim e [ ]

-- there is an answer where a word is asked that the board has, and else none
pub asked_answers : (first : ℕ) (seen later : Front) (count : ℕ) (wish : Settled) (quote : Option ℕ)
    → has_word count (option_map (word_of first) quote) ≡ true
    → AsksAtMost SettlesOnBoard entry_seen seen
    (word_to_ask count (option_map (word_of first) quote)) wish later
    → is_some (settlement_in (entry_seen later) (option_map (word_of first) quote)) ≡ is_some quote
asked_answers first seen later count wish None has asks = refl
asked_answers first seen later count wish (Some quote) has asks =
    let word = word_of first quote in
    let asked : word_to_ask count (Some word) ≡ Some word =
    ap (λ so. if so then Some word else None) has in
    exchange_answers seen word wish (entry_seen later word) later
    (subst (λ w. AsksAtMost SettlesOnBoard entry_seen seen w wish later) asked asks)

-- the answers by the own numbers of the quotes
pub answers_by_quote : (first : ℕ) (log : List Settlement) (answers : List (ℕ × Settled))
    → All (StandsIn log) (map (by_word first) answers)
    → All (λ (asked : ℕ × Settled). entry_of (word_of first asked.0) log ≡ Some asked.1) answers
answers_by_quote first log [] stand =
    All-nil (λ (asked : ℕ × Settled). entry_of (word_of first asked.0) log ≡ Some asked.1)
answers_by_quote first log (settlement ∷ later) stand =
    All-cons (λ (asked : ℕ × Settled). entry_of (word_of first asked.0) log ≡ Some asked.1) settlement
    later (All-head (StandsIn log) (by_word first settlement) (map (by_word first) later) stand)
    (answers_by_quote first log later
    (All-tail (StandsIn log) (by_word first settlement) (map (by_word first) later) stand))
