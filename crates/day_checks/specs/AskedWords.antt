-- The words that were asked at desks and in rooms, with their settlements, and whether these stand in
-- a log.
use Rattle.std.specs.Prelude.{◌≡◌, ℕ, List, map, Option, Some, None}
use Rattle.std.specs.List.{filter_map}
use Rattle.std.specs.Option.{option_map}
use Rattle.dealer_desk.specs.DealerDesk as dealer
use Rattle.dealer_desk.specs.DealerDesk.{facts_at}
use Rattle.dealer_desk.specs.SettledWords.{settled_words}
use Rattle.quote_word.specs.SettleLog.{entry_of}
use Rattle.quote_word.specs.declared.settled.Settled.{Settled}
use Rattle.quote_word.specs.declared.settled.Settlement.{Settlement}
use Rattle.request_room.specs.declared.events.RoomEvent.{RoomEvent}
use Rattle.request_room.specs.declared.events.RoomEvent.TheVariants as in_room
use Rattle.venue_steps.specs.WordNumbers.{word_of}

-- a word that was asked, and its settlement
abbrev pub Answer : Type 0
Answer = ℕ × Settled

-- the settlement is the word's entry in a log
abbrev pub StandsIn : List Settlement → Answer → Type 0
StandsIn log settlement = entry_of settlement.0 log ≡ Some settlement.1

-- the settlement by the venue's number of the word, where the dealer's first word is this one
abbrev pub by_word : ℕ → Answer → Answer
by_word first settlement = (word_of first settlement.0, settlement.1)

-- the words that were asked at a dealer's desk, with their settlements
abbrev pub answers_at : ℕ → dealer.DeskEvents → List Answer
answers_at first desk = map (by_word first) (settled_words (facts_at desk))

-- the word that a hit asked in a room, with its settlement
abbrev pub answered_hit : RoomEvent → Option Answer
answered_hit (in_room.Hit word moment settlement) =
    option_map (λ settled. (word, settled)) settlement
answered_hit other = None

-- the words that were asked in a room, with their settlements
abbrev pub answers_in : List RoomEvent → List Answer
answers_in events = filter_map answered_hit events
