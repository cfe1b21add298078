-- The words that were asked at a dealer's desk, each with its settlement: they stand in the facts.
use Rattle.std.specs.Prelude.{ℕ, List, [], ◌∷◌, Option, Some, None}
use Rattle.std.specs.List.{filter_map}
use Rattle.quote_word.specs.declared.settled.Settled.{Settled}
use Rattle.quote_word.specs.declared.settled.Settled.TheVariants as settled
use Rattle.venue_rows.specs.declared.dealer_rows.DealerRow.{DealerRow}
use Rattle.dealer_desk.specs.DealerFacts.{DealerFact, Withdrawn, Late, DealerBook, number_to_drop}
use Rattle.dealer_desk.specs.DealerRules.{dealer_verdict}
use Rattle.dealer_desk.specs.declared.events.DealerEvent.{DealerEvent}
use Rattle.dealer_desk.specs.declared.events.DealerEvent.TheVariants as event
use Rattle.dealer_desk.specs.DealerOutput.{word_asked}

-- The words that were asked, each with its settlement: they stand in the facts.

-- the word that a fact says was asked, with its settlement
abbrev pub settled_word : DealerFact → Option (ℕ × Settled)
settled_word (Withdrawn quote how) = Some (quote, settled.Withdrawn)
settled_word (Late quote) = Some (quote, settled.Lifted)
settled_word fact = None

-- the words that were asked, by the own numbers of their quotes, with their settlements
abbrev pub settled_words : List DealerFact → List (ℕ × Settled)
settled_words facts = filter_map settled_word facts

-- a word that is asked, with its settlement, where both are there
abbrev pub asked_word : Option ℕ → Option Settled → List (ℕ × Settled)
asked_word (Some quote) (Some settlement) = (quote, settlement) ∷ []
asked_word (Some quote) None = []
asked_word None settlement = []

-- the word that an event asks, with its settlement
abbrev pub asked_by : List ℕ → DealerRow → DealerBook → DealerEvent → List (ℕ × Settled)
asked_by date row book (event.Received moment bytes settlement) =
    asked_word (word_asked (dealer_verdict date row book moment bytes)) settlement
asked_by date row book (event.Shown room ask moment) = []
asked_by date row book (event.Told request close moment) = []
asked_by date row book (event.Drop last moment settlement) =
    asked_word (number_to_drop book last) settlement
