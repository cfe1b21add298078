-- What became so at the place of one dealer, in order: at its desk, in the words of its quotes, and
-- what it was sent. Its desk, the words of its quotes and what is due to it are functions of this
-- one list, and no fact of another dealer, of a room or of an investor stands in it.
use Rattle.std.specs.Prelude.{ℕ, ◌==◌, Bool, false, List, ◌++◌, map, filter_map, Option, Some, None}
use Rattle.std.specs.Prelude.{if◌then◌else◌}
use Rattle.std.specs.List.{list_any}
use Rattle.std.specs.Option.{option_map, option_to_list}
use Rattle.quote_word.specs.declared.settled.Settled.{Settled}
use Rattle.quote_word.specs.declared.settled.Settled.TheVariants as settled
use Rattle.venue_rows.specs.declared.dealer_rows.DealerRow.{DealerRow}
use Rattle.market_terms.specs.declared.rooms.RoomRef.{RoomRef}
use Rattle.dealer_desk.specs.DealerFacts.{DealerFact, DealerBook, book_of}
use Rattle.dealer_desk.specs.DealerOutput.{event_facts, event_message, moment_of, next_message}
use Rattle.dealer_desk.specs.DealerOutput.{shown_room}
use Rattle.dealer_desk.specs.DeskLaws.{withdraws}
use Rattle.dealer_desk.specs.declared.events.DealerEvent.{DealerEvent}

-- What became so. Quotes stand in it by the dealer's own numbers, from 1.
pub data DealerEntry : Type 0 where
  AtDesk : DealerFact → DealerEntry  -- this fact came to stand at the desk
  ShownIn : RoomRef → DealerEntry  -- the request that was shown has this room
  Lifted : ℕ → DealerEntry  -- an investor hit this quote
  Sent : List ℕ → DealerEntry  -- the dealer was sent this message

-- What one entry says.

-- the fact of the desk
abbrev pub fact_in : DealerEntry → Option DealerFact
fact_in (AtDesk fact) = Some fact
fact_in entry = None

-- the room of a request that was shown
abbrev pub room_in : DealerEntry → Option RoomRef
room_in (ShownIn room) = Some room
room_in entry = None

-- the message that was sent
abbrev pub message_in : DealerEntry → Option (List ℕ)
message_in (Sent message) = Some message
message_in entry = None

-- whether it says that this quote was lifted
abbrev pub lifts : ℕ → DealerEntry → Bool
lifts number (Lifted quote) = quote == number
lifts number entry = false

-- What the trail of a dealer says.

-- the facts of the desk
abbrev pub facts_of : List DealerEntry → List DealerFact
facts_of trail = filter_map fact_in trail

-- the book by them
abbrev pub book_by : List DealerEntry → DealerBook
book_by trail = book_of (facts_of trail)

-- the rooms of the requests that were shown, in the order of their numbers
abbrev pub rooms_by : List DealerEntry → List RoomRef
rooms_by trail = filter_map room_in trail

-- the messages that the dealer was sent
abbrev pub sent_by : List DealerEntry → List (List ℕ)
sent_by trail = filter_map message_in trail

-- whether a quote was lifted
abbrev pub was_lifted : List DealerEntry → ℕ → Bool
was_lifted trail quote = list_any (lifts quote) trail

-- whether a quote was withdrawn
abbrev pub was_withdrawn : List DealerEntry → ℕ → Bool
was_withdrawn trail quote = list_any (withdraws quote) (facts_of trail)

-- The word of a quote. Who asks it settles it, where it is open, and is told what it is from then
-- on.

-- the settlement for the dealer, which would withdraw the quote
abbrev pub answer_to_dealer : List DealerEntry → ℕ → Settled
answer_to_dealer trail quote =
    if was_lifted trail quote then settled.Lifted else settled.Withdrawn

-- the settlement for an investor, which would lift it
abbrev pub answer_to_investor : List DealerEntry → ℕ → Settled
answer_to_investor trail quote =
    if was_withdrawn trail quote then settled.Withdrawn else settled.Lifted

-- An event at the desk.

-- the message that it sends, as the next one that the dealer is sent
abbrev pub message_by : List ℕ → DealerRow → List DealerEntry → DealerEvent → Option (List ℕ)
message_by date row trail event =
    option_map (next_message date row (sent_by trail) (moment_of event))
    (event_message date row (book_by trail) event)

-- what it adds: facts of the desk, the room of a request that it shows, and a message that it sends
unfoldable pub entries_of : List ℕ → DealerRow → List DealerEntry → DealerEvent → List DealerEntry
entries_of date row trail event =
    map AtDesk (event_facts date row (book_by trail) event)
    ++ map ShownIn (option_to_list (shown_room event))
    ++ map Sent (option_to_list (message_by date row trail event))
