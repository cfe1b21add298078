-- What became so at the place of one investor, in order: each event at its desk, what came to stand
-- there with it, and what it was sent.
use Rattle.std.specs.Prelude.{ℕ, ◌+◌, List, ◌∷◌, ◌++◌, map, filter_map, length, Option, Some, None}
use Rattle.investor_desk.specs.InvestorFacts.{InvestorFact, InvestorBook, book_of}
use Rattle.investor_desk.specs.InvestorRules.{InvestorMarket}
use Rattle.investor_desk.specs.InvestorOutput.{event_facts, event_messages, moment_of, written_from}
use Rattle.investor_desk.specs.declared.events.InvestorEvent.{InvestorEvent}

-- what became so
pub data InvestorEntry : Type 0 where
  Happened : InvestorEvent → InvestorEntry  -- this event came to the desk
  AtDesk : InvestorFact → InvestorEntry  -- this fact came to stand at the desk
  Sent : List ℕ → InvestorEntry  -- the investor was sent this message

-- What one entry says.

-- the fact of the desk
abbrev pub fact_in : InvestorEntry → Option InvestorFact
fact_in (AtDesk fact) = Some fact
fact_in entry = None

-- the message that was sent
abbrev pub message_in : InvestorEntry → Option (List ℕ)
message_in (Sent message) = Some message
message_in entry = None

-- What the trail of an investor says.

-- the facts of the desk
abbrev pub facts_of : List InvestorEntry → List InvestorFact
facts_of trail = filter_map fact_in trail

-- the book by them
abbrev pub book_by : List InvestorEntry → InvestorBook
book_by trail = book_of (facts_of trail)

-- the messages that the investor was sent
abbrev pub sent_by : List InvestorEntry → List (List ℕ)
sent_by trail = filter_map message_in trail

-- what an event at the desk adds: that it happened, facts of the desk, and the messages that it sends
unfoldable pub entries_of : InvestorMarket → List InvestorEntry → InvestorEvent
    → List InvestorEntry
entries_of market trail event =
    Happened event ∷ map AtDesk (event_facts market (book_by trail) event)
    ++ map Sent (written_from market (length (sent_by trail) + 1) (moment_of event)
    (event_messages market (book_by trail) event))
