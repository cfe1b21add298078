-- What became so in the venue, each fact at its one place: at the desk of a dealer or an investor,
-- or in the room of a request. Facts are only ever added.
use Rattle.std.specs.Prelude.{ℕ, ◌==◌, List, filter_map, Option, Some, None, if◌then◌else◌}
use Rattle.market_terms.specs.declared.rooms.RoomRef.{RoomRef}
use Rattle.dealer_desk.specs.DealerOutput.{is_same_room}
use Rattle.request_room.specs.RoomFacts.{RoomFact}
use Rattle.step_replay.specs.DealerTrail.{DealerEntry}
use Rattle.step_replay.specs.InvestorTrail.{InvestorEntry}

-- A fact and its place. Dealers and investors go by their numbers among the firms.
pub data Fact : Type 0 where
  AtDealer : ℕ → DealerEntry → Fact
  InRoom : RoomRef → RoomFact → Fact
  AtInvestor : ℕ → InvestorEntry → Fact

-- what a fact says of the dealer with this number
abbrev pub entry_at_dealer : ℕ → Fact → Option DealerEntry
entry_at_dealer number (AtDealer dealer entry) = if dealer == number then Some entry else None
entry_at_dealer number fact = None

-- what it says of this room
abbrev pub fact_in_room : RoomRef → Fact → Option RoomFact
fact_in_room place (InRoom room fact) = if is_same_room room place then Some fact else None
fact_in_room place fact = None

-- what it says of the investor with this number
abbrev pub entry_at_investor : ℕ → Fact → Option InvestorEntry
entry_at_investor number (AtInvestor firm entry) = if firm == number then Some entry else None
entry_at_investor number fact = None

-- the trail of a dealer
unfoldable pub of_dealer : ℕ → List Fact → List DealerEntry
of_dealer number facts = filter_map (entry_at_dealer number) facts

-- the facts of a room
unfoldable pub of_room : RoomRef → List Fact → List RoomFact
of_room place facts = filter_map (fact_in_room place) facts

-- the trail of an investor
unfoldable pub of_investor : ℕ → List Fact → List InvestorEntry
of_investor number facts = filter_map (entry_at_investor number) facts
