-- What the venue shows a dealer of a request (35=R) is what the investor wrote.
use Rattle.std.specs.Prelude.{◌≡◌, ℕ, List, map, Some}
use Rattle.fix_fields.specs.Frame.{Field, value_of}
use Rattle.market_terms.specs.declared.asks.Ask.{Ask}
use Rattle.market_terms.specs.declared.rooms.RoomRef.{RoomRef}
use Rattle.venue_rows.specs.Rows.{Configuration, investor_numbered}
use Rattle.venue_rows.specs.declared.dealer_rows.DealerRow.{DealerRow}
use Rattle.venue_rows.specs.declared.investor_rows.InvestorRow.{InvestorRow}
use Rattle.dealer_desk.specs.DealerFacts.{DealerFact}
use Rattle.investor_desk.specs.InvestorFacts.{InvestorFact, Asked}
use Rattle.investor_desk.specs.declared.standing.AcceptedRequest.{AcceptedRequest}
use Rattle.step_replay.specs.DealerTrail as dealer_trail
use Rattle.step_replay.specs.InvestorTrail as investor_trail
use Rattle.step_replay.specs.Lists.{In}
use Rattle.step_replay.specs.VenueFacts.{Fact, of_dealer, of_investor}
use Rattle.laws_shown.specs.Said.{CameToInvestor, SaysRequest, quantity_at, moment_at}

-- what became so at the desk of the dealer, and of the investor, with this number
abbrev pub at_dealer : ℕ → List Fact → List DealerFact
at_dealer dealer facts = dealer_trail.facts_of (of_dealer dealer facts)

abbrev pub at_investor : ℕ → List Fact → List InvestorFact
at_investor investor facts = investor_trail.facts_of (of_investor investor facts)

-- the room of an investor's request with this number
abbrev pub room_of : ℕ → ℕ → RoomRef
room_of investor number = record { investor = investor; n = number }

-- the names of the venue's dealers, each at its number
abbrev pub dealer_names : Configuration → List (List ℕ)
dealer_names config = map (λ (dealer : DealerRow). dealer.name) config.dealers

-- A request was accepted of the investor of this room, under the room's number, and a QuoteRequest
-- came from that investor that says so.
pub record IsWrittenRequest (config : Configuration) (facts : List Fact) (room : RoomRef)
    (request : AcceptedRequest) : Type 0 where
  pub row : InvestorRow
  pub asked : List Field
  pub is_investor : investor_numbered config room.investor ≡ Some row
  pub accepted : In (Asked request) (at_investor room.investor facts)
  pub number : request.number ≡ room.n
  pub came : CameToInvestor (at_investor room.investor facts) request.moment asked
  pub says : SaysRequest config.date (dealer_names config) row.name asked request

-- A dealer was shown a request that asks for this: it was accepted, as its investor wrote it, and
-- names this dealer.
pub record ComesFromARequest (config : Configuration) (facts : List Fact) (dealer : ℕ) (ask : Ask)
    : Type 0 where
  pub room : RoomRef
  pub request : AcceptedRequest
  pub is_written : IsWrittenRequest config facts room request
  pub ask_is : request.ask ≡ ask
  pub named : In dealer request.dealers

-- The message with these fields shows this dealer a request (35=R), and a QuoteRequest of an investor
-- stands behind it that was accepted and names the dealer: bond (48) and side (54) are as the investor wrote them,
-- quantity (38) and deadline (126) are what it wrote, and PartyID (448) names the investor by the
-- name under which it wrote (49).
pub record ShowsWhatWasAsked (config : Configuration) (facts : List Fact) (dealer : ℕ)
    (shown : List Field) : Type 0 where
  pub room : RoomRef
  pub request : AcceptedRequest
  pub is_written : IsWrittenRequest config facts room request
  pub named : In dealer request.dealers
  pub bond : value_of 48 shown ≡ value_of 48 is_written.asked
  pub side : value_of 54 shown ≡ value_of 54 is_written.asked
  pub quantity : quantity_at 38 shown ≡ quantity_at 38 is_written.asked
  pub deadline : moment_at config.date 126 shown ≡ moment_at config.date 126 is_written.asked
  pub investor : value_of 448 shown ≡ value_of 49 is_written.asked
