-- What an investor was told of a dealer that declined its request.
use Rattle.std.specs.Prelude.{◌≡◌, ◌⊎◌, ℕ, List, Some}
use Rattle.market_terms.specs.declared.rooms.RoomRef.{RoomRef}
use Rattle.quote_messages.specs.declared.out_messages.OutMessage.TheVariants as out
use Rattle.venue_rows.specs.Rows.{Configuration, dealer_numbered, investor_numbered}
use Rattle.venue_rows.specs.declared.dealer_rows.DealerRow.{DealerRow}
use Rattle.venue_rows.specs.declared.investor_rows.InvestorRow.{InvestorRow}
use Rattle.investor_desk.specs.InvestorDesk.{market_of}
use Rattle.investor_desk.specs.InvestorFacts.{Asked}
use Rattle.investor_desk.specs.declared.standing.AcceptedRequest.{AcceptedRequest}
use Rattle.step_replay.specs.InvestorTrail.{sent_by}
use Rattle.step_replay.specs.Lists.{In}
use Rattle.step_replay.specs.VenueFacts.{Fact, of_investor}
use Rattle.laws_shown.specs.ShownRequests.{at_investor}
use Rattle.laws_rooms.specs.Responses.{Said, said_to}
use Rattle.laws_rooms.specs.Told.{WasClosed}

-- The investor of a room was sent that this dealer declined: 35=AI with 297=11, with the QuoteReqID
-- (131) of the room's request and the dealer's name (448).
pub record WasDeclined (config : Configuration) (facts : List Fact) (room : RoomRef) (dealer : ℕ)
    : Type 0 where
  pub investor : InvestorRow
  pub is_investor : investor_numbered config room.investor ≡ Some investor
  pub row : DealerRow
  pub is_dealer : dealer_numbered config dealer ≡ Some row
  pub request : AcceptedRequest
  pub accepted : In (Asked request) (at_investor room.investor facts)
  pub number : request.number ≡ room.n
  pub said : Said
  pub says : said.message ≡ out.DealerDeclined request.id row.name
  pub sent : In (said_to (market_of config room.investor investor) said)
      (sent_by (of_investor room.investor facts))

-- It was sent so, or its request was closed.
abbrev pub IsToldSo : Configuration → List Fact → RoomRef → ℕ → Type 0
IsToldSo config facts room dealer =
    WasDeclined config facts room dealer ⊎ WasClosed (at_investor room.investor facts) room.n
