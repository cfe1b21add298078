-- What a dealer was shown.
use Rattle.std.specs.Prelude.{◌≡◌, ℕ, List, slice_get, Some}
use Rattle.market_terms.specs.declared.rooms.RoomRef.{RoomRef}
use Rattle.investor_desk.specs.InvestorFacts.{Asked, InvestorFact}
use Rattle.investor_desk.specs.declared.standing.AcceptedRequest.{AcceptedRequest}
use Rattle.step_replay.specs.DealerTrail.{DealerEntry, rooms_by}
use Rattle.step_replay.specs.Lists.{In}

-- A dealer with this trail was shown the request of a room.
abbrev pub IsShown : List DealerEntry → RoomRef → Type 0
IsShown trail room = In room (rooms_by trail)

-- A dealer with this trail was shown the request of a room once: the room stands at one place among
-- those of the requests that it was shown.
pub record IsShownOnce (trail : List DealerEntry) (room : RoomRef) : Type 0 where
  pub place : ℕ
  pub there : slice_get (rooms_by trail) place ≡ Some room
  pub once : (other : ℕ) → slice_get (rooms_by trail) other ≡ Some room → other ≡ place

-- An investor with these facts asked this dealer: its request with this number was accepted, and names
-- the dealer.
pub record HasAsked (facts : List InvestorFact) (number dealer : ℕ) : Type 0 where
  pub request : AcceptedRequest
  pub accepted : In (Asked request) facts
  pub number_is : request.number ≡ number
  pub named : In dealer request.dealers
