-- What is recorded of a day: of each firm what it was sent, its blotter, the events at its desk and
-- the order in which they came, its inbox and its actions; of each room its events and their order;
-- and the actions of the clock.
use Rattle.std.specs.Prelude.{ℕ, ◌-◌, nat_lt, List, ◌++◌, length, map, slice_get}
use Rattle.std.specs.Prelude.{Option, Some, None, option_and_then, if◌then◌else◌}
use Rattle.std.specs.Option.{option_map}
use Rattle.dealer_desk.specs.declared.events.DealerEvent.{DealerEvent}
use Rattle.investor_desk.specs.declared.events.InvestorEvent.{InvestorEvent}
use Rattle.market_terms.specs.DayLines.{DayLines, OfDealer, OfInvestor}
use Rattle.market_terms.specs.declared.lines.QuoteLine.{QuoteLine}
use Rattle.market_terms.specs.declared.lines.RequestLine.{RequestLine}
use Rattle.market_terms.specs.declared.rooms.RoomRef.{RoomRef}
use Rattle.request_room.specs.declared.events.RoomEvent.{RoomEvent}
use Rattle.venue_steps.specs.declared.actors.Actor.{Actor}
use Rattle.venue_steps.specs.declared.actors.Actor.TheVariants as actor
use Rattle.recorded_days.specs.declared.actions.Action.{Action}
use Rattle.recorded_days.specs.declared.actions.Inbound.{Inbound}

-- which action it is: its actor, and its number among the actions of that actor, from 1
abbrev pub ActionRef : Type 0
ActionRef = Actor × ℕ

-- what is recorded of a dealer
pub record DealerLists : Type 0 where
  pub sent : List (List ℕ)  -- the messages that it was sent
  pub lines : List QuoteLine  -- the lines of its blotter
  pub events : List DealerEvent  -- the events at its desk
  pub order : List ActionRef  -- the actions at its desk, in their order
  pub inbox : List Inbound  -- the messages that came from it
  pub actions : List Action  -- what it did

-- what is recorded of a room
pub record RoomLists : Type 0 where
  pub events : List RoomEvent
  pub order : List ActionRef

-- what is recorded of an investor: the same, and its rooms, that of its first request first
pub record InvestorLists : Type 0 where
  pub sent : List (List ℕ)
  pub lines : List RequestLine
  pub events : List InvestorEvent
  pub order : List ActionRef
  pub inbox : List Inbound
  pub actions : List Action
  pub rooms : List RoomLists

-- what is recorded of a day: firms go by their numbers, the dealers from 0 on, behind them the
-- investors
pub record RecordedDay : Type 0 where
  pub dealers : List DealerLists
  pub investors : List InvestorLists
  pub clock : List Action  -- what the clock did

-- what is recorded of any firm
pub record FirmLists : Type 0 where
  pub sent : List (List ℕ)
  pub lines : DayLines
  pub order : List ActionRef
  pub inbox : List Inbound
  pub actions : List Action

abbrev pub of_dealer : DealerLists → FirmLists
of_dealer dealer = record {
  sent = dealer.sent;
  lines = OfDealer dealer.lines;
  order = dealer.order;
  inbox = dealer.inbox;
  actions = dealer.actions;
}

abbrev pub of_investor : InvestorLists → FirmLists
of_investor investor = record {
  sent = investor.sent;
  lines = OfInvestor investor.lines;
  order = investor.order;
  inbox = investor.inbox;
  actions = investor.actions;
}

-- all firms, in the order of their numbers
abbrev pub firms_in : RecordedDay → List FirmLists
firms_in day = map of_dealer day.dealers ++ map of_investor day.investors

-- the firm with this number
abbrev pub firm_in : RecordedDay → ℕ → Option FirmLists
firm_in day firm = slice_get (firms_in day) firm

-- the dealer with this number
abbrev pub dealer_in : RecordedDay → ℕ → Option DealerLists
dealer_in day firm = slice_get day.dealers firm

-- the investor with this number
abbrev pub investor_in : RecordedDay → ℕ → Option InvestorLists
investor_in day firm =
    if nat_lt firm (length day.dealers)
    then None
    else slice_get day.investors (firm - length day.dealers)

-- the room of the request with this number, from 1, of an investor
abbrev pub room_numbered : ℕ → InvestorLists → Option RoomLists
room_numbered number investor =
    if nat_lt 0 number then slice_get investor.rooms (number - 1) else None

-- the room that a reference names
abbrev pub room_in : RecordedDay → RoomRef → Option RoomLists
room_in day room = option_and_then (room_numbered room.n) (investor_in day room.investor)

-- what an actor did
abbrev pub actions_of : RecordedDay → Actor → Option (List Action)
actions_of day (actor.Firm firm) =
    option_map (λ (recorded : FirmLists). recorded.actions) (firm_in day firm)
actions_of day actor.Clock = Some day.clock

-- the action with this number of an actor
abbrev pub action_numbered : ℕ → List Action → Option Action
action_numbered number actions =
    if nat_lt 0 number then slice_get actions (number - 1) else None

-- an action, where the day has it
abbrev pub action_in : RecordedDay → ActionRef → Option Action
action_in day action = option_and_then (action_numbered action.1) (actions_of day action.0)
