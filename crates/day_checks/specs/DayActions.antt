-- What the events of a day say of its actions, however its threads ran: each event at a desk or in
-- a room is that of an action there, of its kind and at its moment, and events stand in the order
-- of their actions. An action that came to nothing left no event.
use Rattle.std.specs.Prelude.{◌≡◌, ℕ, ◌+◌, ◌==◌, min, Bool, true, false, ◌&&◌, not, List, []}
use Rattle.std.specs.Prelude.{◌∷◌, length, Option, Some, None, is_some, if◌then◌else◌}
use Rattle.std.specs.List.{list_all, position}
use Rattle.std.specs.Option.{option_map, option_or}
use Rattle.dealer_desk.specs.declared.events.DealerEvent.{DealerEvent}
use Rattle.dealer_desk.specs.declared.events.DealerEvent.TheVariants as at_dealer
use Rattle.investor_desk.specs.declared.events.InvestorEvent.{InvestorEvent}
use Rattle.investor_desk.specs.declared.events.InvestorEvent.TheVariants as at_investor
use Rattle.request_room.specs.declared.events.RoomEvent.{RoomEvent}
use Rattle.request_room.specs.declared.events.RoomEvent.TheVariants as in_room
use Rattle.step_replay.specs.AuditTrail.{is_same_actor}
use Rattle.venue_steps.specs.declared.actors.Actor.{Actor}
use Rattle.venue_steps.specs.declared.actors.Actor.TheVariants as actor
use Rattle.recorded_days.specs.Records.{ActionRef, DealerLists, InvestorLists, RecordedDay}
use Rattle.recorded_days.specs.Records.{RoomLists, action_in}
use Rattle.recorded_days.specs.declared.actions.Action.{Action}
use Rattle.recorded_days.specs.declared.actions.Kind.{Kind}
use Rattle.recorded_days.specs.declared.actions.Kind.TheVariants as kind

-- Kinds.

-- a number for each kind of action, by which kinds are compared
abbrev pub kind_code : Kind → ℕ
kind_code kind.In = 0
kind_code kind.Expire = 1
kind_code kind.Open = 2
kind_code kind.Show = 3
kind_code kind.Ready = 4
kind_code kind.Post = 5
kind_code kind.Relay = 6
kind_code kind.Unpost = 7
kind_code kind.Gone = 8
kind_code kind.Decline = 9
kind_code kind.Declined = 10
kind_code kind.Hit = 11
kind_code kind.Pass = 12
kind_code kind.Answer = 13
kind_code kind.Close = 14
kind_code kind.Tell = 15
kind_code kind.Drop = 16

-- whether an action is of a kind
abbrev pub is_kind : Kind → Action → Bool
is_kind name action = kind_code action.kind == kind_code name

-- whether it is of a kind, and at a moment
abbrev pub is_at : Kind → ℕ → Action → Bool
is_at name moment action = is_kind name action && (action.moment == moment)

-- whether it is of a kind, and done by an actor
abbrev pub is_by : Kind → Actor → Actor → Action → Bool
is_by name one by action = is_kind name action && is_same_actor by one

-- Events, and whether an action of an actor is the one that left them.

-- an event at a dealer's desk
abbrev pub left_at_dealer : DealerEvent → Actor → Action → Bool
left_at_dealer (at_dealer.Received moment message settlement) by action =
    is_at kind.In moment action
left_at_dealer (at_dealer.Shown room ask moment) by action = is_at kind.Show moment action
left_at_dealer (at_dealer.Told request close moment) by action = is_at kind.Tell moment action
left_at_dealer (at_dealer.Drop last moment settlement) by action = is_at kind.Drop moment action

-- an event at an investor's desk
abbrev pub left_at_investor : InvestorEvent → Actor → Action → Bool
left_at_investor (at_investor.Received moment message) by action = is_at kind.In moment action
left_at_investor (at_investor.QuoteCame request offer moment) by action =
    is_at kind.Relay moment action
left_at_investor (at_investor.QuoteGone request word moment) by action =
    is_at kind.Gone moment action
left_at_investor (at_investor.DealerDeclined request dealer moment) by action =
    is_at kind.Declined moment action
left_at_investor (at_investor.Answered request response reply moment) by action =
    is_at kind.Answer moment action
left_at_investor (at_investor.Closed request moment) by action = is_at kind.Close moment action

-- an event in a room: of a quote and of a decline it says the dealer, and of others the moment,
-- where it has one
abbrev pub left_in_room : RoomEvent → Actor → Action → Bool
left_in_room (in_room.Open request) by action = is_kind kind.Open action
left_in_room in_room.Ready by action = is_kind kind.Ready action
left_in_room (in_room.Post dealer word price valid_until) by action =
    is_by kind.Post (actor.Firm dealer) by action
left_in_room (in_room.Unpost dealer word) by action =
    is_by kind.Unpost (actor.Firm dealer) by action
left_in_room (in_room.Decline dealer) by action = is_by kind.Decline (actor.Firm dealer) by action
left_in_room (in_room.Hit word moment settlement) by action = is_at kind.Hit moment action
left_in_room (in_room.Pass moment) by action = is_at kind.Pass moment action
left_in_room (in_room.Expire moment) by action = is_at kind.Expire moment action

-- Desks and rooms.

-- the events behind those of an action: all but the first, where that is the action's, and else all
abbrev pub behind : {E : Type 0} → (E → Actor → Action → Bool) → Actor → Action → List E → List E
behind left by action [] = []
behind left by action (event ∷ later) = if left event by action then later else event ∷ later

-- the same of an action of a day, where the day has it
abbrev pub behind_in : {E : Type 0} → (E → Actor → Action → Bool) → Actor → Option Action → List E
    → List E
behind_in left by None events = events
behind_in left by (Some action) events = behind left by action events

-- whether there are none
abbrev pub are_none : {E : Type 0} → List E → Bool
are_none [] = true
are_none (event ∷ later) = false

-- whether an order names actions of a day alone, and events are those of these actions
abbrev pub are_left : {E : Type 0} → (E → Actor → Action → Bool) → RecordedDay → List ActionRef
    → List E → Bool
are_left left day [] events = are_none events
are_left left day (one ∷ later) events =
    is_some (action_in day one)
    && are_left left day later (behind_in left one.0 (action_in day one) events)

-- whether the events at a dealer's desk are those of the actions there
abbrev pub is_dealer_left : RecordedDay → DealerLists → Bool
is_dealer_left day dealer = are_left left_at_dealer day dealer.order dealer.events

-- whether the events in a room are
abbrev pub is_room_left : RecordedDay → RoomLists → Bool
is_room_left day room = are_left left_in_room day room.order room.events

-- whether those at an investor's desk are, and in the rooms of its requests
abbrev pub is_investor_left : RecordedDay → InvestorLists → Bool
is_investor_left day investor =
    are_left left_at_investor day investor.order investor.events
    && list_all (is_room_left day) investor.rooms

-- each event of a day is that of an action at its desk or in its room
pub record EventsAreOfActions (day : RecordedDay) : Type 0 where
  pub at_dealers : list_all (is_dealer_left day) day.dealers ≡ true
  pub at_investors : list_all (is_investor_left day) day.investors ≡ true

-- the place among the firms, the dealers before the investors, of the first with an event at its
-- desk, or in a room of its requests, that is not that of an action there
abbrev pub first_unleft : RecordedDay → Option ℕ
first_unleft day =
    option_or (position (λ (dealer : DealerLists). not (is_dealer_left day dealer)) day.dealers)
    (option_map (λ place. length day.dealers + place)
    (position (λ (investor : InvestorLists). not (is_investor_left day investor)) day.investors))

-- the number of the firm at a place among the firms: no number is above 65,535
abbrev pub number_at : ℕ → ℕ
number_at place = min place 65535
