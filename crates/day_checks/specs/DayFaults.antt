-- Why a day on threads has no record: which fault is the first, and of what it is true.
use Rattle.std.specs.Prelude.{◌≡◌, ◌⊎◌, ℕ, ◌+◌, ◌<◌, Bool, not, List, ◌++◌, length, map, find}
use Rattle.std.specs.Prelude.{Option, Some, None}
use Rattle.std.specs.Option.{option_map}
use Rattle.market_terms.specs.declared.rooms.RoomRef.{RoomRef}
use Rattle.venue_rows.specs.Rows.{Configuration, has_room}
use Rattle.recorded_days.specs.Records.{DealerLists, InvestorLists, RecordedDay}
use Rattle.recorded_days.specs.declared.actions.Action.{Action}
use Rattle.recorded_days.specs.declared.actions.Inbound.{Inbound}
use Rattle.recorded_days.specs.declared.actions.Sweep.{Sweep}
use Rattle.day_checks.specs.AnsweredResponses.{first_unanswered}
use Rattle.day_checks.specs.DayActions.{EventsAreOfActions, first_unleft, number_at}
use Rattle.day_checks.specs.DayChecks.{DayRoom, first_unswept, first_untold}
use Rattle.day_checks.specs.KeptDays.{DealersKeep, InvestorsKeep, names_of, rooms_of}
use Rattle.day_checks.specs.KeptDays.{rooms_of_venue, without_rooms}
use Rattle.day_checks.specs.RelayedQuotes.{first_unrelayed}
use Rattle.day_checks.specs.ShownRequests.{first_unshown}
use Rattle.day_checks.specs.declared.faults.DayFault.{DayFault}
use Rattle.day_checks.specs.declared.faults.DayFault.TheVariants as fault

-- What was joined of a day: the dealers, the investors still without their rooms, all rooms in a
-- list, and what the clock did.
pub record JoinedDay : Type 0 where
  pub dealers : List DealerLists
  pub investors : List InvestorLists
  pub rooms : List DayRoom
  pub clock : List Action

-- the investors of a joined day with their rooms, which stand in its list one after the other
pub record HaveRooms (config : Configuration) (joined : JoinedDay) (whole : List InvestorLists)
    : Type 0 where
  pub alike : map without_rooms whole ≡ map without_rooms joined.investors
  pub rooms_are : rooms_of (length config.dealers) whole ≡ joined.rooms

-- the record of a joined day, with these investors
abbrev pub record_of : JoinedDay → List InvestorLists → RecordedDay
record_of joined whole =
    record { dealers = joined.dealers; investors = whole; clock = joined.clock }

-- the first room of a joined day whose quotes did not come to its investor
abbrev pub unrelayed_of : Configuration → JoinedDay → Option RoomRef
unrelayed_of config joined =
    first_unrelayed config (length config.dealers) joined.investors joined.rooms

-- the first whose hits and passes were not answered as it replied
abbrev pub unanswered_of : Configuration → JoinedDay → Option RoomRef
unanswered_of config joined =
    first_unanswered (length config.dealers) joined.investors joined.rooms

-- A record is that of a joined day on which all agrees: each dealer was told how the rooms that
-- name it ended, each room was swept as the clock was told, each dealer was shown the requests that
-- name it, the quotes and the replies of each room came to its investor, and each event is that of
-- an action.
pub record Agrees (config : Configuration) (sweeps : List Sweep) (joined : JoinedDay)
    (day : RecordedDay) : Type 0 where
  pub whole : List InvestorLists
  pub have_rooms : HaveRooms config joined whole
  pub day_is : day ≡ record_of joined whole
  pub told : first_untold joined.rooms joined.dealers ≡ None
  pub swept : first_unswept sweeps joined.rooms ≡ None
  pub shown : first_unshown joined.rooms joined.dealers ≡ None
  pub relayed : unrelayed_of config joined ≡ None
  pub answered : unanswered_of config joined ≡ None
  pub of_actions : EventsAreOfActions day

-- the first firm of a joined day with an event, at its desk or in a room of its requests, that is
-- not that of an action there
pub record IsFirstUnleft (config : Configuration) (joined : JoinedDay) (firm : ℕ) : Type 0 where
  pub whole : List InvestorLists
  pub have_rooms : HaveRooms config joined whole
  pub firm_is : option_map number_at (first_unleft (record_of joined whole)) ≡ Some firm

-- A fault is the first of a joined day. The dealers' notices come before the sweeps, the sweeps
-- before the requests that were shown, these before the quotes that came, these before the replies
-- that came, and these before the actions: it is the first dealer that was not told what it is to
-- be told; else the first room that was not swept as the clock was told; else the first dealer that
-- was not shown what it is to be shown; else the first room whose quotes did not come to its
-- investor; else the first whose hits and passes were not answered as it replied; else the first
-- firm with an event that is not that of an action. Memory may be refused at any point.
abbrev pub IsFirstOf : Configuration → List Sweep → JoinedDay → DayFault → Type 0
IsFirstOf config sweeps joined (fault.Told dealer) =
    first_untold joined.rooms joined.dealers ≡ Some dealer
IsFirstOf config sweeps joined (fault.Sweep room) =
    (first_untold joined.rooms joined.dealers ≡ None)
    × (first_unswept sweeps joined.rooms ≡ Some room)
IsFirstOf config sweeps joined (fault.Shown dealer) =
    (first_untold joined.rooms joined.dealers ≡ None)
    × (first_unswept sweeps joined.rooms ≡ None)
    × (first_unshown joined.rooms joined.dealers ≡ Some dealer)
IsFirstOf config sweeps joined (fault.Relayed room) =
    (first_untold joined.rooms joined.dealers ≡ None)
    × (first_unswept sweeps joined.rooms ≡ None)
    × (first_unshown joined.rooms joined.dealers ≡ None)
    × (unrelayed_of config joined ≡ Some room)
IsFirstOf config sweeps joined (fault.Answered room) =
    (first_untold joined.rooms joined.dealers ≡ None)
    × (first_unswept sweeps joined.rooms ≡ None)
    × (first_unshown joined.rooms joined.dealers ≡ None)
    × (unrelayed_of config joined ≡ None)
    × (unanswered_of config joined ≡ Some room)
IsFirstOf config sweeps joined (fault.Acted firm) =
    (first_untold joined.rooms joined.dealers ≡ None)
    × (first_unswept sweeps joined.rooms ≡ None)
    × (first_unshown joined.rooms joined.dealers ≡ None)
    × (unrelayed_of config joined ≡ None)
    × (unanswered_of config joined ≡ None)
    × IsFirstUnleft config joined firm
IsFirstOf config sweeps joined (fault.Inbox firm) = ⊥
IsFirstOf config sweeps joined fault.Memory = Unit {0}

-- What was joined is a day of the venue to which these messages came, an inbox for each firm: it
-- has the venue's firms and rooms, and what is recorded of each firm follows from the events at its
-- desk.
pub record IsJoinedOf (config : Configuration) (inboxes : List (List Inbound)) (joined : JoinedDay)
    : Type 0 where
  pub dealers_are : length joined.dealers ≡ length config.dealers
  pub investors_are : length joined.investors ≡ length config.investors
  pub rooms_are : names_of joined.rooms ≡ rooms_of_venue config
  pub inboxes_are : map (λ (day : DealerLists). day.inbox) joined.dealers
      ++ map (λ (day : InvestorLists). day.inbox) joined.investors ≡ inboxes
  pub dealers_keep : DealersKeep config joined.dealers
  pub investors_keep : InvestorsKeep config joined.investors

-- a joined day of the venue to which these messages came has such a fault as its first
pub record IsOfJoined (config : Configuration) (inboxes : List (List Inbound))
    (sweeps : List Sweep) (why : DayFault) : Type 0 where
  pub joined : JoinedDay
  pub joined_of : IsJoinedOf config inboxes joined
  pub first : IsFirstOf config sweeps joined why

-- whether a sweep is of a room that the venue does not have
abbrev pub is_foreign : Configuration → Sweep → Bool
is_foreign config sweep = not (has_room config sweep.room.investor sweep.room.n)

-- the room of the first sweep of a room that the venue does not have
abbrev pub first_foreign : Configuration → List Sweep → Option RoomRef
first_foreign config sweeps =
    option_map (λ (sweep : Sweep). sweep.room) (find (is_foreign config) sweeps)

-- Why there is no record of the day of a venue to which these messages came, and whose clock had
-- these sweeps to make: a dealer's notices, a room's sweeps, the requests that a dealer was shown,
-- the quotes or replies that came from a room, or the actions of a firm, are the first fault of a
-- joined day; or the clock was to sweep a room that the venue does not have; a firm whose inbox is
-- named is one of the venue.
abbrev pub IsFaultOf : Configuration → List (List Inbound) → List Sweep → DayFault → Type 0
IsFaultOf config inboxes sweeps (fault.Told dealer) =
    IsOfJoined config inboxes sweeps (fault.Told dealer)
IsFaultOf config inboxes sweeps (fault.Sweep room) =
    IsOfJoined config inboxes sweeps (fault.Sweep room)
    ⊎ (first_foreign config sweeps ≡ Some room)
IsFaultOf config inboxes sweeps (fault.Shown dealer) =
    IsOfJoined config inboxes sweeps (fault.Shown dealer)
IsFaultOf config inboxes sweeps (fault.Relayed room) =
    IsOfJoined config inboxes sweeps (fault.Relayed room)
IsFaultOf config inboxes sweeps (fault.Answered room) =
    IsOfJoined config inboxes sweeps (fault.Answered room)
IsFaultOf config inboxes sweeps (fault.Acted firm) =
    IsOfJoined config inboxes sweeps (fault.Acted firm)
IsFaultOf config inboxes sweeps (fault.Inbox firm) =
    firm < length config.dealers + length config.investors
IsFaultOf config inboxes sweeps fault.Memory = Unit {0}
