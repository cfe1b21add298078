-- What a day on threads promises of its lists, each promise as a sentence: what stands in them, and
-- not how that is looked for. The checks of `DayChecks`, `ShownRequests`, `RelayedQuotes`,
-- `AnsweredResponses` and `DayActions` decide each of them (`checks_decide_what_is_promised`).
use Rattle.std.specs.Prelude.{◌≡◌, ◌⊎◌, ℕ, ◌+◌, ◌&&◌, Bool, true, false, List, [], ◌∷◌, ◌++◌}
use Rattle.std.specs.Prelude.{Option, Some, None, is_some}
use Rattle.std.specs.List.{list_any}
use Rattle.dealer_desk.specs.declared.events.DealerEvent.{DealerEvent}
use Rattle.dealer_desk.specs.declared.events.DealerEvent.TheVariants as at_dealer
use Rattle.market_terms.specs.declared.asks.Ask.{Ask}
use Rattle.market_terms.specs.declared.closes.Close.{Close}
use Rattle.market_terms.specs.declared.rooms.RoomRef.{RoomRef}
use Rattle.step_replay.specs.Lists.{Every}
use Rattle.venue_steps.specs.declared.actors.Actor.{Actor}
use Rattle.venue_rows.specs.Rows.{Configuration}
use Rattle.recorded_days.specs.Records.{ActionRef, DealerLists, InvestorLists, RecordedDay}
use Rattle.recorded_days.specs.Records.{RoomLists, action_in}
use Rattle.recorded_days.specs.declared.actions.Action.{Action}
use Rattle.recorded_days.specs.declared.actions.Sweep.{Sweep}
use Rattle.day_checks.specs.AnsweredResponses.{is_answered}
use Rattle.day_checks.specs.Arrivals.{arrivals_from}
use Rattle.day_checks.specs.DayActions.{left_at_dealer, left_at_investor, left_in_room}
use Rattle.day_checks.specs.DayChecks.{DayRoom, close_due, is_of, notices_told, owes}
use Rattle.day_checks.specs.DayChecks.{times_for, times_swept}
use Rattle.day_checks.specs.RelayedQuotes.{is_relayed}
use Rattle.day_checks.specs.ShownRequests.{ask_due, is_asked, is_showing, shows_room}
use Rattle.day_checks.specs.declared.notices.Notice.{Notice}

-- Lists.

-- One item of a list is of a kind, and no other item is.
pub record IsOnly {A : Type 0} (is : A → Bool) (item : A) (items : List A) : Type 0 where
  pub before : List A
  pub later : List A
  pub stands : items ≡ before ++ item ∷ later
  pub of_kind : is item ≡ true
  pub none_before : Every (λ other. is other ≡ false) before
  pub none_later : Every (λ other. is other ≡ false) later

-- something is so of each of some dealers, which are numbered onward from this number
abbrev pub EachNumbered : (ℕ → DealerLists → Type 0) → ℕ → List DealerLists → Type 0
EachNumbered P number [] = Unit {0}
EachNumbered P number (dealer ∷ later) = P number dealer × EachNumbered P (number + 1) later

-- Closing notices.

-- of these notices one alone is of this room, and it says how the room ended, where that is due
abbrev pub IsToldOnce : List Notice → RoomRef → Option Close → Type 0
IsToldOnce notices room None = Unit {0}
IsToldOnce notices room (Some close) =
    IsOnly (is_of room) (record { room = Some room; close = close }) notices

-- a notice is of a room that ended, and whose request names the dealer
abbrev pub IsOfEnded : List DayRoom → ℕ → Notice → Type 0
IsOfEnded rooms dealer notice =
    list_any (λ (room : DayRoom). owes dealer room && is_of room.at notice) rooms ≡ true

-- The dealer with this number was told once of each room that ended and names it, how the room
-- ended for it, and nothing else.
pub record WasTold (rooms : List DayRoom) (number : ℕ) (dealer : DealerLists) : Type 0 where
  pub each_once : Every (λ (room : DayRoom).
      IsToldOnce (notices_told dealer.events) room.at (close_due number room)) rooms
  pub no_other : Every (IsOfEnded rooms number) (notices_told dealer.events)

-- Requests shown.

-- one event alone shows the request of a room, and it shows it as one for this
pub record IsShownOnly (events : List DealerEvent) (room : RoomRef) (ask : Ask) : Type 0 where
  pub moment : ℕ
  pub only : IsOnly (shows_room room) (at_dealer.Shown room ask moment) events

-- the same where it is to be shown
abbrev pub IsShownOnce : List DealerEvent → RoomRef → Option Ask → Type 0
IsShownOnce events room None = Unit {0}
IsShownOnce events room (Some ask) = IsShownOnly events room ask

-- an event that shows a request shows that of a room whose request names the dealer
abbrev pub IsOfAsked : List DayRoom → ℕ → DealerEvent → Type 0
IsOfAsked rooms dealer event = is_showing event ≡ true
    → list_any (λ (room : DayRoom). is_asked dealer room && shows_room room.at event) rooms ≡ true

-- The dealer with this number was shown once the request of each room that names it, as it was
-- asked, and no other.
pub record WasShown (rooms : List DayRoom) (number : ℕ) (dealer : DealerLists) : Type 0 where
  pub each_once : Every (λ (room : DayRoom).
      IsShownOnce dealer.events room.at (ask_due number room)) rooms
  pub no_other : Every (IsOfAsked rooms number) dealer.events

-- Rooms.

-- the sweeps of a room are those that the clock was to make of it, in their order
abbrev pub WasSwept : List Sweep → DayRoom → Type 0
WasSwept sweeps room = times_swept room.day.events ≡ times_for room.at sweeps

-- the quotes that took effect in a room came to its investor: the investors are numbered onward
-- from this number
abbrev pub WasRelayed : Configuration → ℕ → List InvestorLists → DayRoom → Type 0
WasRelayed config first investors room =
    is_relayed config (arrivals_from room.at first investors) room ≡ true

-- the replies of a room came to its investor, and so did that its request expired, where it did
abbrev pub WasAnswered : ℕ → List InvestorLists → DayRoom → Type 0
WasAnswered first investors room =
    is_answered (arrivals_from room.at first investors) room ≡ true

-- Actions.

-- an action of an actor left an event, where the day has the action
abbrev pub IsLeftBy : {E : Type 0} → (E → Actor → Action → Bool) → E → Actor → Option Action
    → Type 0
IsLeftBy left event by None = ⊥
IsLeftBy left event by (Some action) = left event by action ≡ true

-- Events are those that some actions of a day left, in the order of these actions: each action left
-- one event or none.
abbrev pub AreOfActions : {E : Type 0} → (E → Actor → Action → Bool) → RecordedDay
    → List ActionRef → List E → Type 0
AreOfActions left day [] [] = Unit {0}
AreOfActions left day [] (event ∷ later) = ⊥
AreOfActions left day (one ∷ others) [] =
    (is_some (action_in day one) ≡ true) × AreOfActions left day others []
AreOfActions left day (one ∷ others) (event ∷ later) = (is_some (action_in day one) ≡ true)
    × (AreOfActions left day others (event ∷ later)
    ⊎ (IsLeftBy left event one.0 (action_in day one) × AreOfActions left day others later))

-- the events in a room are those that the actions there left
abbrev pub IsRoomOfActions : RecordedDay → RoomLists → Type 0
IsRoomOfActions day room = AreOfActions left_in_room day room.order room.events

-- those at an investor's desk are, and in the rooms of its requests
abbrev pub IsInvestorOfActions : RecordedDay → InvestorLists → Type 0
IsInvestorOfActions day investor =
    AreOfActions left_at_investor day investor.order investor.events
    × Every (IsRoomOfActions day) investor.rooms

-- Each event of a day is that of an action at its desk or in its room.
pub record IsOfActions (day : RecordedDay) : Type 0 where
  pub at_dealers : Every (λ (dealer : DealerLists).
      AreOfActions left_at_dealer day dealer.order dealer.events) day.dealers
  pub at_investors : Every (IsInvestorOfActions day) day.investors
