-- Which records are of a day of a venue, and which are malformed.
use Rattle.std.specs.Prelude.{◌≡◌, ◌≢◌, ℕ, Bool, true, false, length, count_by, Some}
use Rattle.std.specs.Prelude.{is_some}
use Rattle.std.specs.List.{list_any}
use Rattle.std.specs.Option.{option_map_or}
use Rattle.market_terms.specs.declared.rooms.RoomRef.{RoomRef}
use Rattle.venue_rows.specs.Rows.{Configuration, has_room}
use Rattle.day_weaving.specs.DayOrder.{StandsAt}
use Rattle.recorded_days.specs.Kinds.{is_in, is_expire}
use Rattle.recorded_days.specs.Records.{ActionRef, FirmLists, RecordedDay, action_in, firm_in}
use Rattle.recorded_days.specs.Records.{room_in}
use Rattle.recorded_days.specs.declared.actions.Action.{Action}
use Rattle.day_weaving.specs.declared.sites.Site.{Site}

-- whether an action is a message that came to a desk
abbrev pub takes_message : Action → Bool
takes_message action = is_in action.kind

-- whether it is a sweep of a room
abbrev pub sweeps : Action → Bool
sweeps action = is_expire action.kind

-- whether an order names a sweep
abbrev pub names_sweep : RecordedDay → ActionRef → Bool
names_sweep day action = option_map_or sweeps (action_in day action) false

-- A record has the firms of a venue, and no room that the venue does not have.
pub record HasFirmsOf (config : Configuration) (day : RecordedDay) : Type 0 where
  pub dealers : length day.dealers ≡ length config.dealers
  pub investors : length day.investors ≡ length config.investors
  pub rooms : (room : RoomRef) → is_some (room_in day room) ≡ true
      → has_room config room.investor room.n ≡ true

-- What is recorded of a firm: its inbox has one message for each that came to its desk, it sweeps
-- no room, and its desk is not swept.
pub record IsFirmsDay (day : RecordedDay) (lists : FirmLists) : Type 0 where
  pub inbox : count_by takes_message lists.actions ≡ length lists.inbox
  pub sweeps_none : list_any sweeps lists.actions ≡ false
  pub not_swept : list_any (names_sweep day) lists.order ≡ false

-- an action is named at one place of an order
pub record IsNamed (day : RecordedDay) (action : ActionRef) : Type 0 where
  pub at : Site
  pub spot : ℕ
  pub stands : StandsAt day at spot action

-- The orders of desks and rooms name each action exactly once and nothing else.
pub record AreNamedOnce (day : RecordedDay) : Type 0 where
  pub each : (action : ActionRef) → is_some (action_in day action) ≡ true → IsNamed day action
  pub once : (action : ActionRef) (at other : Site) (spot other_spot : ℕ)
      → StandsAt day at spot action → StandsAt day other other_spot action
      → (at ≡ other) × (spot ≡ other_spot)
  pub nothing_else : (action : ActionRef) (at : Site) (spot : ℕ) → StandsAt day at spot action
      → is_some (action_in day action) ≡ true

-- A record is of a day of a venue.
pub record IsWellFormed (config : Configuration) (day : RecordedDay) : Type 0 where
  pub firms : HasFirmsOf config day
  pub days : (firm : ℕ) (lists : FirmLists) → firm_in day firm ≡ Some lists
      → IsFirmsDay day lists
  pub clock : list_any takes_message day.clock ≡ false
  pub named : AreNamedOnce day

-- Why the orders of desks and rooms do not: they name what is no action of the day, or an action
-- nowhere, or at two places.
pub data AreMisnamed (day : RecordedDay) : Type 0 where
  NamesNoAction : (action : ActionRef) (at : Site) (spot : ℕ) → StandsAt day at spot action
      → is_some (action_in day action) ≡ false → AreMisnamed day
  NamedNowhere : (action : ActionRef) → is_some (action_in day action) ≡ true
      → (IsNamed day action → ⊥) → AreMisnamed day
  NamedTwice : (action : ActionRef) (at other : Site) (spot other_spot : ℕ)
      → StandsAt day at spot action → StandsAt day other other_spot action
      → ((at ≡ other) × (spot ≡ other_spot) → ⊥) → AreMisnamed day

-- Why a record is malformed: it has not as many dealers or investors as the venue, or a room that
-- the venue does not have; the inbox of a firm has not one message for each that came to its desk;
-- a firm sweeps a room, a desk is swept, or the clock has a message; or the orders of desks and
-- rooms do not name each action exactly once and nothing else.
pub data IsMalformed (config : Configuration) (day : RecordedDay) : Type 0 where
  OtherDealers : length day.dealers ≢ length config.dealers → IsMalformed config day
  OtherInvestors : length day.investors ≢ length config.investors → IsMalformed config day
  OtherRoom : (room : RoomRef) → is_some (room_in day room) ≡ true
      → has_room config room.investor room.n ≡ false → IsMalformed config day
  OtherInbox : (firm : ℕ) (lists : FirmLists) → firm_in day firm ≡ Some lists
      → count_by takes_message lists.actions ≢ length lists.inbox → IsMalformed config day
  FirmSweeps : (firm : ℕ) (lists : FirmLists) → firm_in day firm ≡ Some lists
      → list_any sweeps lists.actions ≡ true → IsMalformed config day
  DeskIsSwept : (firm : ℕ) (lists : FirmLists) → firm_in day firm ≡ Some lists
      → list_any (names_sweep day) lists.order ≡ true → IsMalformed config day
  ClockTakesMessage : list_any takes_message day.clock ≡ true → IsMalformed config day
  Misnamed : AreMisnamed day → IsMalformed config day
