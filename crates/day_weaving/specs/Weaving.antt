-- A recorded day, woven into steps.
use Rattle.std.specs.Prelude.{◌≡◌, ◌<◌, ℕ, ◌-◌, List, take, count_by, slice_get, Option, Some}
use Rattle.std.specs.List.{AllZip}
use Rattle.std.specs.Option.{option_map}
use Rattle.venue_rows.specs.Rows.{Configuration}
use Rattle.market_terms.specs.declared.rooms.RoomRef.{RoomRef}
use Rattle.step_replay.specs.AuditTrail.{audit_trail}
use Rattle.step_replay.specs.FirmDays.{FirmDay, firm_days}
use Rattle.step_replay.specs.StepFaults.{firms_of}
use Rattle.venue_steps.specs.declared.actors.Actor.TheVariants as actor
use Rattle.step_replay.specs.declared.steps.Step.TheVariants as step
use Rattle.step_replay.specs.declared.steps.Step.{Step}
use Rattle.recorded_days.specs.Records.{FirmLists, RecordedDay, action_in, firm_in}
use Rattle.day_weaving.specs.DayForm.{IsMalformed, IsWellFormed, takes_message}
use Rattle.day_weaving.specs.DayOrder.{IsCycle, KeepsOrder}
use Rattle.recorded_days.specs.declared.actions.Action.{Action}
use Rattle.recorded_days.specs.declared.actions.Inbound.{Inbound}
use Rattle.recorded_days.specs.declared.actions.Kind.{Kind}
use Rattle.recorded_days.specs.declared.actions.Kind.TheVariants as kind
use Rattle.day_weaving.specs.declared.sites.Site.TheVariants as site
use Rattle.day_weaving.specs.declared.weave_plan.Slot.{Slot}
use Rattle.day_weaving.specs.declared.weaving.WeaveFault.{WeaveFault}
use Rattle.day_weaving.specs.declared.weaving.WeaveFault.TheVariants as fault

-- what the firm with this number was sent in these days of the firms
abbrev pub sent_in : List FirmDay → ℕ → Option (List (List ℕ))
sent_in days firm = option_map (λ (day : FirmDay). day.sent) (slice_get days firm)

-- what it was sent by a record
abbrev pub sent_by_record : RecordedDay → ℕ → Option (List (List ℕ))
sent_by_record day firm = option_map (λ (lists : FirmLists). lists.sent) (firm_in day firm)

-- what the firm with this number is sent in these steps
abbrev pub sent_by_steps : Configuration → List Step → ℕ → Option (List (List ℕ))
sent_by_steps config steps firm =
    sent_in (firm_days config (audit_trail config steps).facts) firm

-- each firm is sent in these steps what a record says
abbrev pub SendAsRecorded : Configuration → RecordedDay → List Step → Type 0
SendAsRecorded config day steps = (firm : ℕ) → firm < firms_of config
    → sent_by_steps config steps firm ≡ sent_by_record day firm

-- each firm whose number is below this one is
abbrev pub SendAsRecordedBelow : ℕ → Configuration → RecordedDay → List Step → Type 0
SendAsRecordedBelow firm config day steps = (earlier : ℕ) → earlier < firm
    → sent_by_steps config steps earlier ≡ sent_by_record day earlier

-- a firm is sent something else
abbrev pub SendsElse : Configuration → RecordedDay → List Step → ℕ → Type 0
SendsElse config day steps firm =
    sent_by_steps config steps firm ≡ sent_by_record day firm → ⊥

-- the message of the inbox of a firm that comes with its action of this number, which is that of
-- the same place among those that come from it
abbrev pub message_with : FirmLists → ℕ → Option Inbound
message_with lists number =
    slice_get lists.inbox (count_by takes_message (take (number - 1) lists.actions))

-- the message of the inbox of the firm that acts comes, which is that of this action
pub record IsMessage (day : RecordedDay) (slot : Slot) (now : Step) : Type 0 where
  pub firm : ℕ
  pub lists : FirmLists
  pub inbound : Inbound
  pub by_firm : slot.action.0 ≡ actor.Firm firm
  pub lists_are : firm_in day firm ≡ Some lists
  pub is_its : message_with lists slot.action.1 ≡ Some inbound
  pub step_is : now ≡ step.In firm inbound.moment inbound.bytes

-- the room that the action came to is swept
pub record IsSweep (slot : Slot) (moment : ℕ) (now : Step) : Type 0 where
  pub room : RoomRef
  pub room_is : slot.site ≡ site.Room room
  pub step_is : now ≡ step.Expire room moment

-- the step of an action of a kind: one of these, or its actor does the oldest of its duties
abbrev pub IsStepOfKind : RecordedDay → Kind → Slot → ℕ → Step → Type 0
IsStepOfKind day kind.In slot moment now = IsMessage day slot now
IsStepOfKind day kind.Expire slot moment now = IsSweep slot moment now
IsStepOfKind day other slot moment now = now ≡ step.Turn slot.action.0

-- A step is that of an action of an order: a message as it came, at its moment; a sweep at the
-- moment of the action; or a turn.
pub record IsStepOf (day : RecordedDay) (slot : Slot) (now : Step) : Type 0 where
  pub action : Action
  pub action_is : action_in day slot.action ≡ Some action
  pub step_is : IsStepOfKind day action.kind slot action.moment now

-- steps are those of the actions of a day of the venue, each once, in an order that keeps what is
-- directly before what
pub record AreWoven (config : Configuration) (day : RecordedDay) (steps : List Step) : Type 0 where
  pub well_formed : IsWellFormed config day
  pub order : List Slot
  pub keeps : KeepsOrder day order
  pub are_steps : AllZip (IsStepOf day) order steps

-- Why a day is not woven: a malformed record is malformed; else the list of a cycle is one, and a
-- firm that differs is sent something else in steps of an order that is kept, as the first firm of
-- which that is so.
abbrev pub FaultIsTrue : Configuration → RecordedDay → WeaveFault → Type 0
FaultIsTrue config day fault.Malformed = IsMalformed config day
FaultIsTrue config day (fault.Cycle actions) =
    IsWellFormed config day × IsCycle day actions.items
FaultIsTrue config day (fault.Differs firm) =
    (steps : List Step) × AreWoven config day steps × SendsElse config day steps firm
    × SendAsRecordedBelow firm config day steps
FaultIsTrue config day fault.Memory = Unit {0}

-- a fault says that a firm differs, or that memory was refused
abbrev pub IsDifferentOrMemory : WeaveFault → Type 0
IsDifferentOrMemory (fault.Differs firm) = Unit {0}
IsDifferentOrMemory fault.Memory = Unit {0}
IsDifferentOrMemory other = ⊥
