-- How the code counts what has come of an order: names for private functions alone.
use Rattle.std.specs.Prelude.{◌≡◌, ◌≢◌, ℕ, ◌+◌, List, [], ◌∷◌, ◌++◌, take, count_by, nat_eq}
use Rattle.std.specs.Prelude.{Option, Some, option_and_then, slice_get, unwrap_or}
use Rattle.std.specs.HashMap.{get, HashMap}
use Rattle.std.specs.declared.hash.BuildHasherDefault.{BuildHasherDefault}
use Rattle.std.specs.declared.hash.FoldHasher.{FoldHasher}
use Rattle.venue_steps.specs.declared.actors.Actor.{Actor}
use Rattle.venue_steps.specs.declared.actors.Actor.TheVariants as actor
use Rattle.step_replay.specs.declared.steps.Step.{Step}
use Rattle.step_replay.specs.declared.steps.Step.TheVariants as step
use Rattle.day_weaving.specs.DayForm.{takes_message}
use Rattle.day_weaving.specs.DayOrder.{is_by}
use Rattle.recorded_days.specs.Records.{FirmLists, RecordedDay, firm_in}
use Rattle.recorded_days.specs.declared.actions.Inbound.{Inbound}
use Rattle.day_weaving.specs.declared.weave_plan.Slot.{Slot}

-- counts by numbers
abbrev pub Counts : Type 0
Counts = HashMap ℕ ℕ (BuildHasherDefault FoldHasher)

-- how many there are of a number
abbrev pub count_in : Counts → ℕ → ℕ
count_in counts key = unwrap_or (get nat_eq counts key) 0

-- one count is set, and every other stays
pub record SetsCount (before after : Counts) (key count : ℕ) : Type 0 where
  pub set : count_in after key ≡ count
  pub others : (other : ℕ) → other ≢ key → count_in after other ≡ count_in before other

-- a number for each actor
abbrev pub key_of : Actor → ℕ
key_of (actor.Firm firm) = firm + 1
key_of actor.Clock = 0

-- the counts are those of the actors in an order
abbrev pub AreOfActors : Counts → List Slot → Type 0
AreOfActors counts before =
    (by : Actor) → count_in counts (key_of by) ≡ count_by (is_by by) before

-- an action comes next of its actor
abbrev pub IsNext : List Slot → Slot → Type 0
IsNext before now = now.action.1 ≡ count_by (is_by now.action.0) before + 1

-- the counts are those of the messages that came from each firm in an order
abbrev pub AreOfInboxes : RecordedDay → Counts → List Slot → Type 0
AreOfInboxes day counts before = (firm : ℕ) (lists : FirmLists) → firm_in day firm ≡ Some lists
    → count_in counts firm
    ≡ count_by takes_message (take (count_by (is_by (actor.Firm firm)) before) lists.actions)

-- a message of the inbox of a firm
abbrev pub inbound_at : RecordedDay → ℕ → ℕ → Option Inbound
inbound_at day firm index =
    option_and_then (λ (lists : FirmLists). slice_get lists.inbox index) (firm_in day firm)

-- the next message of the inbox of the firm that acts comes, and is counted
pub record TakesNext (day : RecordedDay) (slot : Slot) (before after : Counts)
    (steps now : List Step) : Type 0 where
  pub firm : ℕ
  pub inbound : Inbound
  pub by_firm : slot.action.0 ≡ actor.Firm firm
  pub is_next : inbound_at day firm (count_in before firm) ≡ Some inbound
  pub counted : SetsCount before after firm (count_in before firm + 1)
  pub steps_are : now ≡ steps ++ step.In firm inbound.moment inbound.bytes ∷ []
