-- What an order of a day has of each of its actions.
use Rattle.std.specs.Prelude.{◌≡◌, ◌<◌, ℕ, true, List, slice_get, Some, is_some}
use Rattle.recorded_days.specs.Records.{ActionRef, RecordedDay, action_in}
use Rattle.day_weaving.specs.DayOrder.{IsDirectlyBefore, StandsAt}
use Rattle.day_weaving.specs.declared.weave_plan.Slot.{Slot}

-- an action stands at this place of an order
pub record StandsIn (slots : List Slot) (action : ActionRef) (place : ℕ) : Type 0 where
  pub slot : Slot
  pub there : slice_get slots place ≡ Some slot
  pub is_it : slot.action ≡ action

-- an action stands in an order exactly once
pub record StandsOnce (slots : List Slot) (action : ActionRef) : Type 0 where
  pub place : ℕ
  pub stands : StandsIn slots action place
  pub nowhere_else : (other : ℕ) → StandsIn slots action other → other ≡ place

-- wherever one action stands in an order and another one, the first comes before the second
abbrev pub ComesBefore : List Slot → ActionRef → ActionRef → Type 0
ComesBefore slots one other = (place later : ℕ) → StandsIn slots one place
    → StandsIn slots other later → place < later

-- An order of a day, by what is directly before what: in it stands each action of the day once,
-- where it stands at its desk or in its room, and behind all that are directly before it.
pub record IsOrder (day : RecordedDay) (slots : List Slot) : Type 0 where
  pub stand : (place : ℕ) (now : Slot) → slice_get slots place ≡ Some now
      → StandsAt day now.site now.spot now.action
  pub once : (action : ActionRef) → is_some (action_in day action) ≡ true
      → StandsOnce slots action
  pub behind : (one other : ActionRef) → IsDirectlyBefore day one other
      → ComesBefore slots one other
