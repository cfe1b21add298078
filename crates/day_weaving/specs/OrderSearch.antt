-- How the search for an order stands: names for private functions alone.
use Rattle.std.specs.Prelude.{◌≡◌, ◌<◌, ◌≤◌, ℕ, ◌+◌, ◌-◌, ◌==◌, Bool, true, false}
use Rattle.std.specs.Prelude.{List, [], ◌∷◌, ◌++◌, length, take, slice_get, slice_set}
use Rattle.std.specs.Prelude.{Option, Some, None, is_some}
use Rattle.std.specs.List.{list_any, sum_by}
use Rattle.std.specs.Option.{option_map_or}
use Rattle.venue_steps.specs.declared.actors.Actor.{Actor}
use Rattle.day_weaving.specs.DayForm.{AreNamedOnce}
use Rattle.day_weaving.specs.DayOrder.{ComesInTurn, IsCycle, IsDirectlyBefore, IsNextAtSite}
use Rattle.day_weaving.specs.DayOrder.{KeepsOrder, StandsAt, grants, is_granted}
use Rattle.day_weaving.specs.DayOrder.{is_refused, refuses}
use Rattle.day_weaving.specs.OrderCounts.{AreOfActors, Counts, SetsCount, count_in, key_of}
use Rattle.day_weaving.specs.OrderLaws.{StandsIn}
use Rattle.recorded_days.specs.Records.{ActionRef, RecordedDay, action_in, actions_of}
use Rattle.recorded_days.specs.declared.actions.Action.{Action}
use Rattle.day_weaving.specs.declared.weave_order.Found.{Found}
use Rattle.day_weaving.specs.declared.weave_order.Found.TheVariants as found
use Rattle.day_weaving.specs.declared.weave_plan.Slot.{Slot}
use Rattle.day_weaving.specs.declared.weave_search.Mark.{Mark}
use Rattle.day_weaving.specs.declared.weave_search.Mark.TheVariants as mark
use Rattle.day_weaving.specs.declared.weave_search.Search.{Search}
use Rattle.day_weaving.specs.declared.weave_table.Table.{Table}

-- Actions.

abbrev pub IsAction : RecordedDay → ActionRef → Type 0
IsAction day action = is_some (action_in day action) ≡ true

-- so many of its actor have come that this one has
abbrev pub HasCome : Counts → ActionRef → Type 0
HasCome done action = action.1 ≤ count_in done (key_of action.0)

-- it has not
abbrev pub IsLeft : Counts → ActionRef → Type 0
IsLeft done action = count_in done (key_of action.0) < action.1

-- of each actor no fewer have come
abbrev pub Grows : Counts → Counts → Type 0
Grows before after = (key : ℕ) → count_in before key ≤ count_in after key

-- whether an action was granted this word
abbrev pub grants_to : RecordedDay → ℕ → ActionRef → Bool
grants_to day word action = option_map_or (grants word) (action_in day action) false

-- whether it was refused it
abbrev pub refuses_to : RecordedDay → ℕ → ActionRef → Bool
refuses_to day word action = option_map_or (refuses word) (action_in day action) false

-- whether a word is this one
abbrev pub is_word : Option ℕ → ℕ → Bool
is_word asked word = option_map_or (λ (one : ℕ). one == word) asked false

-- The table of the actions.

-- where an action stands in it
abbrev pub index_in : Counts → ActionRef → ℕ
index_in firsts action = count_in firsts (key_of action.0) + (action.1 - 1)

-- what stands in it is an action of the day, where its slot says
pub record IsSlot (day : RecordedDay) (slot : Slot) : Type 0 where
  pub is_action : IsAction day slot.action
  pub stands : StandsAt day slot.site slot.spot slot.action

-- of the first so many actions none from this place on was granted a word, and the one before it was
pub record IsBound (day : RecordedDay) (slots : List Slot) (word up_to bound : ℕ) : Type 0 where
  pub within : bound ≤ up_to
  pub granted : (slot : Slot) → 0 < bound → slice_get slots (bound - 1) ≡ Some slot
      → is_granted day word slot ≡ true
  pub none : (place : ℕ) (slot : Slot) → bound ≤ place → place < up_to
      → slice_get slots place ≡ Some slot → is_granted day word slot ≡ false

-- for each word its last grant is known, and for each of its grants the one before that
pub record IsChain (day : RecordedDay) (slots : List Slot) (below : List ℕ) (last : Counts)
    : Type 0 where
  pub long : length below ≡ length slots
  pub links : (word place bound : ℕ) (slot : Slot) → slice_get below place ≡ Some bound
      → slice_get slots place ≡ Some slot → is_granted day word slot ≡ true
      → IsBound day slots word place bound
  pub lasts : (word : ℕ) → IsBound day slots word (length slots) (count_in last word)

-- what is in the table so far is right
pub record IsBuilt (day : RecordedDay) (table : Table) : Type 0 where
  pub right : (place : ℕ) (slot : Slot) → slice_get table.slots.items place ≡ Some slot
      → IsSlot day slot
  pub chain : IsChain day table.slots.items table.below.items table.last

-- an action stands in it at its place
abbrev pub IsInTable : Table → ActionRef → Type 0
IsInTable table action = StandsIn table.slots.items action (index_in table.firsts action)

-- all actions of an actor do
abbrev pub HasActor : RecordedDay → Table → Actor → Type 0
HasActor day table by = (number : ℕ) → IsAction day (by, number) → IsInTable table (by, number)

-- it has all actions of the day, each of which an order names at one place
pub record IsTable (day : RecordedDay) (table : Table) : Type 0 where
  pub named : AreNamedOnce day
  pub built : IsBuilt day table
  pub each : (action : ActionRef) → IsAction day action → IsInTable table action

-- an action is put behind the others
pub record Puts (before after : Table) (action : ActionRef) : Type 0 where
  pub slot : Slot
  pub is_it : slot.action ≡ action
  pub slots_are : after.slots.items ≡ before.slots.items ++ slot ∷ []
  pub firsts_are : after.firsts ≡ before.firsts

-- an action is noted as the last grant of the word that it was granted, and the last one before it
-- is told
pub record Links (before after : Counts) (action : Action) (behind below : ℕ) : Type 0 where
  pub told : (word : ℕ) → grants word action ≡ true → below ≡ count_in before word
  pub noted : (word : ℕ) → grants word action ≡ true → count_in after word ≡ behind
  pub others : (word : ℕ) → grants word action ≡ false
      → count_in after word ≡ count_in before word

-- What an action waits for.

-- an action is left, and directly before another
pub record IsLeftBefore (day : RecordedDay) (done : Counts) (one other : ActionRef) : Type 0 where
  pub is_action : IsAction day one
  pub before : IsDirectlyBefore day one other
  pub left : IsLeft done one

-- all that are directly before an action have come
pub record IsReady (day : RecordedDay) (done : Counts) (slot : Slot) : Type 0 where
  pub of_actor : slot.action.1 ≤ count_in done (key_of slot.action.0) + 1
  pub at_site : (before : List Slot) → AreOfActors done before → IsNextAtSite day before slot
  pub by_word : (word : ℕ) → refuses_to day word slot.action ≡ true → (one : ActionRef)
      → grants_to day word one ≡ true → HasCome done one

-- The search.

-- how many steps are left for an action: it comes onto the way, and from there into the order
abbrev pub weight : Mark → ℕ
weight mark.New = 2
weight (mark.OnWay at) = 1
weight mark.Placed = 0

abbrev pub steps_left : Search → ℕ
steps_left state = sum_by weight state.marks.items

abbrev pub place_on : Mark → Option ℕ
place_on (mark.OnWay at) = Some at
place_on other = None

-- the mark of an action
abbrev pub mark_of : Table → List Mark → ActionRef → Option Mark
mark_of table marks action = slice_get marks (index_in table.firsts action)

-- the order so far
pub record HasOrder (day : RecordedDay) (done : Counts) (order : List Slot) : Type 0 where
  pub turns : (place : ℕ) (now : Slot) → slice_get order place ≡ Some now
      → ComesInTurn day (take place order) now
  pub actors : AreOfActors done order
  pub within : (by : Actor) (actions : List Action) → actions_of day by ≡ Some actions
      → count_in done (key_of by) ≤ length actions
  pub words : (word : ℕ) → list_any (is_refused day word) order ≡ true → (one : ActionRef)
      → grants_to day word one ≡ true → HasCome done one

-- an action stands on the way at this place, and is left
pub record IsOnWay (day : RecordedDay) (table : Table) (state : Search) (at : ℕ)
    (action : ActionRef) : Type 0 where
  pub is_action : IsAction day action
  pub mark_is : mark_of table state.marks.items action ≡ Some (mark.OnWay at)
  pub left : IsLeft state.done action

-- the search stands between two steps
pub record Stands (day : RecordedDay) (table : Table) (state : Search) : Type 0 where
  pub long : length state.marks.items ≡ length table.slots.items
  pub order : HasOrder day state.done state.order.items
  pub placed : (action : ActionRef) → IsAction day action
      → mark_of table state.marks.items action ≡ Some mark.Placed → HasCome state.done action
  pub marked : (action : ActionRef) (at : ℕ) → IsAction day action
      → mark_of table state.marks.items action ≡ Some (mark.OnWay at)
      → slice_get state.way.items at ≡ Some action
  pub on_way : (at : ℕ) (action : ActionRef) → slice_get state.way.items at ≡ Some action
      → IsOnWay day table state at action
  pub way : (at : ℕ) (later earlier : ActionRef) → slice_get state.way.items at ≡ Some later
      → slice_get state.way.items (at + 1) ≡ Some earlier → IsDirectlyBefore day earlier later

-- an action comes onto the way
pub record Pushes (table : Table) (before after : Search) (action : ActionRef) : Type 0 where
  pub done_is : after.done ≡ before.done
  pub order_is : after.order ≡ before.order
  pub way_is : after.way.items ≡ before.way.items ++ action ∷ []
  pub marks_are : after.marks.items ≡ slice_set before.marks.items (index_in table.firsts action)
      (mark.OnWay (length before.way.items))

-- the last action of the way comes into the order
pub record Places (table : Table) (before after : Search) (slot : Slot) : Type 0 where
  pub done_is : SetsCount before.done after.done (key_of slot.action.0) slot.action.1
  pub order_is : after.order.items ≡ before.order.items ++ slot ∷ []
  pub way_is : after.way.items ≡ take (length before.way.items - 1) before.way.items
  pub marks_are : after.marks.items
      ≡ slice_set before.marks.items (index_in table.firsts slot.action) mark.Placed

-- What is found.

abbrev pub FoundIsTrue : RecordedDay → Found → Type 0
FoundIsTrue day (found.Order slots) = KeepsOrder day slots.items
FoundIsTrue day (found.Cycle actions) = IsCycle day actions.items
