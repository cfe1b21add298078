-- The order of a recorded day: which of its actions are directly before which.
use Rattle.std.specs.Prelude.{◌≡◌, ◌<◌, ◌≤◌, ℕ, ◌+◌, ◌-◌, ◌==◌, Bool, true, false, ◌&&◌, not}
use Rattle.std.specs.Prelude.{List, length, take, count_by}
use Rattle.std.specs.Prelude.{slice_get, Option, Some, is_some, option_and_then}
use Rattle.std.specs.List.{list_any}
use Rattle.std.specs.Option.{option_map, option_map_or}
use Rattle.quote_word.specs.declared.settled.Settled.{Settled}
use Rattle.quote_word.specs.declared.settled.Settled.TheVariants as settled
use Rattle.step_replay.specs.AuditTrail.{is_same_actor}
use Rattle.venue_steps.specs.declared.actors.Actor.{Actor}
use Rattle.recorded_days.specs.Records.{ActionRef, FirmLists, RecordedDay, RoomLists, actions_of}
use Rattle.recorded_days.specs.Records.{action_in, firm_in, room_in}
use Rattle.recorded_days.specs.declared.actions.Action.{Action}
use Rattle.recorded_days.specs.declared.actions.Kind.{Kind}
use Rattle.recorded_days.specs.declared.actions.Kind.TheVariants as kind
use Rattle.day_weaving.specs.declared.sites.Site.{Site}
use Rattle.day_weaving.specs.declared.weave_plan.Slot.{Slot}
use Rattle.day_weaving.specs.declared.sites.Site.TheVariants as site

-- the order of the actions at a desk or in a room
abbrev pub order_at : RecordedDay → Site → Option (List ActionRef)
order_at day (site.Desk firm) =
    option_map (λ (lists : FirmLists). lists.order) (firm_in day firm)
order_at day (site.Room room) =
    option_map (λ (lists : RoomLists). lists.order) (room_in day room)

-- Words. A message and a drop wish to withdraw the quote whose word they ask, a hit to lift it.

-- whether an action of a kind is settled as it wishes
abbrev pub is_as_wished : Kind → Settled → Bool
is_as_wished kind.Hit settled.Lifted = true
is_as_wished kind.Hit settled.Withdrawn = false
is_as_wished other settled.Lifted = false
is_as_wished other settled.Withdrawn = true

-- an action asked this word, and whether it was settled as it wished is this
pub record Asked (word : ℕ) (wished : Bool) (action : Action) : Type 0 where
  pub settlement : Settled
  pub word_is : action.word ≡ Some (word, settlement)
  pub wished_is : is_as_wished action.kind settlement ≡ wished

-- Directly before.

-- two actions of one actor, the first of them earlier
pub record OfOneActor (day : RecordedDay) (one other : ActionRef) : Type 0 where
  pub same : is_same_actor one.0 other.0 ≡ true
  pub earlier : one.1 < other.1
  pub one_is : is_some (action_in day one) ≡ true
  pub other_is : is_some (action_in day other) ≡ true

-- an action stands at this place in an order
abbrev pub StandsAt : RecordedDay → Site → ℕ → ActionRef → Type 0
StandsAt day at spot action =
    option_and_then (λ (order : List ActionRef). slice_get order spot) (order_at day at) ≡ Some action

-- two actions at one desk or in one room, the first of them earlier
pub record AtOneSite (day : RecordedDay) (one other : ActionRef) : Type 0 where
  pub at : Site
  pub one_spot : ℕ
  pub other_spot : ℕ
  pub earlier : one_spot < other_spot
  pub one_is : StandsAt day at one_spot one
  pub other_is : StandsAt day at other_spot other

-- two actions that asked one word, of which the first was settled as it wished and the second was
-- not
pub record OfOneWord (day : RecordedDay) (one other : ActionRef) : Type 0 where
  pub word : ℕ
  pub granted : Action
  pub refused : Action
  pub one_is : action_in day one ≡ Some granted
  pub other_is : action_in day other ≡ Some refused
  pub one_asked : Asked word true granted
  pub other_asked : Asked word false refused

-- an action is directly before another
pub data IsDirectlyBefore (day : RecordedDay) (one other : ActionRef) : Type 0 where
  ByActor : OfOneActor day one other → IsDirectlyBefore day one other
  BySite : AtOneSite day one other → IsDirectlyBefore day one other
  ByWord : OfOneWord day one other → IsDirectlyBefore day one other

-- the action at this place of a list has another one of the list directly before it
pub record HasOneBefore (day : RecordedDay) (actions : List ActionRef) (place : ℕ) : Type 0 where
  pub other : ℕ
  pub one_is : ActionRef
  pub later_is : ActionRef
  pub one_there : slice_get actions other ≡ Some one_is
  pub later_there : slice_get actions place ≡ Some later_is
  pub before : IsDirectlyBefore day one_is later_is

-- Actions, and at least one, of which each has one of them directly before it: so no order keeps
-- each behind all that are directly before it.
pub record IsCycle (day : RecordedDay) (actions : List ActionRef) : Type 0 where
  pub some : 0 < length actions
  pub each : (place : ℕ) → place < length actions → HasOneBefore day actions place

-- An order of the day.

-- whether an action of an order is of this actor
abbrev pub is_by : Actor → Slot → Bool
is_by actor slot = is_same_actor slot.action.0 actor

-- whether an action asked this word, and was not settled as it wished
abbrev pub refuses : ℕ → Action → Bool
refuses word action =
    option_map_or (λ (asked : ℕ × Settled).
    (asked.0 == word) && not (is_as_wished action.kind asked.1)) action.word false

-- whether it asked it, and was
abbrev pub grants : ℕ → Action → Bool
grants word action =
    option_map_or (λ (asked : ℕ × Settled).
    (asked.0 == word) && is_as_wished action.kind asked.1) action.word false

-- the same of an action of an order
abbrev pub is_refused : RecordedDay → ℕ → Slot → Bool
is_refused day word slot = option_map_or (refuses word) (action_in day slot.action) false

abbrev pub is_granted : RecordedDay → ℕ → Slot → Bool
is_granted day word slot = option_map_or (grants word) (action_in day slot.action) false

-- Behind these an action comes in its turn at its desk or in its room: it is the first there, or the
-- one before it there has come, as one of so many of its actor.
pub data IsNextAtSite (day : RecordedDay) (before : List Slot) (now : Slot) : Type 0 where
  IsFirst : now.spot ≡ 0 → IsNextAtSite day before now
  IsBehind : (previous : ActionRef) → StandsAt day now.site (now.spot - 1) previous
      → previous.1 ≤ count_by (is_by previous.0) before → IsNextAtSite day before now

-- Behind these an action comes in its turn: it is the next of its actor, and at its desk or in its
-- room; and where it was granted a word, none of these was refused that word.
pub record ComesInTurn (day : RecordedDay) (before : List Slot) (now : Slot) : Type 0 where
  pub is_action : is_some (action_in day now.action) ≡ true
  pub stands : StandsAt day now.site now.spot now.action
  pub of_actor : now.action.1 ≡ count_by (is_by now.action.0) before + 1
  pub at_site : IsNextAtSite day before now
  pub by_word : (word : ℕ) → is_granted day word now ≡ true
      → list_any (is_refused day word) before ≡ false

-- An order keeps what is directly before what: each action comes in its turn, and all actions of
-- each actor have come. So each stands in it once, behind all that are directly before it, as the
-- laws of orders say.
pub record KeepsOrder (day : RecordedDay) (slots : List Slot) : Type 0 where
  pub turns : (place : ℕ) (now : Slot) → slice_get slots place ≡ Some now
      → ComesInTurn day (take place slots) now
  pub whole : (actor : Actor) (actions : List Action) → actions_of day actor ≡ Some actions
      → count_by (is_by actor) slots ≡ length actions
