-- How the code notes where each action stands: names for private functions alone.
use Rattle.std.specs.Prelude.{◌≡◌, ◌≢◌, ℕ, ◌==◌, Bool, true, ◌&&◌, Option, Some, is_some}
use Rattle.std.specs.HashMap.{get, HashMap}
use Rattle.std.specs.declared.hash.BuildHasherDefault.{BuildHasherDefault}
use Rattle.std.specs.declared.hash.FoldHasher.{FoldHasher}
use Rattle.venue_rows.specs.Rows.{Configuration, has_room}
use Rattle.venue_steps.specs.declared.actors.Actor.{Actor}
use Rattle.day_weaving.specs.DayOrder.{StandsAt}
use Rattle.day_weaving.specs.OrderCounts.{key_of}
use Rattle.recorded_days.specs.Records.{ActionRef, RecordedDay, action_in}
use Rattle.day_weaving.specs.declared.sites.Site.{Site}
use Rattle.day_weaving.specs.declared.sites.Site.TheVariants as site

-- a desk or a room, and a place in the order there
abbrev pub Spot : Type 0
Spot = Site × ℕ

-- where actions stand, by the numbers of their actors and their own
abbrev pub Places : Type 0
Places = HashMap (ℕ × ℕ) Spot (BuildHasherDefault FoldHasher)

abbrev pub same_key : ℕ × ℕ → ℕ × ℕ → Bool
same_key one other = (one.0 == other.0) && (one.1 == other.1)

-- where an action stands, as far as it is noted
abbrev pub place_in : Places → ActionRef → Option Spot
place_in places action = get same_key places (key_of action.0, action.1)

-- one action is noted, and every other stays
pub record SetsPlace (before after : Places) (action : ActionRef) (place : Spot) : Type 0 where
  pub set : place_in after action ≡ Some place
  pub others : (other : ActionRef) → other ≢ action → place_in after other ≡ place_in before other

-- where an action is noted to stand it stands
abbrev pub AreTrue : RecordedDay → Places → Type 0
AreTrue day places = (action : ActionRef) (place : Spot) → place_in places action ≡ Some place
    → StandsAt day place.0 place.1 action

-- what is noted stays
abbrev pub Grow : Places → Places → Type 0
Grow before after = (action : ActionRef) (place : Spot) → place_in before action ≡ Some place
    → place_in after action ≡ Some place

-- an action of the day is noted to stand here
pub record IsNoted (day : RecordedDay) (places : Places) (action : ActionRef) (place : Spot)
    : Type 0 where
  pub place_is : place_in places action ≡ Some place
  pub is_action : is_some (action_in day action) ≡ true

-- what stands at one place of the order of a desk or a room is noted to stand there
abbrev pub IsNotedAt : RecordedDay → Places → Site → ℕ → Type 0
IsNotedAt day places at spot = (action : ActionRef) → StandsAt day at spot action
    → IsNoted day places action (at, spot)

-- whatever stands in that order is
abbrev pub AreNoted : RecordedDay → Places → Site → Type 0
AreNoted day places at = (spot : ℕ) → IsNotedAt day places at spot

-- whatever stands at the desk of a firm or in a room of its is noted to stand there
pub record AreNotedOf (config : Configuration) (day : RecordedDay) (places : Places) (firm : ℕ)
    : Type 0 where
  pub desk : AreNoted day places (site.Desk firm)
  pub rooms : (n : ℕ) → has_room config firm n ≡ true
      → AreNoted day places (site.Room (record { investor = firm; n = n }))

-- each action of an actor is noted
abbrev pub AreNotedBy : RecordedDay → Places → Actor → Type 0
AreNotedBy day places actor = (number : ℕ) → is_some (action_in day (actor, number)) ≡ true
    → is_some (place_in places (actor, number)) ≡ true
