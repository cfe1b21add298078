-- How the code keeps the liftings of a dealer's quotes, beside the events that came to its desk:
-- names for private functions alone.
use Rattle.std.specs.Prelude.{◌≡◌, ◌<◌, ◌≤◌, ℕ, ◌+◌, ◌-◌, Bool, true, false, List, [], ◌∷◌, ◌++◌}
use Rattle.std.specs.Prelude.{map, take, drop, length, slice_get, Option, Some}
use Rattle.std.specs.Option.{option_map}
use Rattle.std.specs.Vec.{with_item}
use Rattle.market_terms.specs.declared.duties.Duty.{Duty}
use Rattle.market_terms.specs.declared.duties.Duty.TheVariants as duty
use Rattle.venue_rows.specs.Rows.{Configuration}
use Rattle.dealer_desk.specs.declared.events.DealerEvent.{DealerEvent}
use Rattle.dealer_desk.specs.declared.events.DealerEvent.TheVariants as at_desk
use Rattle.venue_steps.specs.RoomSteps.{is_award}
use Rattle.step_replay.specs.Actions.{QuoteRef, quote_with_word}
use Rattle.step_replay.specs.Lists.{Every}
use Rattle.step_replay.specs.declared.dues.Due.{Due}
use Rattle.step_replay.specs.declared.dues.Due.TheVariants as due
use Rattle.step_replay.specs.declared.floor.DealerPlace.{DealerPlace}
use Rattle.step_replay.specs.declared.floor.Floor.{Floor}
use Rattle.step_replay.specs.declared.floor.Lifting.{Lifting}

-- what was due by an event
abbrev pub due_by_event : DealerEvent → Due
due_by_event (at_desk.Received moment bytes settlement) = due.Own moment bytes
due_by_event (at_desk.Shown room ask moment) = due.Shown ask moment
due_by_event (at_desk.Told request close moment) = due.Closed request close moment
due_by_event (at_desk.Drop last moment settlement) = due.Drop last moment

-- what was due behind so many events: before each lifting the events that had come by then
abbrev pub dues_behind : ℕ → List DealerEvent → List Lifting → List Due
dues_behind count events [] = map due_by_event (drop count events)
dues_behind count events (lifting ∷ later) =
    map due_by_event (take (lifting.after - count) (drop count events))
    ++ due.Lifted lifting.quote ∷ dues_behind lifting.after events later

-- no lifting stands behind more events than came
abbrev pub AreWithin : ℕ → List Lifting → Type 0
AreWithin count liftings = Every (λ (lifting : Lifting). lifting.after ≤ count) liftings

-- the number of the dealer whose quote has a word
abbrev pub owner_of : Configuration → ℕ → Option ℕ
owner_of config word = option_map (λ (quote : QuoteRef). quote.dealer) (quote_with_word config word)

-- each word's owner stands in the list
abbrev pub OwnersStand : Configuration → List ℕ → Type 0
OwnersStand config owners = (word : ℕ) → slice_get owners word ≡ owner_of config word

-- A lifting is noted.

-- whether a duty replies that a hit is awarded
abbrev pub answers_award : Duty → Bool
answers_award (duty.Answer room response reply moment) = is_award reply
answers_award other = false

-- whether the duties that a hit leaves say that it is awarded: the reply is the first
abbrev pub awards : List Duty → Bool
awards [] = false
awards (first ∷ rest) = answers_award first

-- a lifting of a quote at a dealer's place, behind the events that have come
abbrev pub lifting_at : DealerPlace → ℕ → Lifting
lifting_at place quote = record { quote = quote; after = length place.desk.events }

-- a dealer's place notes that a quote was lifted
pub record Noted (quote : ℕ) (before after : DealerPlace) : Type 0 where
  pub desk_is : after.desk ≡ before.desk
  pub first_is : after.first_word ≡ before.first_word
  pub liftings_are : after.liftings.items ≡ before.liftings.items ++ lifting_at before quote ∷ []

-- the floor where the place of the dealer with this number notes that a quote was lifted
pub record NotedAt (number quote : ℕ) (place : DealerPlace) (before after : Floor) : Type 0 where
  pub now : DealerPlace
  pub is_noted : Noted quote place now
  pub after_is : after ≡ record before { dealers = with_item before.dealers number now }

-- that the quote with a word was lifted is noted at the place of its dealer, where it has one
abbrev pub Notes : ℕ → Floor → Floor → Type 0
Notes word before after = (number : ℕ) (place : DealerPlace)
    → word < length before.words
    → slice_get before.owners.items word ≡ Some number
    → slice_get before.dealers.items number ≡ Some place
    → NotedAt number (word - place.first_word + 1) place before after

-- it is noted where the hit is awarded, and else nothing changes
abbrev pub NotesWhere : Bool → ℕ → Floor → Floor → Type 0
NotesWhere true word before after = Notes word before after
NotesWhere false word before after = after ≡ before
