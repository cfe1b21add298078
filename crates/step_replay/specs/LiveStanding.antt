-- Where a venue stands that answers as steps come. `IsAt`, `Answers` and `AnswersSweeps` are
-- for callers, who need not know what a venue that `IsAt` is made of; the rest are for private
-- functions alone.
use Rattle.std.specs.Prelude.{◌≡◌, ℕ, List, [], ◌∷◌, ◌++◌, length, drop, map, Option, Some, None}
use Rattle.std.specs.Prelude.{slice_get, fold, replicate, true}
use Rattle.std.specs.Option.{option_and_then}
use Rattle.market_terms.specs.declared.duties.Duty.{Duty}
use Rattle.market_terms.specs.declared.rooms.RoomRef.{RoomRef}
use Rattle.venue_rows.specs.Rows.{Configuration}
use Rattle.step_replay.specs.AuditTrail.{AuditTrail, after_step, pending}
use Rattle.step_replay.specs.FloorDays.{sent_on_floor}
use Rattle.step_replay.specs.Following.{ReplayStands, duties_in, index_in}
use Rattle.step_replay.specs.LiveDays.{Sent, actor_of, live_messages, live_trail, messages_in}
use Rattle.step_replay.specs.OpenRooms.{Notes, RoomsStand}
use Rattle.step_replay.specs.Queues.{is_known}
use Rattle.step_replay.specs.StepFaults.{fault_of}
use Rattle.step_replay.specs.VenueRooms.{sweeps_at, rooms_of}
use Rattle.step_replay.specs.declared.done.Done.{Done}
use Rattle.step_replay.specs.declared.done.Done.TheVariants as place
use Rattle.step_replay.specs.declared.floor.Floor.{Floor}
use Rattle.step_replay.specs.declared.live.LiveVenue.{LiveVenue}
use Rattle.step_replay.specs.declared.open_rooms.OpenRooms.{OpenRooms}
use Rattle.step_replay.specs.declared.replay.Replay.{Replay}
use Rattle.venue_steps.specs.declared.actors.Actor.{Actor}
use Rattle.venue_steps.specs.declared.actors.Actor.TheVariants as actor
use Rattle.step_replay.specs.declared.steps.Step.{Step}
use Rattle.step_replay.specs.declared.steps.Step.TheVariants as step
use Rattle.step_replay.specs.declared.steps.TheConstants.{MOST_TURNS_BEHIND}

-- a venue stands where a day has come: its replay, and the rooms that are opening or open
pub record VenueStands (config : Configuration) (trail : AuditTrail)
    (live : LiveVenue) : Type 0 where
  pub replay_stands : ReplayStands config trail live.replay
  pub rooms_stand : RoomsStand config trail.facts live.open_rooms

-- a venue stands where these steps, which came one by one, have brought it
pub record IsAt (config : Configuration) (steps : List Step) (live : LiveVenue) : Type 0 where
  pub stands : VenueStands config (live_trail config steps) live
  pub clock_idle : pending actor.Clock (live_trail config steps) ≡ []

-- what one step more brings: the venue stands behind it, its actor has no duty left, and what was
-- given are the messages that were sent with it
pub record Answers (config : Configuration) (steps : List Step) (next : Step) (after : LiveVenue)
    (told : List Sent) : Type 0 where
  pub stands : IsAt config (steps ++ next ∷ []) after
  pub told_is : live_messages config (steps ++ next ∷ []) ≡ live_messages config steps ++ told
  pub none_left : pending (actor_of next) (live_trail config (steps ++ next ∷ [])) ≡ []

-- what sweeps more of these rooms bring: the venue stands behind them, the clock has no duty left,
-- and what was given are the messages that were sent with them
pub record AnswersSweepsOf (config : Configuration) (steps : List Step) (moment : ℕ)
    (rooms : List RoomRef) (after : LiveVenue) (told : List Sent) : Type 0 where
  pub stands : IsAt config (steps ++ sweeps_at moment rooms) after
  pub told_is : live_messages config (steps ++ sweeps_at moment rooms)
      ≡ live_messages config steps ++ told
  pub none_left : pending actor.Clock (live_trail config (steps ++ sweeps_at moment rooms)) ≡ []

-- what a sweep of every room of the venue brings
abbrev pub AnswersSweeps : Configuration → List Step → ℕ → LiveVenue → List Sent → Type 0
AnswersSweeps config steps moment after told =
    AnswersSweepsOf config steps moment (rooms_of config) after told

-- the duty that stands first in a queue
abbrev pub first_in : List Duty → Option Duty
first_in [] = None
first_in (duty ∷ later) = Some duty

-- the duty that an actor's next turn does
abbrev pub next_duty : Replay → Actor → Option Duty
next_duty replay by = option_and_then first_in
    (option_and_then (slice_get (duties_in replay)) (index_in (length replay.queues.items) by))

-- the messages of a firm behind so many
abbrev pub sent_behind : Floor → ℕ → ℕ → List Sent
sent_behind floor firm from = map (λ message. (firm, message)) (drop from (sent_on_floor floor firm))

-- what is taken in of a step: the messages that were sent at its desk are told behind the others, or
-- the deadline of its room is noted
abbrev pub TakesIn : Done → Floor → List Sent → List Sent → OpenRooms → OpenRooms → Type 0
TakesIn place.Nowhere floor old new before after = (new ≡ old) × (after ≡ before)
TakesIn (place.AtDesk firm count) floor old new before after =
    (new ≡ old ++ sent_behind floor firm count) × (after ≡ before)
TakesIn (place.InRoom room had now) floor old new before after =
    (new ≡ old) × Notes room had now before after

-- A step is done and what it sent is told, wherever the day stood and whatever was told before.
pub record VenueSends (config : Configuration) (trail : AuditTrail) (after : LiveVenue)
    (told : List Sent) : Type 0 where
  pub stands : VenueStands config trail after
  pub told_is : messages_in config trail.facts ≡ told

abbrev pub SendsStep : Step → LiveVenue → LiveVenue → List Sent → List Sent → Type 0
SendsStep next before after old new = (config : Configuration) (trail : AuditTrail)
    (start : List Sent) → fault_of config 0 next ≡ None → VenueStands config trail before
    → messages_in config trail.facts ≡ start ++ old
    → VenueSends config (after_step config trail next) after (start ++ new)

-- the day after so many turns of an actor
unfoldable pub after_turns : Configuration → Actor → ℕ → AuditTrail → AuditTrail
after_turns config by count trail = fold (after_step config) trail (replicate count (step.Turn by))

-- all duties of an actor are done: as many turns as stand behind a step leave it none
pub record SendsAllOf (config : Configuration) (by : Actor) (trail : AuditTrail)
    (after : LiveVenue) (told : List Sent) : Type 0 where
  pub tells : VenueSends config (after_turns config by MOST_TURNS_BEHIND trail) after told
  pub none_left : pending by (after_turns config by MOST_TURNS_BEHIND trail) ≡ []

abbrev pub SendsDuties : Actor → LiveVenue → LiveVenue → List Sent → List Sent → Type 0
SendsDuties by before after old new = (config : Configuration) (trail : AuditTrail)
    (start : List Sent) → is_known config by ≡ true → VenueStands config trail before
    → messages_in config trail.facts ≡ start ++ old
    → SendsAllOf config by trail after (start ++ new)

-- a step, and the duties of its actor behind it
abbrev pub SendsAll : Step → LiveVenue → LiveVenue → List Sent → List Sent → Type 0
SendsAll next before after old new = (config : Configuration) (trail : AuditTrail)
    (start : List Sent) → fault_of config 0 next ≡ None → VenueStands config trail before
    → messages_in config trail.facts ≡ start ++ old
    → SendsAllOf config (actor_of next) (after_step config trail next) after (start ++ new)
