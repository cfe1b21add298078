-- How a replay follows a day: names for private functions alone.
use Rattle.std.specs.Prelude.{ℕ, ◌+◌, ◌-◌, nat_le, nat_lt, List, map, Option, Some, None}
use Rattle.std.specs.Prelude.{if◌then◌else◌}
use Rattle.market_terms.specs.declared.duties.Duty.{Duty}
use Rattle.venue_rows.specs.Rows.{Configuration}
use Rattle.step_replay.specs.AuditTrail.{AuditTrail}
use Rattle.step_replay.specs.Standing.{Stands, AreOneOf}
use Rattle.step_replay.specs.Queues.{QueuesStand}
use Rattle.step_replay.specs.declared.replay.Replay.{Replay}
use Rattle.venue_steps.specs.declared.actors.Actor.{Actor}
use Rattle.venue_steps.specs.declared.actors.Actor.TheVariants as actor

-- which of so many queues is an actor's: the clock's is the last
abbrev pub index_in : ℕ → Actor → Option ℕ
index_in count (actor.Firm number) = if nat_lt (number + 1) count then Some number else None
index_in count actor.Clock = if nat_le 1 count then Some (count - 1) else None

-- the duties in the queues
abbrev pub duties_in : Replay → List (List Duty)
duties_in replay = map (λ queue. queue.items) replay.queues.items

-- a replay stands where a day has come
pub record ReplayStands (config : Configuration) (trail : AuditTrail) (replay : Replay) : Type 0 where
  pub floor_stands : Stands config trail.facts replay.floor
  pub are_one_of : AreOneOf config trail.facts
  pub queues_stand : QueuesStand config trail (duties_in replay)

-- a step does what it should, wherever the day stood
abbrev pub Follows : (Configuration → Type 0) → (Configuration → AuditTrail → AuditTrail) → Replay
    → Replay → Type 0
Follows may next before after = (config : Configuration) (trail : AuditTrail) → may config
    → ReplayStands config trail before → ReplayStands config (next config trail) after
