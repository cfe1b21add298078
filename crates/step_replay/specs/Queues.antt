-- How the code keeps the queues of duties: names for private functions alone. One queue a firm, in
-- their order, and behind them the clock's.
use Rattle.std.specs.Prelude.{◌≡◌, ◌≤◌, ℕ, ◌+◌, Bool, true, nat_lt, List, length, filter_map, count_by}
use Rattle.std.specs.Prelude.{slice_get, Option, Some, None}
use Rattle.market_terms.specs.declared.duties.Duty.{Duty}
use Rattle.venue_rows.specs.Rows.{Configuration}
use Rattle.step_replay.specs.AuditTrail.{AuditTrail, is_same_actor, duty_of, pending}
use Rattle.step_replay.specs.StepFaults.{firms_of}
use Rattle.venue_steps.specs.declared.actors.Actor.{Actor}
use Rattle.venue_steps.specs.declared.actors.Actor.TheVariants as actor

-- whether an actor is one of the venue's
abbrev pub is_known : Configuration → Actor → Bool
is_known config (actor.Firm number) = nat_lt number (firms_of config)
is_known config actor.Clock = true

-- which queue is an actor's
abbrev pub queue_of : Configuration → Actor → ℕ
queue_of config (actor.Firm number) = number
queue_of config actor.Clock = firms_of config

-- a queue has these duties, the oldest first
abbrev pub QueueHas : List Duty → Option (List Duty) → Type 0
QueueHas duties None = ⊥
QueueHas duties (Some queue) = queue ≡ duties

-- each actor's queue has what it has still to do, and no actor did more than it was left
pub record QueuesStand (config : Configuration) (trail : AuditTrail) (queues : List (List Duty))
    : Type 0 where
  pub count : length queues ≡ firms_of config + 1
  pub queues_are : (by : Actor) → is_known config by ≡ true
      → QueueHas (pending by trail) (slice_get queues (queue_of config by))
  pub done_within : (by : Actor)
      → count_by (is_same_actor by) trail.done ≤ length (filter_map (duty_of by) trail.caused)
