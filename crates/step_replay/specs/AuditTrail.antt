-- The whole venue as one definition: the facts of a day, step by step. Three lists only grow: the
-- facts, the duties that were caused, and the turns that did one. The desks, rooms, words and
-- queues of the venue are functions of them.
use Rattle.std.specs.Prelude.{ℕ, ◌==◌, Bool, true, false, List, [], ◌∷◌, ◌++◌, map, fold}
use Rattle.std.specs.Prelude.{filter_map, drop, count_by, Option, Some, None, is_some}
use Rattle.std.specs.Prelude.{if◌then◌else◌}
use Rattle.market_terms.specs.declared.duties.Duty.{Duty}
use Rattle.venue_rows.specs.Rows.{Configuration, dealer_numbered}
use Rattle.step_replay.specs.VenueFacts.{Fact, of_dealer, of_investor}
use Rattle.step_replay.specs.DealerTrail as dealer_trail
use Rattle.step_replay.specs.InvestorTrail as investor_trail
use Rattle.step_replay.specs.Actions.{Effect}
use Rattle.step_replay.specs.DutyEffects.{duty_effect, message_effect, sweep_effect}
use Rattle.step_replay.specs.DueList.{due_list}
use Rattle.step_replay.specs.declared.dues.Due.{Due}
use Rattle.venue_steps.specs.declared.actors.Actor.{Actor}
use Rattle.venue_steps.specs.declared.actors.Actor.TheVariants as actor
use Rattle.step_replay.specs.declared.steps.Step.{Step}
use Rattle.step_replay.specs.declared.steps.Step.TheVariants as step

-- a duty, and the actor in whose queue it stands
pub record Caused : Type 0 where
  pub by : Actor
  pub duty : Duty

-- a day so far
pub record AuditTrail : Type 0 where
  pub facts : List Fact  -- what became so
  pub caused : List Caused  -- the duties that were left to be done
  pub done : List Actor  -- the turns that did one, each by its actor

-- the start of the day
abbrev pub no_steps : AuditTrail
no_steps = record { facts = []; caused = []; done = [] }

-- Queues.

-- whether two actors are one
abbrev pub is_same_actor : Actor → Actor → Bool
is_same_actor (actor.Firm one) (actor.Firm other) = one == other
is_same_actor (actor.Firm one) actor.Clock = false
is_same_actor actor.Clock (actor.Firm other) = false
is_same_actor actor.Clock actor.Clock = true

-- a duty, where it stands in the queue of this actor
abbrev pub duty_of : Actor → Caused → Option Duty
duty_of actor caused = if is_same_actor caused.by actor then Some caused.duty else None

-- The duties that an actor has still to do, the oldest first: those that its own steps left,
-- without as many as it did.
abbrev pub pending : Actor → AuditTrail → List Duty
pending actor trail =
    drop (count_by (is_same_actor actor) trail.done) (filter_map (duty_of actor) trail.caused)

-- Steps.

-- the day after what an actor did
abbrev pub with_effect : Actor → AuditTrail → Effect → AuditTrail
with_effect actor trail effect = record trail {
  facts = trail.facts ++ effect.facts;
  caused = trail.caused ++ map (λ duty. record { by = actor; duty = duty }) effect.duties;
}

-- the day after a turn of an actor with these duties to do: the oldest is done
abbrev pub after_turn : Configuration → Actor → AuditTrail → List Duty → AuditTrail
after_turn config actor trail [] = trail
after_turn config actor trail (duty ∷ later) =
    with_effect actor (record trail { done = trail.done ++ actor ∷ [] })
    (duty_effect config trail.facts actor duty)

-- the day after one step more
unfoldable pub after_step : Configuration → AuditTrail → Step → AuditTrail
after_step config trail (step.In firm moment message) =
    with_effect (actor.Firm firm) trail (message_effect config trail.facts firm moment message)
after_step config trail (step.Turn actor) = after_turn config actor trail (pending actor trail)
after_step config trail (step.Expire room moment) =
    with_effect actor.Clock trail (sweep_effect config trail.facts room moment)

-- the day after these steps
unfoldable pub audit_trail : Configuration → List Step → AuditTrail
audit_trail config steps = fold (after_step config) no_steps steps

-- What a firm has of it.

-- the messages that the firm with this number was sent, in their order
abbrev pub sent_to : Configuration → ℕ → AuditTrail → List (List ℕ)
sent_to config firm trail =
    if is_some (dealer_numbered config firm)
    then dealer_trail.sent_by (of_dealer firm trail.facts)
    else investor_trail.sent_by (of_investor firm trail.facts)

-- what was due to the dealer with this number
abbrev pub due_to : ℕ → AuditTrail → List Due
due_to dealer trail = due_list (of_dealer dealer trail.facts)
