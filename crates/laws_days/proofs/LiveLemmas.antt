-- Behind a step and the turns of its actor every other actor has the duties that it had.
use Rattle.std.proofs.Common.{◌≡◌, ℕ, zero, suc, false, List, [], ◌∷◌, ◌++◌, fold, replicate, refl}
use Rattle.std.proofs.Common.{inl, inr, ap, subst, ◌∙◌}
use Rattle.std.proofs.lemmas.Bool.{cases_Bool}
use Rattle.std.proofs.lemmas.List.Concat.{flat_map-append}
use Rattle.std.proofs.lemmas.List.Sums.{fold-append}
use Rattle.market_terms.specs.declared.duties.Duty.{Duty}
use Rattle.market_terms.specs.declared.rooms.RoomRef.{RoomRef}
use Rattle.venue_rows.specs.Rows.{Configuration}
use Rattle.venue_steps.specs.declared.actors.Actor.{Actor}
use Rattle.venue_steps.specs.declared.actors.Actor.TheVariants as actor
use Rattle.step_replay.specs.AuditTrail.{AuditTrail, after_step, after_turn, audit_trail}
use Rattle.step_replay.specs.AuditTrail.{is_same_actor, no_steps, pending}
use Rattle.step_replay.specs.DutyEffects.{duty_effect, message_effect, sweep_effect}
use Rattle.step_replay.specs.EachLemmas.{every_both}
use Rattle.step_replay.specs.Lists.{Every}
use Rattle.step_replay.specs.LiveDays.{actor_of, live_steps, live_trail, with_turns}
use Rattle.step_replay.specs.QueueLemmas.{one_actor, other_pending, other_turned, same_either}
use Rattle.step_replay.specs.VenueRooms.{sweeps_at}
use Rattle.step_replay.specs.declared.steps.Step.{Step}
use Rattle.step_replay.specs.declared.steps.Step.TheVariants as step
use Rattle.step_replay.specs.declared.steps.TheConstants.{MOST_TURNS_BEHIND}
use Rattle.laws_days.specs.LiveDuties.{NoDutyIsLeft}

-- an actor has what it had behind a step of another
other_waits : (config : Configuration) (s : Step) (trail : AuditTrail) (other : Actor)
    → is_same_actor (actor_of s) other ≡ false
    → pending other (after_step config trail s) ≡ pending other trail
unfolding after_step
other_waits config (step.In firm moment message) trail other differs =
    other_pending (actor.Firm firm) other trail (message_effect config trail.facts firm moment message)
    differs
other_waits config (step.Expire room moment) trail other differs =
    other_pending actor.Clock other trail (sweep_effect config trail.facts room moment) differs
other_waits config (step.Turn by) trail other differs = by_duties (pending by trail)
  where
    by_duties : (duties : List Duty)
        → pending other (after_turn config by trail duties) ≡ pending other trail
    by_duties [] = refl
    by_duties (duty ∷ later) = other_turned by other trail (duty_effect config trail.facts by duty)
        differs (same_either by other differs)

-- a step of this actor
abbrev IsBy : Actor → Step → Type 0
IsBy by s = actor_of s ≡ by

-- and behind any of them
others_wait : (config : Configuration) (by other : Actor) → is_same_actor by other ≡ false
    → (steps : List Step) → Every (IsBy by) steps → (trail : AuditTrail)
    → pending other (fold (after_step config) trail steps) ≡ pending other trail
others_wait config by other differs [] every trail = refl
others_wait config by other differs (s ∷ steps) every trail =
    others_wait config by other differs steps every.1 (after_step config trail s)
    ∙ other_waits config s trail other (ap (λ (a : Actor). is_same_actor a other) every.0 ∙ differs)

turns_by : (by : Actor) (count : ℕ) → Every (IsBy by) (replicate count (step.Turn by))
turns_by by zero = tt
turns_by by (suc count) = (refl, turns_by by count)

unit_by : (s : Step) → Every (IsBy (actor_of s)) (with_turns s)
unfolding with_turns
unit_by s = (refl, turns_by (actor_of s) MOST_TURNS_BEHIND)

sweeps_by : (moment : ℕ) (rooms : List RoomRef)
    → Every (IsBy actor.Clock) (live_steps (sweeps_at moment rooms))
sweeps_by moment [] = tt
sweeps_by moment (room ∷ rooms) =
    every_both (IsBy actor.Clock) (with_turns (step.Expire room moment))
    (live_steps (sweeps_at moment rooms)) (unit_by (step.Expire room moment))
    (sweeps_by moment rooms)

-- more steps that come one by one
behind : (config : Configuration) (steps more : List Step)
    → live_trail config (steps ++ more)
    ≡ fold (after_step config) (live_trail config steps) (live_steps more)
unfolding audit_trail
behind config steps more =
    ap (fold (after_step config) no_steps) (flat_map-append with_turns steps more)
    ∙ fold-append (after_step config) no_steps (live_steps steps) (live_steps more)

-- Nothing is left where nothing was, and the actor of the steps has done what it had.
none_left : (config : Configuration) (steps more : List Step) (by : Actor)
    → Every (IsBy by) (live_steps more) → NoDutyIsLeft (live_trail config steps)
    → pending by (live_trail config (steps ++ more)) ≡ []
    → NoDutyIsLeft (live_trail config (steps ++ more))
none_left config steps more by every idle done other = elim (cases_Bool (is_same_actor by other)) [
  | inl same ↦
      subst (λ (a : Actor). pending a (live_trail config (steps ++ more)) ≡ [])
      (one_actor by other same) done
  | inr differs ↦
      ap (pending other) (behind config steps more)
      ∙ others_wait config by other differs (live_steps more) every (live_trail config steps)
      ∙ idle other
]

pub none_left_behind : (config : Configuration) (steps : List Step) (next : Step)
    → NoDutyIsLeft (live_trail config steps)
    → pending (actor_of next) (live_trail config (steps ++ next ∷ [])) ≡ []
    → NoDutyIsLeft (live_trail config (steps ++ next ∷ []))
none_left_behind config steps next idle done =
    none_left config steps (next ∷ []) (actor_of next)
    (every_both (IsBy (actor_of next)) (with_turns next) [] (unit_by next) tt) idle done

pub none_left_swept : (config : Configuration) (steps : List Step) (moment : ℕ)
    (rooms : List RoomRef) → NoDutyIsLeft (live_trail config steps)
    → pending actor.Clock (live_trail config (steps ++ sweeps_at moment rooms)) ≡ []
    → NoDutyIsLeft (live_trail config (steps ++ sweeps_at moment rooms))
none_left_swept config steps moment rooms idle done =
    none_left config steps (sweeps_at moment rooms) actor.Clock (sweeps_by moment rooms) idle done

pub none_left_first : (config : Configuration) → NoDutyIsLeft (live_trail config [])
unfolding audit_trail
none_left_first config actor = refl
