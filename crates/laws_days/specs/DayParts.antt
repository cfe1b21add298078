-- The part of a day: the facts that stay by a test, and the duties and turns of the actors that act
-- by another. Two days that have one part have one part after the same is done in both, and what
-- another actor does, of which no fact stays, leaves the part as it was.
use Rattle.std.proofs.Common.{◌≡◌, ℕ, Bool, true, false, List, [], ◌∷◌, ◌++◌, map, filter}
use Rattle.std.proofs.Common.{filter_map, drop, count_by, fold, Option, Some, None, IfSome, refl}
use Rattle.std.proofs.Common.{sym, ap, ◌∙◌, subst, if◌then◌else◌}
use Rattle.std.specs.List.{list_any}
use Rattle.std.proofs.lemmas.Bool.{both_ways, cond_both, false_from_ne_true, or_parts}
use Rattle.std.proofs.lemmas.List.Folds.{list_any-append}
use Rattle.market_terms.specs.declared.duties.Duty.{Duty}
use Rattle.venue_rows.specs.Rows.{Configuration}
use Rattle.venue_steps.specs.declared.actors.Actor.{Actor}
use Rattle.venue_steps.specs.declared.actors.Actor.TheVariants as actor
use Rattle.step_replay.specs.Actions.{Effect}
use Rattle.step_replay.specs.AuditTrail.{AuditTrail, Caused, after_step, after_turn, duty_of}
use Rattle.step_replay.specs.AuditTrail.{is_same_actor, pending, with_effect}
use Rattle.step_replay.specs.DutyEffects.{duty_effect, message_effect, sweep_effect}
use Rattle.step_replay.specs.EachLemmas.{every_both}
use Rattle.step_replay.specs.Lists.{Every}
use Rattle.step_replay.specs.QueueLemmas.{one_actor, same_either}
use Rattle.step_replay.specs.VenueFacts.{Fact}
use Rattle.step_replay.specs.declared.steps.Step.{Step}
use Rattle.step_replay.specs.declared.steps.Step.TheVariants as step
use Rattle.laws_days.specs.KeptItems.{any_in, both_kept, count_kept, every_drop, every_found}
use Rattle.laws_days.specs.KeptItems.{every_in, every_map, filter_twice, found_kept, none_behind}
use Rattle.laws_days.specs.KeptItems.{none_kept}

-- a duty in the queue of an actor
abbrev pub caused_by : Actor → Duty → Caused
caused_by by more = record { by = by; duty = more }

-- what an actor leaves
abbrev pub left_by : Actor → List Duty → List Caused
left_by by duties = map (λ (more : Duty). caused_by by more) duties

-- the day in which an actor has taken its turn
abbrev pub did : Actor → AuditTrail → AuditTrail
did by trail = record trail { done = trail.done ++ by ∷ [] }

-- the day by its three lists
abbrev by_lists : List Fact → List Caused → List Actor → AuditTrail
by_lists facts caused done = record { facts = facts; caused = caused; done = done }

day_same : (one other : AuditTrail) → one.facts ≡ other.facts → one.caused ≡ other.caused
    → one.done ≡ other.done → one ≡ other
day_same one other facts caused done =
    ap (λ (l : List Fact). by_lists l one.caused one.done) facts
    ∙ ap (λ (l : List Caused). by_lists other.facts l one.done) caused
    ∙ ap (λ (l : List Actor). by_lists other.facts other.caused l) done

module _ (stays : Fact → Bool) (acts : Actor → Bool) where
  -- whether a duty stays in the part
  abbrev pub caused_stays : Caused → Bool
  caused_stays caused = acts caused.by

  abbrev pub part : AuditTrail → AuditTrail
  part trail = record {
    facts = filter stays trail.facts;
    caused = filter caused_stays trail.caused;
    done = filter acts trail.done;
  }

  pub part_twice : (trail : AuditTrail) → part (part trail) ≡ part trail
  part_twice trail =
      day_same (part (part trail)) (part trail) (filter_twice stays trail.facts)
      (filter_twice caused_stays trail.caused) (filter_twice acts trail.done)

  -- What is done in two days that have one part.

  pub grows : (by : Actor) (one other : AuditTrail) (does too : Effect) → part one ≡ part other
      → filter stays does.facts ≡ filter stays too.facts → does.duties ≡ too.duties
      → part (with_effect by one does) ≡ part (with_effect by other too)
  grows by one other does too same facts duties =
      day_same (part (with_effect by one does)) (part (with_effect by other too))
      (both_kept stays one.facts other.facts does.facts too.facts
      (ap (λ (t : AuditTrail). t.facts) same) facts)
      (both_kept caused_stays one.caused other.caused (left_by by does.duties)
      (left_by by too.duties) (ap (λ (t : AuditTrail). t.caused) same)
      (ap (λ (l : List Duty). filter caused_stays (left_by by l)) duties))
      (ap (λ (t : AuditTrail). t.done) same)

  pub did_same : (by : Actor) (one other : AuditTrail) → part one ≡ part other
      → part (did by one) ≡ part (did by other)
  did_same by one other same =
      day_same (part (did by one)) (part (did by other)) (ap (λ (t : AuditTrail). t.facts) same)
      (ap (λ (t : AuditTrail). t.caused) same)
      (both_kept acts one.done other.done (by ∷ []) (by ∷ [])
      (ap (λ (t : AuditTrail). t.done) same) refl)

  -- What is done by an actor that does not act there.

  module _ (by : Actor) (isnt : acts by ≡ false) where
    pub leaves : (trail : AuditTrail) (effect : Effect) → filter stays effect.facts ≡ []
        → part (with_effect by trail effect) ≡ part trail
    leaves trail effect none =
        day_same (part (with_effect by trail effect)) (part trail)
        (none_behind stays trail.facts effect.facts none)
        (none_behind caused_stays trail.caused (left_by by effect.duties)
        (none_kept caused_stays (left_by by effect.duties)
        (every_map (λ (caused : Caused). caused_stays caused ≡ false) (caused_by by)
        (λ more. isnt) effect.duties))) refl

    pub did_leaves : (trail : AuditTrail) → part (did by trail) ≡ part trail
    did_leaves trail =
        day_same (part (did by trail)) (part trail) refl refl
        (none_behind acts trail.done (by ∷ []) (none_kept acts (by ∷ []) (isnt, tt)))

  -- The queue of one that acts there.

  differs : (one other : Actor) → acts one ≡ true → acts other ≡ false
      → is_same_actor one other ≡ false
  differs one other is isnt =
      false_from_ne_true (is_same_actor one other)
      (λ same. both_ways (acts one) (ap acts (one_actor one other same) ∙ isnt) is)

  pub pending_same : (by : Actor) → acts by ≡ true → (trail : AuditTrail)
      → pending by (part trail) ≡ pending by trail
  pending_same by is trail =
      ap (λ (n : ℕ). drop n (filter_map (duty_of by) (filter caused_stays trail.caused)))
      (count_kept acts (is_same_actor by) (λ other isnt. differs by other is isnt) trail.done)
      ∙ ap (drop (count_by (is_same_actor by) trail.done))
      (found_kept caused_stays (duty_of by) none trail.caused)
    where
      none : (caused : Caused) → caused_stays caused ≡ false → duty_of by caused ≡ None
      none caused isnt =
          ap (λ (b : Bool). if b then Some caused.duty else None)
          (same_either by caused.by (differs by caused.by is isnt))

-- What stands in queues: `Ok` says of a duty what it is by the actor that has it to do.

module _ (Ok : Actor → Duty → Type 0) where
  abbrev pub CausedOk : Caused → Type 0
  CausedOk caused = Ok caused.by caused.duty

  pub pending_ok : (by : Actor) (trail : AuditTrail) → Every CausedOk trail.caused
      → Every (Ok by) (pending by trail)
  pending_ok by trail ok =
      every_drop (Ok by) (count_by (is_same_actor by) trail.done)
      (filter_map (duty_of by) trail.caused)
      (every_found CausedOk (Ok by) (duty_of by) each trail.caused ok)
    where
      each : (caused : Caused) → CausedOk caused → IfSome (duty_of by caused) (Ok by)
      each caused is =
          cond_both (is_same_actor caused.by by) (Some caused.duty) None
          (λ (found : Option Duty). IfSome found (Ok by))
          (λ same. subst (λ (a : Actor). Ok a caused.duty) (one_actor caused.by by same) is)
          (λ differ. tt)

  pub left_ok : (by : Actor) (caused : List Caused) (duties : List Duty) → Every CausedOk caused
      → Every (Ok by) duties → Every CausedOk (caused ++ left_by by duties)
  left_ok by caused duties ok each =
      every_both CausedOk caused (left_by by duties) ok
      (every_in (Ok by) CausedOk (caused_by by) (λ more is. is) duties each)

-- Days in which no duty of a kind is left.

module _ (bad : Duty → Bool) where
  -- whether a duty that was left is of the kind
  abbrev pub is_left : Caused → Bool
  is_left caused = bad caused.duty

  pub none_left : (by : Actor) (caused : List Caused) (duties : List Duty)
      → list_any is_left (caused ++ left_by by duties) ≡ false
      → (list_any is_left caused ≡ false) × (list_any bad duties ≡ false)
  none_left by caused duties none =
      let parts = or_parts (list_any is_left caused) (list_any is_left (left_by by duties))
      (sym (list_any-append is_left caused (left_by by duties)) ∙ none) in
      (parts.0, sym (any_in is_left (caused_by by) duties) ∙ parts.1)

  module _ (config : Configuration) where
    turn_grows : (by : Actor) (trail : AuditTrail) (duties : List Duty)
        → list_any is_left (after_turn config by trail duties).caused ≡ false
        → list_any is_left trail.caused ≡ false
    turn_grows by trail [] none = none
    turn_grows by trail (more ∷ later) none =
        (none_left by trail.caused (duty_effect config trail.facts by more).duties none).0

    step_grows : (trail : AuditTrail) (s : Step)
        → list_any is_left (after_step config trail s).caused ≡ false
        → list_any is_left trail.caused ≡ false
    unfolding after_step
    step_grows trail (step.In firm moment bytes) none =
        (none_left (actor.Firm firm) trail.caused
        (message_effect config trail.facts firm moment bytes).duties none).0
    step_grows trail (step.Turn by) none = turn_grows by trail (pending by trail) none
    step_grows trail (step.Expire room moment) none =
        (none_left actor.Clock trail.caused
        (sweep_effect config trail.facts room moment).duties none).0

    -- a day that has none had none at any front
    pub steps_grow : (steps : List Step) (trail : AuditTrail)
        → list_any is_left (fold (after_step config) trail steps).caused ≡ false
        → list_any is_left trail.caused ≡ false
    steps_grow [] trail none = none
    steps_grow (s ∷ steps) trail none =
        step_grows trail s (steps_grow steps (after_step config trail s) none)
