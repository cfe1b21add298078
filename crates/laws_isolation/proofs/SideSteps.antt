-- A step of one side: the day stands behind it, and one of the other side leaves the day of this
-- side as it was. The clock acts for the side whose notices it has to give.
use Rattle.std.proofs.Common.{◌≡◌, ◌≤◌, ℕ, Bool, false, List, [], ◌∷◌, filter_map, count_by, length}
use Rattle.std.proofs.Common.{refl, sym, ◌∙◌, subst}
use Rattle.market_terms.specs.declared.duties.Duty.{Duty}
use Rattle.venue_rows.specs.Rows.{Configuration}
use Rattle.venue_steps.specs.declared.actors.Actor.{Actor}
use Rattle.venue_steps.specs.declared.actors.Actor.TheVariants as actor
use Rattle.step_replay.specs.Actions.{Effect}
use Rattle.step_replay.specs.AuditTrail.{AuditTrail, after_step, after_turn, duty_of, is_same_actor}
use Rattle.step_replay.specs.AuditTrail.{pending, with_effect}
use Rattle.step_replay.specs.DutyEffects.{duty_effect, message_effect, sweep_effect}
use Rattle.step_replay.specs.EachLemmas.{every_both, every_weaker}
use Rattle.step_replay.specs.Lists.{Every}
use Rattle.step_replay.specs.QueueLemmas.{grown_within, other_pending, other_turned, other_within}
use Rattle.step_replay.specs.QueueLemmas.{own_pending, own_turned, own_within, turned}
use Rattle.step_replay.specs.VenueFacts.{Fact}
use Rattle.step_replay.specs.declared.steps.Step.{Step}
use Rattle.step_replay.specs.declared.steps.Step.TheVariants as step
use Rattle.laws_days.specs.DayParts.{CausedOk, did, did_leaves, leaves, left_ok, none_left}
use Rattle.laws_days.specs.DayParts.{pending_ok}
use Rattle.laws_days.specs.KeptItems.{every_all, none_kept}
use Rattle.laws_days.specs.LeftDuties.{Leaves}
use Rattle.laws_isolation.specs.Apart.{acts_there, asks_across, has_ask_across}
use Rattle.laws_isolation.proofs.AddedFacts.{AddsOn, StandsOn, duty_adds, message_adds, sweep_adds}
use Rattle.laws_isolation.proofs.LeftOn.{duty_left, message_left, sweep_left}
use Rattle.laws_isolation.proofs.ThereFacts.{FactOn, FactsOn, IsOn, QueuedOn, stays, there}

-- whether an actor may act for one side
abbrev pub ActsOn : (ℕ → Bool) → Bool → Actor → Type 0
ActsOn side own (actor.Firm firm) = side firm ≡ own
ActsOn side own actor.Clock = Unit {0}

-- whether a step is one of one side
abbrev pub StepOn : (ℕ → Bool) → Bool → Step → Type 0
StepOn side own (step.In firm moment bytes) = side firm ≡ own
StepOn side own (step.Turn by) = ActsOn side own by
StepOn side own (step.Expire room moment) = side room.investor ≡ own

-- no more turns of the clock than it was left duties
abbrev pub ClockWithin : AuditTrail → Type 0
ClockWithin trail = count_by (is_same_actor actor.Clock) trail.done
    ≤ length (filter_map (duty_of actor.Clock) trail.caused)

-- A day stands before a step of one side: all that its facts and queues name is on their sides, and
-- what the clock has to do is on that side.
pub record Stands (side : ℕ → Bool) (config : Configuration) (own : Bool) (trail : AuditTrail)
    : Type 0 where
  pub facts_on : FactsOn side config trail.facts
  pub caused_on : Every (CausedOk (QueuedOn side config)) trail.caused
  pub clock_on : Every (IsOn side config own actor.Clock) (pending actor.Clock trail)
  pub clock_within : ClockWithin trail

module _ (side : ℕ → Bool) (config : Configuration) (own : Bool) where
  -- whether duties are on the side of who has them to do
  abbrev AreOn : Actor → List Duty → Type 0
  AreOn by duties = Every (IsOn side config own by) duties

  pub waits_on : (by : Actor) → ActsOn side own by → (trail : AuditTrail)
      → Stands side config own trail → AreOn by (pending by trail)
  waits_on (actor.Firm firm) is trail stands =
      subst (λ (b : Bool).
      Every (IsOn side config b (actor.Firm firm)) (pending (actor.Firm firm) trail)) is
      (pending_ok (QueuedOn side config) (actor.Firm firm) trail stands.caused_on)
  waits_on actor.Clock is trail stands = stands.clock_on

  queued_on : (by : Actor) → ActsOn side own by → (duties : List Duty) → AreOn by duties
      → Every (QueuedOn side config by) duties
  queued_on (actor.Firm firm) is duties each =
      subst (λ (b : Bool). Every (IsOn side config b (actor.Firm firm)) duties) (sym is) each
  queued_on actor.Clock is duties each =
      every_all (QueuedOn side config actor.Clock) (λ more. tt) duties

  -- The clock's queue, after what an actor did and after a turn of it.

  clock_then : (by : Actor) (trail : AuditTrail) (effect : Effect) → Stands side config own trail
      → AreOn by effect.duties
      → AreOn actor.Clock (pending actor.Clock (with_effect by trail effect))
  clock_then (actor.Firm firm) trail effect stands each =
      subst (AreOn actor.Clock)
      (sym (other_pending (actor.Firm firm) actor.Clock trail effect refl)) stands.clock_on
  clock_then actor.Clock trail effect stands each =
      subst (AreOn actor.Clock) (sym (own_pending actor.Clock trail effect stands.clock_within))
      (every_both (IsOn side config own actor.Clock) (pending actor.Clock trail) effect.duties
      stands.clock_on each)

  -- the clock's queue is on this side, and it took no more turns than it was left duties
  abbrev ClockOn : AuditTrail → Type 0
  ClockOn trail = AreOn actor.Clock (pending actor.Clock trail) × ClockWithin trail

  clock_turned : (by : Actor) (trail : AuditTrail) (effect : Effect) (d : Duty) (later : List Duty)
      → pending by trail ≡ d ∷ later → Stands side config own trail → AreOn by effect.duties
      → ClockOn (turned by trail effect)
  clock_turned (actor.Firm firm) trail effect d later waits stands each = (
    subst (AreOn actor.Clock)
        (sym (other_turned (actor.Firm firm) actor.Clock trail effect refl refl)) stands.clock_on,
    other_within (actor.Firm firm) actor.Clock trail effect refl refl stands.clock_within,
  )
  clock_turned actor.Clock trail effect d later waits stands each =
      let on : AreOn actor.Clock (d ∷ later) = subst (AreOn actor.Clock) waits stands.clock_on in (
        subst (AreOn actor.Clock) (sym (own_turned actor.Clock trail effect d later waits))
            (every_both (IsOn side config own actor.Clock) later effect.duties on.1 each),
        own_within actor.Clock trail effect d later waits,
      )

  -- The day stands after what an actor did, and after a turn of it.

  module _ (by : Actor) (is : ActsOn side own by) (trail : AuditTrail) (effect : Effect)
      (stands : Stands side config own trail) (adds : AddsOn side config own effect)
      (left : Leaves (IsOn side config own by) effect) where
    pub does_stands : Stands side config own (with_effect by trail effect)
    does_stands = record {
      facts_on = every_both (FactOn side config) trail.facts effect.facts stands.facts_on
          (every_weaker (StandsOn side config own) (FactOn side config) (λ fact on. on.0)
          effect.facts adds.each);
      caused_on = left_ok (QueuedOn side config) by trail.caused effect.duties stands.caused_on
          (queued_on by is effect.duties left.each);
      clock_on = clock_then by trail effect stands left.each;
      clock_within = grown_within by actor.Clock trail effect stands.clock_within;
    }

    pub turned_stands : (d : Duty) (later : List Duty) → pending by trail ≡ d ∷ later
        → Stands side config own (turned by trail effect)
    turned_stands d later waits =
        let clock = clock_turned by trail effect d later waits stands left.each in
        record {
          facts_on = does_stands.facts_on;
          caused_on = does_stands.caused_on;
          clock_on = clock.0;
          clock_within = clock.1;
        }

  turn_stands : (by : Actor) → ActsOn side own by → (trail : AuditTrail)
      → Stands side config own trail → (duties : List Duty) → pending by trail ≡ duties
      → AreOn by duties → Stands side config own (after_turn config by trail duties)
  turn_stands by is trail stands [] waits on = stands
  turn_stands by is trail stands (d ∷ later) waits on =
      turned_stands by is trail (duty_effect config trail.facts by d) stands
      (duty_adds side config own trail.facts stands.facts_on by d on.0)
      (duty_left side config own trail.facts stands.facts_on by d on.0) d later waits

  pub step_stands : (trail : AuditTrail) (s : Step) → StepOn side own s
      → Stands side config own trail → has_ask_across side (after_step config trail s) ≡ false
      → Stands side config own (after_step config trail s)
  unfolding after_step
  step_stands trail (step.In firm moment bytes) is stands none =
      does_stands (actor.Firm firm) is trail (message_effect config trail.facts firm moment bytes)
      stands (message_adds side config own trail.facts stands.facts_on firm moment bytes is)
      (message_left side config own trail.facts stands.facts_on firm moment is bytes
      (none_left (asks_across side) (actor.Firm firm) trail.caused
      (message_effect config trail.facts firm moment bytes).duties none).1)
  step_stands trail (step.Turn by) is stands none =
      turn_stands by is trail stands (pending by trail) refl (waits_on by is trail stands)
  step_stands trail (step.Expire room moment) is stands none =
      does_stands actor.Clock tt trail (sweep_effect config trail.facts room moment) stands
      (sweep_adds side config own trail.facts stands.facts_on room moment is)
      (sweep_left side config own trail.facts stands.facts_on room moment is)

-- A step of the other side leaves the day of this side as it was.

module _ (side : ℕ → Bool) (config : Configuration) where
  not_there : (by : Actor) → ActsOn side false by → acts_there side by ≡ false
  not_there (actor.Firm firm) isnt = isnt
  not_there actor.Clock isnt = refl

  other_leaves : (by : Actor) → ActsOn side false by → (trail : AuditTrail) (effect : Effect)
      → AddsOn side config false effect
      → there side (with_effect by trail effect) ≡ there side trail
  other_leaves by isnt trail effect adds =
      leaves (stays side) (acts_there side) by (not_there by isnt) trail effect
      (none_kept (stays side) effect.facts (every_weaker (StandsOn side config false)
      (λ (fact : Fact). stays side fact ≡ false) (λ fact on. on.1) effect.facts adds.each))

  turn_leaves : (by : Actor) → ActsOn side false by → (trail : AuditTrail)
      → Stands side config false trail → (duties : List Duty)
      → Every (IsOn side config false by) duties
      → there side (after_turn config by trail duties) ≡ there side trail
  turn_leaves by isnt trail stands [] on = refl
  turn_leaves by isnt trail stands (d ∷ later) on =
      other_leaves by isnt (did by trail) (duty_effect config trail.facts by d)
      (duty_adds side config false trail.facts stands.facts_on by d on.0)
      ∙ did_leaves (stays side) (acts_there side) by (not_there by isnt) trail

  pub step_leaves : (trail : AuditTrail) (s : Step) → StepOn side false s
      → Stands side config false trail → there side (after_step config trail s) ≡ there side trail
  unfolding after_step
  step_leaves trail (step.In firm moment bytes) isnt stands =
      other_leaves (actor.Firm firm) isnt trail
      (message_effect config trail.facts firm moment bytes)
      (message_adds side config false trail.facts stands.facts_on firm moment bytes isnt)
  step_leaves trail (step.Turn by) isnt stands =
      turn_leaves by isnt trail stands (pending by trail)
      (waits_on side config false by isnt trail stands)
  step_leaves trail (step.Expire room moment) isnt stands =
      other_leaves actor.Clock tt trail (sweep_effect config trail.facts room moment)
      (sweep_adds side config false trail.facts stands.facts_on room moment isnt)
