-- A step of this side does the same in two days that are one to it.
use Rattle.std.proofs.Common.{◌≡◌, ℕ, Bool, true, false, refl, ap}
use Rattle.std.proofs.Common.{List, [], ◌∷◌, ◌++◌, sym, ◌∙◌, subst}
use Rattle.market_terms.specs.declared.duties.Duty.{Duty}
use Rattle.venue_rows.specs.Rows.{Configuration}
use Rattle.venue_steps.specs.declared.actors.Actor.{Actor}
use Rattle.venue_steps.specs.declared.actors.Actor.TheVariants as actor
use Rattle.step_replay.specs.Actions.{Effect}
use Rattle.step_replay.specs.AuditTrail.{AuditTrail, after_step, after_turn, pending, with_effect}
use Rattle.step_replay.specs.DutyEffects.{duty_effect, message_effect, sweep_effect}
use Rattle.step_replay.specs.Lists.{Every}
use Rattle.step_replay.specs.QueueLemmas.{other_pending, other_turned, own_pending, own_turned}
use Rattle.step_replay.specs.QueueLemmas.{turned}
use Rattle.step_replay.specs.VenueFacts.{Fact}
use Rattle.step_replay.specs.declared.steps.Step.{Step}
use Rattle.step_replay.specs.declared.steps.Step.TheVariants as step
use Rattle.laws_days.specs.DayParts.{did, did_same, grows, pending_same, none_left}
use Rattle.laws_days.specs.LeftDuties.{Leaves}
use Rattle.laws_isolation.specs.Apart.{acts_there, asks_across, has_ask_across}
use Rattle.laws_isolation.proofs.ThereFacts.{IsOn, stays, there, known}
use Rattle.laws_isolation.proofs.AddedFacts.{AddsOn, duty_adds, message_adds, sweep_adds}
use Rattle.laws_isolation.proofs.SameEffects.{duty_same, message_same, sweep_same}
use Rattle.laws_isolation.proofs.SideSteps.{ActsOn, Stands, StepOn, waits_on, does_stands}
use Rattle.laws_isolation.proofs.SideSteps.{turned_stands}
use Rattle.laws_isolation.proofs.LeftOn.{duty_left, message_left, sweep_left}

-- Two days are one to this side, before a step of it.
pub record AreOne (side : ℕ → Bool) (config : Configuration) (one other : AuditTrail) : Type 0 where
  pub stands : Stands side config true one
  pub stands_too : Stands side config true other
  pub part_is : there side one ≡ there side other
  pub clock_is : pending actor.Clock one ≡ pending actor.Clock other

module _ (side : ℕ → Bool) (config : Configuration) (one other : AuditTrail)
    (are : AreOne side config one other) where
  -- the facts of this side are one
  seen : known side one.facts ≡ known side other.facts
  seen = ap (λ (t : AuditTrail). t.facts) are.part_is

  waits_same : (by : Actor) → ActsOn side true by → pending by one ≡ pending by other
  waits_same (actor.Firm firm) is =
      sym (pending_same (stays side) (acts_there side) (actor.Firm firm) is one)
      ∙ ap (pending (actor.Firm firm)) are.part_is
      ∙ pending_same (stays side) (acts_there side) (actor.Firm firm) is other
  waits_same actor.Clock is = are.clock_is

  -- What an actor does, and a turn of it.

  clock_then : (by : Actor) (effect : Effect)
      → pending actor.Clock (with_effect by one effect)
      ≡ pending actor.Clock (with_effect by other effect)
  clock_then (actor.Firm firm) effect =
      other_pending (actor.Firm firm) actor.Clock one effect refl ∙ are.clock_is
      ∙ sym (other_pending (actor.Firm firm) actor.Clock other effect refl)
  clock_then actor.Clock effect =
      own_pending actor.Clock one effect are.stands.clock_within
      ∙ ap (λ (l : List Duty). l ++ effect.duties) are.clock_is
      ∙ sym (own_pending actor.Clock other effect are.stands_too.clock_within)

  clock_turned : (by : Actor) (effect : Effect) (d : Duty) (later : List Duty)
      → pending by one ≡ d ∷ later → pending by other ≡ d ∷ later
      → pending actor.Clock (turned by one effect) ≡ pending actor.Clock (turned by other effect)
  clock_turned (actor.Firm firm) effect d later waits waits_too =
      other_turned (actor.Firm firm) actor.Clock one effect refl refl ∙ are.clock_is
      ∙ sym (other_turned (actor.Firm firm) actor.Clock other effect refl refl)
  clock_turned actor.Clock effect d later waits waits_too =
      own_turned actor.Clock one effect d later waits
      ∙ sym (own_turned actor.Clock other effect d later waits_too)

  module _ (by : Actor) (is : ActsOn side true by) (effect : Effect)
      (adds : AddsOn side config true effect) (left : Leaves (IsOn side config true by) effect)
      (too : Effect) (same : effect ≡ too) where
    does_same : AreOne side config (with_effect by one effect) (with_effect by other too)
    does_same =
        subst (λ (e : Effect). AreOne side config (with_effect by one effect)
        (with_effect by other e)) same
        (record {
          stands = does_stands side config true by is one effect are.stands adds left;
          stands_too = does_stands side config true by is other effect are.stands_too adds left;
          part_is = grows (stays side) (acts_there side) by one other effect effect are.part_is
              refl refl;
          clock_is = clock_then by effect;
        })

    turned_same : (d : Duty) (later : List Duty) → pending by one ≡ d ∷ later
        → pending by other ≡ d ∷ later
        → AreOne side config (turned by one effect) (turned by other too)
    turned_same d later waits waits_too =
        subst (λ (e : Effect). AreOne side config (turned by one effect) (turned by other e)) same
        (record {
          stands = turned_stands side config true by is one effect are.stands adds left d later
              waits;
          stands_too = turned_stands side config true by is other effect are.stands_too adds left
              d later waits_too;
          part_is = grows (stays side) (acts_there side) by (did by one) (did by other) effect
              effect (did_same (stays side) (acts_there side) by one other are.part_is) refl refl;
          clock_is = clock_turned by effect d later waits waits_too;
        })

  turn_same : (by : Actor) → ActsOn side true by → (duties : List Duty)
      → pending by one ≡ duties → pending by other ≡ duties
      → Every (IsOn side config true by) duties
      → AreOne side config (after_turn config by one duties) (after_turn config by other duties)
  turn_same by is [] waits waits_too on = are
  turn_same by is (d ∷ later) waits waits_too on =
      turned_same by is (duty_effect config one.facts by d)
      (duty_adds side config true one.facts are.stands.facts_on by d on.0)
      (duty_left side config true one.facts are.stands.facts_on by d on.0)
      (duty_effect config other.facts by d)
      (duty_same side config one.facts by d are.stands.facts_on on.0
      ∙ ap (λ (l : List Fact). duty_effect config l by d) seen
      ∙ sym (duty_same side config other.facts by d are.stands_too.facts_on on.0))
      d later waits waits_too

  pub step_same : (s : Step) → StepOn side true s
      → has_ask_across side (after_step config one s) ≡ false
      → AreOne side config (after_step config one s) (after_step config other s)
  unfolding after_step
  step_same (step.In firm moment bytes) is none =
      does_same (actor.Firm firm) is (message_effect config one.facts firm moment bytes)
      (message_adds side config true one.facts are.stands.facts_on firm moment bytes is)
      (message_left side config true one.facts are.stands.facts_on firm moment is bytes
      (none_left (asks_across side) (actor.Firm firm) one.caused
      (message_effect config one.facts firm moment bytes).duties none).1)
      (message_effect config other.facts firm moment bytes)
      (message_same side config one.facts firm moment bytes is
      ∙ ap (λ (l : List Fact). message_effect config l firm moment bytes) seen
      ∙ sym (message_same side config other.facts firm moment bytes is))
  step_same (step.Turn by) is none =
      subst (λ (duties : List Duty). AreOne side config (after_turn config by one (pending by one))
      (after_turn config by other duties)) (waits_same by is)
      (turn_same by is (pending by one) refl (sym (waits_same by is))
      (waits_on side config true by is one are.stands))
  step_same (step.Expire room moment) is none =
      does_same actor.Clock tt (sweep_effect config one.facts room moment)
      (sweep_adds side config true one.facts are.stands.facts_on room moment is)
      (sweep_left side config true one.facts are.stands.facts_on room moment is)
      (sweep_effect config other.facts room moment)
      (sweep_same side config one.facts room moment is
      ∙ ap (λ (l : List Fact). sweep_effect config l room moment) seen
      ∙ sym (sweep_same side config other.facts room moment is))
