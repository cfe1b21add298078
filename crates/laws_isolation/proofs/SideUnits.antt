-- A step with the turns of its actor behind it: all of them are steps of one side.
use Rattle.std.proofs.Common.{◌≡◌, ℕ, zero, suc, Bool, true, false, List, [], ◌∷◌, replicate}
use Rattle.std.proofs.Common.{refl, sym, ◌∙◌, subst}
use Rattle.venue_rows.specs.Rows.{Configuration}
use Rattle.venue_steps.specs.declared.actors.Actor.TheVariants as actor
use Rattle.step_replay.specs.AuditTrail.{AuditTrail, after_step, pending}
use Rattle.step_replay.specs.Lists.{Every}
use Rattle.step_replay.specs.LiveDays.{actor_of, with_turns}
use Rattle.step_replay.specs.declared.steps.Step.{Step}
use Rattle.step_replay.specs.declared.steps.Step.TheVariants as step
use Rattle.step_replay.specs.declared.steps.TheConstants.{MOST_TURNS_BEHIND}
use Rattle.laws_days.specs.DayParts.{CausedOk, steps_grow}
use Rattle.laws_isolation.specs.Apart.{asks_across, has_ask_across, is_there}
use Rattle.laws_isolation.proofs.ClockTurns.{after, unit_idle}
use Rattle.laws_isolation.proofs.SideFollows.{AreOne, step_same}
use Rattle.laws_isolation.proofs.SideSteps.{ActsOn, ClockWithin, Stands, StepOn, step_leaves}
use Rattle.laws_isolation.proofs.SideSteps.{step_stands}
use Rattle.laws_isolation.proofs.ThereFacts.{FactsOn, IsOn, QueuedOn, there}

-- Steps of one side.

every_replicate : {X : Type 0} (P : X → Type 0) (n : ℕ) (x : X) → P x → Every P (replicate n x)
every_replicate P zero x is = tt
every_replicate P (suc n) x is = (is, every_replicate P n x is)

module _ (side : ℕ → Bool) (own : Bool) where
  unit_is : (s : Step) → is_there side s ≡ own → StepOn side own s × ActsOn side own (actor_of s)
  unit_is (step.In firm moment bytes) is = (is, is)
  unit_is (step.Turn (actor.Firm firm)) is = (is, is)
  unit_is (step.Turn actor.Clock) is = (tt, tt)
  unit_is (step.Expire room moment) is = (is, tt)

  unit_on : (s : Step) → is_there side s ≡ own → Every (StepOn side own) (with_turns s)
  unfolding with_turns
  unit_on s is = (
    (unit_is s is).0,
    every_replicate (StepOn side own) MOST_TURNS_BEHIND (step.Turn (actor_of s)) (unit_is s is).1,
  )

module _ (side : ℕ → Bool) (config : Configuration) where
  -- nobody asks across in a day up to here
  abbrev NoneAcross : AuditTrail → Type 0
  NoneAcross trail = has_ask_across side trail ≡ false

  -- the day stands behind a step, if nobody asks across in the whole day
  stands_then : (own : Bool) (s : Step) (steps : List Step) (trail : AuditTrail)
      → StepOn side own s → Stands side config own trail
      → NoneAcross (after config trail (s ∷ steps))
      → Stands side config own (after_step config trail s)
  stands_then own s steps trail is stands none =
      step_stands side config own trail s is stands
      (steps_grow (asks_across side) config steps (after_step config trail s) none)

  stands_after : (own : Bool) (steps : List Step) (trail : AuditTrail)
      → Every (StepOn side own) steps → Stands side config own trail
      → NoneAcross (after config trail steps) → Stands side config own (after config trail steps)
  stands_after own [] trail on stands none = stands
  stands_after own (s ∷ steps) trail on stands none =
      stands_after own steps (after_step config trail s) on.1
      (stands_then own s steps trail on.0 stands none) none

  -- steps of this side: the days stay one
  one_after : (steps : List Step) (one other : AuditTrail) → Every (StepOn side true) steps
      → AreOne side config one other → NoneAcross (after config one steps)
      → AreOne side config (after config one steps) (after config other steps)
  one_after [] one other on are none = are
  one_after (s ∷ steps) one other on are none =
      one_after steps (after_step config one s) (after_step config other s) on.1
      (step_same side config one other are s on.0
      (steps_grow (asks_across side) config steps (after_step config one s) none)) none

  -- what steps of the other side leave as it was
  leaves_after : (steps : List Step) (trail : AuditTrail) → Every (StepOn side false) steps
      → Stands side config false trail → NoneAcross (after config trail steps)
      → there side (after config trail steps) ≡ there side trail
  leaves_after [] trail on stands none = refl
  leaves_after (s ∷ steps) trail on stands none =
      leaves_after steps (after_step config trail s) on.1
      (stands_then false s steps trail on.0 stands none) none
      ∙ step_leaves side config trail s on.0 stands

-- A day rests between steps that come one by one: the clock has no duty left.
pub record Rests (side : ℕ → Bool) (config : Configuration) (trail : AuditTrail) : Type 0 where
  pub facts_on : FactsOn side config trail.facts
  pub caused_on : Every (CausedOk (QueuedOn side config)) trail.caused
  pub clock_idle : pending actor.Clock trail ≡ []
  pub clock_within : ClockWithin trail

module _ (side : ℕ → Bool) (config : Configuration) where
  stands_of : (own : Bool) (trail : AuditTrail) → Rests side config trail
      → Stands side config own trail
  stands_of own trail rests = record {
    facts_on = rests.facts_on;
    caused_on = rests.caused_on;
    clock_on = subst (Every (IsOn side config own actor.Clock)) (sym rests.clock_idle) tt;
    clock_within = rests.clock_within;
  }

  rests_then : (own : Bool) (trail : AuditTrail) (s : Step) → Rests side config trail
      → Stands side config own (after config trail (with_turns s))
      → Rests side config (after config trail (with_turns s))
  rests_then own trail s rests stands = record {
    facts_on = stands.facts_on;
    caused_on = stands.caused_on;
    clock_idle = unit_idle config side trail rests.facts_on rests.clock_idle rests.clock_within s;
    clock_within = stands.clock_within;
  }

  -- two days between steps that are one to this side
  pub record RestAlike (one other : AuditTrail) : Type 0 where
    pub rests : Rests side config one
    pub rests_too : Rests side config other
    pub part_is : there side one ≡ there side other

  module _ (one other : AuditTrail) (alike : RestAlike one other) (s : Step)
      (none : has_ask_across side (after config one (with_turns s)) ≡ false) where
    -- a step of this side in both
    pub own_unit : is_there side s ≡ true
        → RestAlike (after config one (with_turns s)) (after config other (with_turns s))
    own_unit is =
        let start : AreOne side config one other = record {
          stands = stands_of true one alike.rests;
          stands_too = stands_of true other alike.rests_too;
          part_is = alike.part_is;
          clock_is = alike.rests.clock_idle ∙ sym alike.rests_too.clock_idle;
        } in
        let stay = one_after side config (with_turns s) one other (unit_on side true s is) start
        none in
        record {
          rests = rests_then true one s alike.rests stay.stands;
          rests_too = rests_then true other s alike.rests_too stay.stands_too;
          part_is = stay.part_is;
        }

    -- one of the other side in the first
    pub other_unit : is_there side s ≡ false
        → RestAlike (after config one (with_turns s)) other
    other_unit isnt =
        let on = unit_on side false s isnt in
        let stands = stands_of false one alike.rests in
        let left = leaves_after side config (with_turns s) one on stands none in
        record {
          rests = rests_then false one s alike.rests
              (stands_after side config false (with_turns s) one on stands none);
          rests_too = alike.rests_too;
          part_is = left ∙ alike.part_is;
        }
