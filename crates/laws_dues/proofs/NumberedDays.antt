-- Every step keeps the counts, and so they stand after all of them.
use Rattle.std.proofs.Common.{◌≡◌, ◌≤◌, ℕ, zero, suc, ◌==◌, Bool, true, false, List, [], ◌∷◌}
use Rattle.std.proofs.Common.{drop, filter_map, count_by, fold, Option, Some, None}
use Rattle.std.proofs.Common.{if◌then◌else◌, refl, subst, arith}
use Rattle.std.proofs.lemmas.Bool.Decides.{nat_tests}
use Rattle.std.proofs.lemmas.Option.{same_Some}
use Rattle.market_terms.specs.declared.duties.Duty.{Duty}
use Rattle.venue_rows.specs.Rows.{Configuration, KeepsLimits}
use Rattle.venue_steps.specs.declared.actors.Actor.{Actor}
use Rattle.venue_steps.specs.declared.actors.Actor.TheVariants as actor
use Rattle.step_replay.specs.AuditTrail.{AuditTrail, Caused, after_step, after_turn, audit_trail}
use Rattle.step_replay.specs.AuditTrail.{duty_of, is_same_actor, no_steps, pending, with_effect}
use Rattle.step_replay.specs.DutyEffects.{duty_effect, message_effect, sweep_effect}
use Rattle.step_replay.specs.IsolationLemmas.{seen_is_kept}
use Rattle.step_replay.specs.Lists.{Every}
use Rattle.step_replay.specs.QueueLemmas.{one_actor, turned}
use Rattle.step_replay.specs.SeenLemmas.{Seen, start_seen}
use Rattle.step_replay.specs.StepLemmas.{duty_keeps, message_keeps, sweep_keeps}
use Rattle.step_replay.specs.VenueFacts.{of_dealer, of_investor}
use Rattle.step_replay.specs.declared.steps.Step.{Step}
use Rattle.step_replay.specs.declared.steps.Step.TheVariants as step
use Rattle.laws_dues.proofs.SayableEffects.{AcceptsFew}
use Rattle.laws_dues.proofs.NumberedActions.{duty_numbers, no_quote, quoted_at, sweep_numbers}
use Rattle.laws_dues.proofs.NumberedCounts.{DayNumbers, day_after, few_more, few_shown}
use Rattle.laws_dues.proofs.NumberedCounts.{few_turned, within_more, within_turned}
use Rattle.laws_dues.proofs.NumberedDuties.{DutyNumbers, brings, leaves}
use Rattle.laws_dues.proofs.NumberedMessages.{message_numbers}

every_drop : {A : Type 0} (P : A → Type 0) (n : ℕ) (xs : List A) → Every P xs
    → Every P (drop n xs)
every_drop P zero xs all = all
every_drop P (suc n) [] all = tt
every_drop P (suc n) (x ∷ xs) all = every_drop P n xs all.1

every_found : {A B : Type 0} (P : A → Type 0) (Q : B → Type 0) (says : A → Option B)
    → ((x : A) (y : B) → says x ≡ Some y → P x → Q y) → (xs : List A) → Every P xs
    → Every Q (filter_map says xs)
every_found P Q says each [] every = tt
every_found {A} {B} P Q says each (x ∷ xs) every =
    by_found (says x) refl (every_found P Q says each xs every.1)
  where
    by_found : (found : Option B) → says x ≡ found → Every Q (filter_map says xs)
        → Every Q (filter_map says (x ∷ xs))
    by_found None found later = rw found later
    by_found (Some y) found later = rw found (each x y found every.0, later)

module _ (config : Configuration) (limits : KeepsLimits config) (accepts : AcceptsFew) where
  abbrev Stands : AuditTrail → Type 0
  Stands venue = DayNumbers config limits accepts venue

  -- what an actor has to do
  pub pending_numbers : (by : Actor) (venue : AuditTrail)
      → Every (λ (c : Caused). DutyNumbers config c.by c.duty) venue.caused
      → Every (DutyNumbers config by) (pending by venue)
  pending_numbers by venue all =
      every_drop (DutyNumbers config by) (count_by (is_same_actor by) venue.done)
      (filter_map (duty_of by) venue.caused)
      (every_found (λ (c : Caused). DutyNumbers config c.by c.duty) (DutyNumbers config by)
      (duty_of by) each venue.caused all)
    where
      each : (c : Caused) (left : Duty) → duty_of by c ≡ Some left → DutyNumbers config c.by c.duty
          → DutyNumbers config by left
      each c left is says = by_test (is_same_actor c.by by) refl is
        where
          by_test : (b : Bool) → is_same_actor c.by by ≡ b
              → (if b then Some c.duty else None) ≡ Some left → DutyNumbers config by left
          by_test true same found =
              subst (DutyNumbers config by) (same_Some c.duty left found)
              (subst (λ (a : Actor). DutyNumbers config a c.duty) (one_actor c.by by same) says)
          by_test false same found = cc

  turn_stands : (by : Actor) (venue : AuditTrail) (duties : List Duty) → pending by venue ≡ duties
      → Stands venue → Stands (after_turn config by venue duties)
  turn_stands by venue [] next day = day
  turn_stands by venue (left ∷ rest) next day =
      let effect = duty_effect config venue.facts by left in
      let says = (subst (Every (DutyNumbers config by)) next
      (pending_numbers by venue day.caused)).0 in
      let numbers = duty_numbers config venue.facts day.shown
      (few_shown config limits accepts venue day) by left says in
      day_after config limits accepts venue by (leaves left) (brings left) effect
      (turned by venue effect) day numbers
      (λ dealer row is. duty_keeps config dealer row is (Seen config.date row)
      (seen_is_kept config.date row) venue.facts by left) refl refl
      (within_turned config limits accepts venue by effect left rest next day.within)
      (few_turned config limits accepts venue by left rest effect day next says numbers)

  step_stands : (venue : AuditTrail) (more : Step) → Stands venue
      → Stands (after_step config venue more)
  unfolding after_step
  step_stands venue (step.In firm moment message) day =
      let by = actor.Firm firm in
      let effect = message_effect config venue.facts firm moment message in
      let numbers = message_numbers config venue.facts day.shown firm moment message in
      day_after config limits accepts venue by (quoted_at effect.facts firm) no_quote effect
      (with_effect by venue effect) day numbers
      (λ dealer row is. message_keeps config dealer row is (Seen config.date row)
      (seen_is_kept config.date row) venue.facts firm moment message) refl refl
      (within_more config limits accepts venue by effect day.within)
      (few_more config limits accepts venue by (quoted_at effect.facts firm) effect day numbers
      (λ dealer same. paid (quoted_at effect.facts) dealer same))
    where
      paid : (quoted : ℕ → ℕ) (dealer : ℕ) → (firm == dealer) ≡ true → quoted firm ≤ quoted dealer
      paid quoted dealer same =
          let one : firm ≡ dealer = grind (arith, nat_tests) in
          subst (λ (d : ℕ). quoted firm ≤ quoted d) one (least (quoted firm))
        where
          least : (n : ℕ) → n ≤ n
          least n = omega arith
  step_stands venue (step.Turn by) day = turn_stands by venue (pending by venue) refl day
  step_stands venue (step.Expire room moment) day =
      let by = actor.Clock in
      let effect = sweep_effect config venue.facts room moment in
      let numbers = sweep_numbers config venue.facts day.shown
      (few_shown config limits accepts venue day) actor.Clock room moment in
      day_after config limits accepts venue by 0 no_quote effect (with_effect by venue effect) day
      numbers
      (λ dealer row is. sweep_keeps config dealer row is (Seen config.date row)
      (seen_is_kept config.date row) venue.facts room moment) refl refl
      (within_more config limits accepts venue by effect day.within)
      (few_more config limits accepts venue by 0 effect day numbers
      (λ dealer same. zero_least (quoted_at effect.facts dealer)))
    where
      zero_least : (n : ℕ) → 0 ≤ n
      zero_least n = omega arith

  steps_stand : (venue : AuditTrail) (steps : List Step) → Stands venue
      → Stands (fold (after_step config) venue steps)
  steps_stand venue [] day = day
  steps_stand venue (more ∷ steps) day =
      steps_stand (after_step config venue more) steps (step_stands venue more day)

  start_stands : Stands no_steps
  unfolding of_dealer of_investor
  start_stands = record {
    within = λ by. least;
    shown = λ investor. tt;
    caused = tt;
    few = λ investor dealer row is. least;
    seen = λ dealer row is. start_seen config.date row;
  }
    where
      least : 0 ≤ 0
      least = omega arith

  pub day_stands : (steps : List Step) → Stands (audit_trail config steps)
  unfolding audit_trail
  day_stands steps = steps_stand no_steps steps start_stands
