-- After every list of steps whose messages have bytes, what is due to each dealer can be said.
use Rattle.std.proofs.Common.{◌≡◌, ℕ, zero, suc, Bool, true, false, List, [], ◌∷◌, ◌++◌, map, drop}
use Rattle.std.proofs.Common.{count_by, filter_map, fold, Option, Some, None, if◌then◌else◌, refl, subst}
use Rattle.std.specs.List.{list_all}
use Rattle.std.proofs.lemmas.Option.{same_Some}
use Rattle.market_terms.specs.declared.duties.Duty.{Duty}
use Rattle.venue_rows.specs.Rows.{Configuration, KeepsLimits, dealer_numbered}
use Rattle.venue_rows.specs.declared.dealer_rows.DealerRow.{DealerRow}
use Rattle.venue_steps.specs.declared.actors.Actor.{Actor}
use Rattle.venue_steps.specs.declared.actors.Actor.TheVariants as actor
use Rattle.step_replay.specs.Actions.{Effect}
use Rattle.step_replay.specs.AuditTrail.{AuditTrail, Caused, after_step, after_turn, audit_trail}
use Rattle.step_replay.specs.AuditTrail.{due_to, duty_of, is_same_actor, no_steps, pending}
use Rattle.step_replay.specs.DutyEffects.{duty_effect, message_effect, sweep_effect}
use Rattle.step_replay.specs.EachLemmas.{every_both}
use Rattle.step_replay.specs.IsolationLemmas.{seen_is_kept}
use Rattle.step_replay.specs.Lists.{Every}
use Rattle.step_replay.specs.SeenLemmas.{Seen, start_seen}
use Rattle.step_replay.specs.StepLemmas.{duty_keeps, message_keeps, sweep_keeps}
use Rattle.step_replay.specs.VenueFacts.{Fact, of_dealer}
use Rattle.step_replay.specs.declared.steps.Step.{Step}
use Rattle.step_replay.specs.declared.steps.Step.TheVariants as step
use Rattle.venue_text.specs.ReadBack.{is_sayable}
use Rattle.laws_dues.specs.SaidSteps.{has_bytes}
use Rattle.laws_dues.proofs.SayableActions.{duty_fits, message_fits, sweep_fits}
use Rattle.laws_dues.proofs.SayableDuties.{DutyFits}
use Rattle.laws_dues.proofs.SayableEffects.{AcceptsFew, EffectFits}
use Rattle.laws_dues.proofs.SayableTrails.{TrailFits}

-- Lists.

every_mapped : {A B : Type 0} (P : B → Type 0) (f : A → B) (xs : List A)
    → Every (λ x. P (f x)) xs → Every P (map f xs)
every_mapped P f [] all = tt
every_mapped P f (x ∷ xs) all = (all.0, every_mapped P f xs all.1)

every_drop : {A : Type 0} (P : A → Type 0) (n : ℕ) (xs : List A) → Every P xs
    → Every P (drop n xs)
every_drop P zero xs all = all
every_drop P (suc n) [] all = tt
every_drop P (suc n) (x ∷ xs) all = every_drop P n xs all.1

every_found : {A B : Type 0} (P : A → Type 0) (Q : B → Type 0) (says : A → Option B)
    → ((x : A) (y : B) → says x ≡ Some y → P x → Q y) → (xs : List A) → Every P xs
    → Every Q (filter_map says xs)
every_found P Q says each [] every = tt
every_found {A} {B} P Q says each (x ∷ xs) every =
    by_found (says x) refl (every_found P Q says each xs every.1)
  where
    by_found : (found : Option B) → says x ≡ found → Every Q (filter_map says xs)
        → Every Q (filter_map says (x ∷ xs))
    by_found None found later = rw found later
    by_found (Some y) found later = rw found (each x y found every.0, later)

module _ (config : Configuration) where
  -- what stands in a venue of these facts and duties
  record DayFits (facts : List Fact) (caused : List Caused) : Type 0 where
    seen : (dealer : ℕ) (row : DealerRow) → dealer_numbered config dealer ≡ Some row
        → Seen config.date row (of_dealer dealer facts)
    trails : (dealer : ℕ) → TrailFits config (of_dealer dealer facts)
    duties : Every (λ (c : Caused). DutyFits config c.duty) caused

  -- a duty that stands in a queue was left
  pending_fit : (by : Actor) (venue : AuditTrail)
      → Every (λ (c : Caused). DutyFits config c.duty) venue.caused
      → Every (DutyFits config) (pending by venue)
  pending_fit by venue all =
      every_drop (DutyFits config) (count_by (is_same_actor by) venue.done)
      (filter_map (duty_of by) venue.caused)
      (every_found (λ (c : Caused). DutyFits config c.duty) (DutyFits config) (duty_of by) each
      venue.caused all)
    where
      each : (c : Caused) (left : Duty) → duty_of by c ≡ Some left → DutyFits config c.duty
          → DutyFits config left
      each c left is fits = by_test (is_same_actor c.by by) is
        where
          by_test : (b : Bool) → (if b then Some c.duty else None) ≡ Some left
              → DutyFits config left
          by_test true found = subst (DutyFits config) (same_Some c.duty left found) fits
          by_test false found = cc

  abbrev left_by : Actor → List Duty → List Caused
  left_by by duties = map (λ duty. record { by = by; duty = duty }) duties

  -- what an actor did
  effect_fits : (by : Actor) (facts : List Fact) (caused : List Caused) (effect : Effect)
      → DayFits facts caused → EffectFits config facts effect
      → ((dealer : ℕ) (row : DealerRow) → dealer_numbered config dealer ≡ Some row
      → Seen config.date row (of_dealer dealer facts)
      → Seen config.date row (of_dealer dealer (facts ++ effect.facts)))
      → DayFits (facts ++ effect.facts) (caused ++ left_by by effect.duties)
  effect_fits by facts caused effect day fits keeps = record {
    seen = λ dealer row is. keeps dealer row is (day.seen dealer row is);
    trails = λ dealer. fits.trails dealer (day.trails dealer);
    duties = every_both (λ (c : Caused). DutyFits config c.duty) caused (left_by by effect.duties)
        day.duties
        (every_mapped (λ (c : Caused). DutyFits config c.duty)
        (λ (left : Duty). record { by = by; duty = left }) effect.duties fits.duties);
  }

  module _ (limits : KeepsLimits config) (accepts : AcceptsFew) where
    turn_fits : (by : Actor) (venue : AuditTrail) (duties : List Duty)
        → DayFits venue.facts venue.caused → Every (DutyFits config) duties
        → DayFits (after_turn config by venue duties).facts (after_turn config by venue duties).caused
    turn_fits by venue [] day all = day
    turn_fits by venue (left ∷ later) day all =
        effect_fits by venue.facts venue.caused (duty_effect config venue.facts by left) day
        (duty_fits config limits venue.facts by left all.0)
        (λ dealer row is. duty_keeps config dealer row is (Seen config.date row)
        (seen_is_kept config.date row) venue.facts by left)

    step_fits : (venue : AuditTrail) (more : Step) → DayFits venue.facts venue.caused
        → has_bytes more ≡ true
        → DayFits (after_step config venue more).facts (after_step config venue more).caused
    unfolding after_step
    step_fits venue (step.In firm moment message) day said =
        effect_fits (actor.Firm firm) venue.facts venue.caused
        (message_effect config venue.facts firm moment message) day
        (message_fits config limits venue.facts accepts moment message said firm (day.seen firm))
        (λ dealer row is. message_keeps config dealer row is (Seen config.date row)
        (seen_is_kept config.date row) venue.facts firm moment message)
    step_fits venue (step.Turn by) day said =
        turn_fits by venue (pending by venue) day (pending_fit by venue day.duties)
    step_fits venue (step.Expire room moment) day said =
        effect_fits actor.Clock venue.facts venue.caused
        (sweep_effect config venue.facts room moment) day
        (sweep_fits config limits venue.facts room moment)
        (λ dealer row is. sweep_keeps config dealer row is (Seen config.date row)
        (seen_is_kept config.date row) venue.facts room moment)

    steps_fit : (venue : AuditTrail) (steps : List Step) → DayFits venue.facts venue.caused
        → Every (λ s. has_bytes s ≡ true) steps
        → DayFits (fold (after_step config) venue steps).facts
        (fold (after_step config) venue steps).caused
    steps_fit venue [] day said = day
    steps_fit venue (more ∷ steps) day said =
        steps_fit (after_step config venue more) steps (step_fits venue more day said.0) said.1

    start_fits : DayFits [] []
    unfolding of_dealer
    start_fits = record {
      seen = λ dealer row is. start_seen config.date row;
      trails = λ dealer. record { sayable = refl; apart = tt; rooms = tt };
      duties = tt;
    }

    pub day_is_sayable : (steps : List Step) → Every (λ s. has_bytes s ≡ true) steps
        → (dealer : ℕ) → list_all is_sayable (due_to dealer (audit_trail config steps)) ≡ true
    unfolding audit_trail
    day_is_sayable steps said dealer =
        ((steps_fit no_steps steps start_fits said).trails dealer).sayable
