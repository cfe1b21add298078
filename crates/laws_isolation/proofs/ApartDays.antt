-- All steps of a day, and two days that have the same steps on one side.
use Rattle.std.proofs.Common.{◌≡◌, ◌≤◌, ℕ, Bool, true, false, List, [], ◌∷◌, filter_map}
use Rattle.std.proofs.Common.{count_by, length, is_some, refl, sym, ap, ◌∙◌, arith, if◌then◌else◌}
use Rattle.std.proofs.lemmas.Bool.{cond_both}
use Rattle.std.proofs.lemmas.List.Sums.{fold-append}
use Rattle.venue_rows.specs.Rows.{Configuration, dealer_numbered}
use Rattle.investor_desk.specs.InvestorDesk.{market_for}
use Rattle.venue_steps.specs.declared.actors.Actor.TheVariants as actor
use Rattle.step_replay.specs.AuditTrail.{AuditTrail, after_step, audit_trail, due_to, no_steps}
use Rattle.step_replay.specs.AuditTrail.{duty_of, is_same_actor, sent_to}
use Rattle.step_replay.specs.DealerTrail as dealer_trail
use Rattle.step_replay.specs.DealerTrail.{DealerEntry}
use Rattle.step_replay.specs.DueList.{due_list}
use Rattle.step_replay.specs.InvestorEvents.{events_of}
use Rattle.step_replay.specs.InvestorTrail as investor_trail
use Rattle.step_replay.specs.InvestorTrail.{InvestorEntry}
use Rattle.step_replay.specs.LiveDays.{live_steps, live_trail, with_turns}
use Rattle.step_replay.specs.VenueFacts.{of_dealer, of_investor}
use Rattle.step_replay.specs.declared.steps.Step.{Step}
use Rattle.investor_views.specs.InvestorDues.{due_to_investor, dues_where}
use Rattle.laws_days.specs.DayParts.{steps_grow}
use Rattle.laws_isolation.specs.Apart.{AreOneThere, asks_across, has_ask_across, is_there, steps_there}
use Rattle.laws_isolation.proofs.ClockTurns.{after}
use Rattle.laws_isolation.proofs.SideUnits.{RestAlike, Rests, other_unit, own_unit}
use Rattle.laws_isolation.proofs.ThereFacts.{there, dealer_same, investor_same}

module _ (side : ℕ → Bool) (config : Configuration) where
  start_rests : Rests side config no_steps
  start_rests = record {
    facts_on = tt;
    caused_on = tt;
    clock_idle = refl;
    clock_within = none_within (count_by (is_same_actor actor.Clock) []) refl
        (length (filter_map (duty_of actor.Clock) []));
  }
    where
      none_within : (count : ℕ) → count ≡ 0 → (most : ℕ) → count ≤ most
      none_within count none most = omega arith

  -- a day is one to this side with the day of the steps of this side alone
  abbrev IsByOwn : AuditTrail → AuditTrail → List Step → List Step → Type 0
  IsByOwn one other steps own = there side (after config one (live_steps steps))
      ≡ there side (after config other (live_steps own))

  -- the steps behind one
  split : (trail : AuditTrail) (s : Step) (steps : List Step)
      → after config trail (live_steps (s ∷ steps))
      ≡ after config (after config trail (with_turns s)) (live_steps steps)
  split trail s steps = fold-append (after_step config) trail (with_turns s) (live_steps steps)

  day_is : (steps : List Step) (one other : AuditTrail) → RestAlike side config one other
      → has_ask_across side (after config one (live_steps steps)) ≡ false
      → IsByOwn one other steps (steps_there side steps)
  day_is [] one other alike none = alike.part_is
  day_is (s ∷ steps) one other alike none =
      let next : AuditTrail = after config one (with_turns s) in
      let next_too : AuditTrail = after config other (with_turns s) in
      let own = steps_there side steps in
      let behind : has_ask_across side (after config next (live_steps steps)) ≡ false =
      ap (has_ask_across side) (sym (split one s steps)) ∙ none in
      let by_it : has_ask_across side next ≡ false =
      steps_grow (asks_across side) config (live_steps steps) next behind in
      cond_both (is_there side s) (s ∷ own) own (IsByOwn one other (s ∷ steps))
      (λ is. ap (there side) (split one s steps)
      ∙ day_is steps next next_too (own_unit side config one other alike s by_it is) behind
      ∙ ap (there side) (sym (split other s own)))
      (λ isnt. ap (there side) (split one s steps)
      ∙ day_is steps next other (other_unit side config one other alike s by_it isnt) behind)

  -- a day from its start
  from_start : (steps : List Step) → has_ask_across side (live_trail config steps) ≡ false
      → IsByOwn no_steps no_steps steps (steps_there side steps)
  unfolding audit_trail
  from_start steps none =
      day_is steps no_steps no_steps
      (record { rests = start_rests; rests_too = start_rests; part_is = refl }) none

  -- Two days.

  module _ (steps others : List Step) (alike : AreOneThere config side steps others) where
    day_same : there side (live_trail config steps) ≡ there side (live_trail config others)
    unfolding audit_trail
    day_same =
        from_start steps alike.none_across
        ∙ ap (λ (own : List Step). there side (after config no_steps (live_steps own)))
        alike.steps_are
        ∙ sym (from_start others alike.none_across_too)

    module _ (number : ℕ) (here : side number ≡ true) where
      dealer_trails : of_dealer number (live_trail config steps).facts
          ≡ of_dealer number (live_trail config others).facts
      dealer_trails =
          sym (dealer_same side (live_trail config steps).facts number here)
          ∙ ap (λ (t : AuditTrail). of_dealer number t.facts) day_same
          ∙ dealer_same side (live_trail config others).facts number here

      investor_trails : of_investor number (live_trail config steps).facts
          ≡ of_investor number (live_trail config others).facts
      investor_trails =
          sym (investor_same side (live_trail config steps).facts number here)
          ∙ ap (λ (t : AuditTrail). of_investor number t.facts) day_same
          ∙ investor_same side (live_trail config others).facts number here

      pub dealer_due : due_to number (live_trail config steps)
          ≡ due_to number (live_trail config others)
      dealer_due = ap (λ (l : List DealerEntry). due_list l) dealer_trails

      pub firm_sent : sent_to config number (live_trail config steps)
          ≡ sent_to config number (live_trail config others)
      firm_sent =
          ap (λ (l : List DealerEntry). if is_some (dealer_numbered config number)
          then dealer_trail.sent_by l
          else investor_trail.sent_by (of_investor number (live_trail config steps).facts))
          dealer_trails
          ∙ ap (λ (l : List InvestorEntry). if is_some (dealer_numbered config number)
          then dealer_trail.sent_by (of_dealer number (live_trail config others).facts)
          else investor_trail.sent_by l) investor_trails

      pub investor_due : due_to_investor config number (live_steps steps)
          ≡ due_to_investor config number (live_steps others)
      investor_due =
          ap (λ (l : List InvestorEntry). dues_where (market_for config number)
          (events_of l)) investor_trails
