-- Steps add to the facts of a day, and take none away.
use Rattle.std.proofs.Common.{◌≡◌, ℕ, Bool, true, false, List, [], ◌∷◌, ◌++◌, filter_map, fold}
use Rattle.std.proofs.Common.{is_some, refl}
use Rattle.std.proofs.Common.{sym, ap, ◌∙◌, Option}
use Rattle.std.proofs.lemmas.List.{append-nil, append_assoc}
use Rattle.std.proofs.lemmas.List.Elements.{filter_map-append}
use Rattle.std.proofs.lemmas.List.Sums.{fold-append}
use Rattle.market_terms.specs.declared.duties.Duty.{Duty}
use Rattle.venue_steps.specs.declared.actors.Actor.{Actor}
use Rattle.venue_rows.specs.Rows.{Configuration, dealer_numbered}
use Rattle.step_replay.specs.AuditTrail.{AuditTrail, after_step, after_turn, audit_trail, no_steps}
use Rattle.step_replay.specs.AuditTrail.{pending, sent_to}
use Rattle.step_replay.specs.DealerTrail as dealer_trail
use Rattle.step_replay.specs.DutyEffects.{duty_effect, message_effect, sweep_effect}
use Rattle.step_replay.specs.InvestorTrail as investor_trail
use Rattle.step_replay.specs.VenueFacts.{entry_at_dealer, entry_at_investor, of_dealer}
use Rattle.step_replay.specs.VenueFacts.{of_investor}
use Rattle.step_replay.specs.declared.steps.Step.{Step}
use Rattle.step_replay.specs.declared.steps.Step.TheVariants as step
use Rattle.laws_days.specs.Later.{BeginsWith}

begins : {A : Type 0} (front rest : List A) → BeginsWith (front ++ rest) front
begins front rest = record { rest = rest; is = refl }

same : {A : Type 0} (xs : List A) → BeginsWith xs xs
same xs = record { rest = []; is = sym (append-nil xs) }

further : {A : Type 0} (xs ys zs : List A) → BeginsWith ys xs → BeginsWith zs ys → BeginsWith zs xs
further xs ys zs one other = record {
  rest = one.rest ++ other.rest;
  is = other.is ∙ ap (λ l. l ++ other.rest) one.is ∙ append_assoc xs one.rest other.rest;
}

found : {A B : Type 0} (f : A → Option B) (whole front : List A) → BeginsWith whole front
    → BeginsWith (filter_map f whole) (filter_map f front)
found f whole front is = record {
  rest = filter_map f is.rest;
  is = ap (filter_map f) is.is ∙ filter_map-append f front is.rest;
}

module _ (config : Configuration) where
  turn_adds : (by : Actor) (trail : AuditTrail) (duties : List Duty)
      → BeginsWith (after_turn config by trail duties).facts trail.facts
  turn_adds by trail [] = same trail.facts
  turn_adds by trail (duty ∷ later) = begins trail.facts (duty_effect config trail.facts by duty).facts

  step_adds : (trail : AuditTrail) (s : Step)
      → BeginsWith (after_step config trail s).facts trail.facts
  unfolding after_step
  step_adds trail (step.In firm moment bytes) =
      begins trail.facts (message_effect config trail.facts firm moment bytes).facts
  step_adds trail (step.Turn by) = turn_adds by trail (pending by trail)
  step_adds trail (step.Expire room moment) =
      begins trail.facts (sweep_effect config trail.facts room moment).facts

  steps_add : (steps : List Step) (trail : AuditTrail)
      → BeginsWith (fold (after_step config) trail steps).facts trail.facts
  steps_add [] trail = same trail.facts
  steps_add (s ∷ steps) trail =
      further trail.facts (after_step config trail s).facts
      (fold (after_step config) (after_step config trail s) steps).facts (step_adds trail s)
      (steps_add steps (after_step config trail s))

  pub facts_begin : (steps more : List Step)
      → BeginsWith (audit_trail config (steps ++ more)).facts (audit_trail config steps).facts
  unfolding audit_trail
  facts_begin steps more =
      rw (fold-append (after_step config) no_steps steps more)
      (steps_add more (fold (after_step config) no_steps steps))

  sent_of : (firm : ℕ) (whole front : AuditTrail) → BeginsWith whole.facts front.facts → (dealer : Bool)
      → is_some (dealer_numbered config firm) ≡ dealer
      → BeginsWith (sent_to config firm whole) (sent_to config firm front)
  unfolding of_dealer of_investor
  sent_of firm whole front is true here =
      rw here (found dealer_trail.message_in _ _ (found (entry_at_dealer firm) whole.facts front.facts is))
  sent_of firm whole front is false here =
      rw here (found investor_trail.message_in _ _ (found (entry_at_investor firm) whole.facts front.facts is))

  pub sent_begins : (steps more : List Step) (firm : ℕ)
      → BeginsWith (sent_to config firm (audit_trail config (steps ++ more)))
      (sent_to config firm (audit_trail config steps))
  sent_begins steps more firm =
      sent_of firm (audit_trail config (steps ++ more)) (audit_trail config steps)
      (facts_begin steps more) (is_some (dealer_numbered config firm)) refl
