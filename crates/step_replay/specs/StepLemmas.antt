-- What is kept of a dealer's trail by each of the five kinds of what can happen there is kept by
-- every step of the venue.
use Rattle.std.proofs.Common.{◌≡◌, ℕ, List, [], ◌∷◌, ◌++◌, fold, Option, Some, sym, subst}
use Rattle.market_terms.specs.declared.duties.Duty.{Duty}
use Rattle.market_terms.specs.declared.rooms.RoomRef.{RoomRef}
use Rattle.venue_rows.specs.Rows.{Configuration, dealer_numbered}
use Rattle.venue_rows.specs.declared.dealer_rows.DealerRow.{DealerRow}
use Rattle.step_replay.specs.DealerTrail.{DealerEntry}
use Rattle.step_replay.specs.AuditTrail.{AuditTrail, audit_trail, after_step, after_turn, no_steps}
use Rattle.step_replay.specs.AuditTrail.{pending}
use Rattle.step_replay.specs.declared.steps.Step.{Step}
use Rattle.step_replay.specs.declared.steps.Step.TheVariants as step
use Rattle.step_replay.specs.VenueFacts.{Fact, of_dealer}
use Rattle.investor_desk.specs.InvestorDesk.{market_of}
use Rattle.step_replay.specs.ActionKinds.{IsAction, by_dealer, by_hit, by_investor, by_room, idle}
use Rattle.step_replay.specs.ActionKinds.{duty_action, message_action, sweep_action}
use Rattle.step_replay.specs.Actions.{Effect}
use Rattle.step_replay.specs.DutyEffects.{duty_effect, message_effect, sweep_effect}
use Rattle.venue_steps.specs.declared.actors.Actor.{Actor}
use Rattle.step_replay.specs.TrailKept.{IsKept, nothing_keeps, happened_keeps, market_keeps}
use Rattle.step_replay.specs.TrailKept.{desk_keeps}
use Rattle.step_replay.specs.HitKept.{hit_with_keeps}

module _ (config : Configuration) (own : ℕ) (row : DealerRow)
    (is_dealer : dealer_numbered config own ≡ Some row) (P : List DealerEntry → Type 0)
    (kept : IsKept config.date row P) where
  -- the trail of the dealer with this number
  abbrev trail : List Fact → List DealerEntry
  trail facts = of_dealer own facts

  -- what an action adds leaves the view at the desk of the dealer's trail
  abbrev Keeps : List Fact → Effect → Type 0
  Keeps facts effect =
      P (trail facts) → P (trail (facts ++ effect.facts))

  -- All actions, by their kinds.

  pub action_keeps : (facts : List Fact) (desk : Option ℕ) (room : Option RoomRef) (effect : Effect)
      → IsAction config facts desk room effect → Keeps facts effect
  action_keeps facts desk room effect (idle is) =
      subst (Keeps facts) (sym is) (nothing_keeps config own row is_dealer P kept facts)
  action_keeps facts desk room effect (by_dealer number other event duties at found comes is) =
      subst (Keeps facts) (sym is) (desk_keeps config own row is_dealer P kept facts number other
      event duties found comes)
  action_keeps facts desk room effect (by_investor number other event duties at found fit is) =
      subst (Keeps facts) (sym is) (market_keeps config own row is_dealer P kept facts (market_of
      config number other) event duties)
  action_keeps facts desk room effect (by_room at event duties here is) =
      subst (Keeps facts) (sym is) (happened_keeps config own row is_dealer P kept facts at _
      duties)
  action_keeps facts desk room effect (by_hit at response word moment here is) =
      subst (Keeps facts) (sym is) (hit_with_keeps config own row is_dealer P kept facts at response
      word moment)

  pub duty_keeps : (facts : List Fact) (by : Actor) (more : Duty)
      → Keeps facts (duty_effect config facts by more)
  duty_keeps facts by more = action_keeps facts _ _ _ (duty_action config facts by more)

  pub message_keeps : (facts : List Fact) (firm moment : ℕ) (bytes : List ℕ)
      → Keeps facts (message_effect config facts firm moment bytes)
  message_keeps facts firm moment bytes =
      action_keeps facts _ _ _ (message_action config facts firm moment bytes)

  pub sweep_keeps : (facts : List Fact) (room : RoomRef) (moment : ℕ)
      → Keeps facts (sweep_effect config facts room moment)
  sweep_keeps facts room moment = action_keeps facts _ _ _ (sweep_action config facts room moment)

  -- All steps.

  turn_keeps : (by : Actor) (before : AuditTrail) (duties : List Duty)
      → P (trail before.facts)
      → P (trail (after_turn config by before duties).facts)
  turn_keeps by before [] seen = seen
  turn_keeps by before (more ∷ later) seen = duty_keeps before.facts by more seen

  step_keeps : (before : AuditTrail) (more : Step) → P (trail before.facts)
      → P (trail (after_step config before more).facts)
  unfolding after_step
  step_keeps before (step.In firm moment message) seen =
      message_keeps before.facts firm moment message seen
  step_keeps before (step.Turn by) seen = turn_keeps by before (pending by before) seen
  step_keeps before (step.Expire room moment) seen = sweep_keeps before.facts room moment seen

  steps_keep : (before : AuditTrail) (steps : List Step) → P (trail before.facts)
      → P (trail (fold (after_step config) before steps).facts)
  steps_keep before [] seen = seen
  steps_keep before (more ∷ steps) seen =
      steps_keep (after_step config before more) steps (step_keeps before more seen)

  -- what is kept, and stands at the start of the day, stands after all steps
  pub kept_by_all : P [] → (steps : List Step) → P (trail (audit_trail config steps).facts)
  unfolding audit_trail of_dealer
  kept_by_all start steps = steps_keep no_steps steps start
