-- A day only grows: what more steps add to it stands behind what there was.
use Rattle.std.proofs.Common.{◌≡◌, Bool, List, [], ◌∷◌, ◌++◌, fold, sym, ap, refl, ◌∙◌}
use Rattle.std.proofs.lemmas.Grind.{fold-append}
use Rattle.std.proofs.lemmas.List.{append-nil, append_assoc}
use Rattle.std.proofs.lemmas.List.Concat.{flat_map-append}
use Rattle.std.proofs.lemmas.List.Elements.{filter_map-append}
use Rattle.market_terms.specs.declared.duties.Duty.{Duty}
use Rattle.venue_rows.specs.Rows.{Configuration}
use Rattle.step_replay.specs.DutyEffects.{duty_effect, message_effect, sweep_effect}
use Rattle.step_replay.specs.AuditTrail.{AuditTrail, after_step, after_turn, audit_trail, no_steps, pending}
use Rattle.step_replay.specs.LiveDays.{Sent, live_messages, live_steps, messages_in, sent_in, with_turns}
use Rattle.step_replay.specs.VenueFacts.{Fact}
use Rattle.venue_steps.specs.declared.actors.Actor.{Actor}
use Rattle.step_replay.specs.declared.steps.Step.{Step}
use Rattle.step_replay.specs.declared.steps.Step.TheVariants as step
use Rattle.venue_text.specs.LiveLines.{live_text}

-- facts that stand behind those of a day
abbrev Grows : AuditTrail → AuditTrail → Type 0
Grows before after = (more : List Fact) × (after.facts ≡ before.facts ++ more)

turn_grows : (config : Configuration) (by : Actor) (trail : AuditTrail) (duties : List Duty)
    → Grows trail (after_turn config by trail duties)
turn_grows config by trail [] = ([], sym (append-nil trail.facts))
turn_grows config by trail (duty ∷ later) = ((duty_effect config trail.facts by duty).facts, refl)

step_grows : (config : Configuration) (trail : AuditTrail) (s : Step)
    → Grows trail (after_step config trail s)
unfolding after_step
step_grows config trail (step.In firm moment message) =
    ((message_effect config trail.facts firm moment message).facts, refl)
step_grows config trail (step.Turn by) = turn_grows config by trail (pending by trail)
step_grows config trail (step.Expire room moment) =
    ((sweep_effect config trail.facts room moment).facts, refl)

steps_grow : (config : Configuration) (trail : AuditTrail) (steps : List Step)
    → Grows trail (fold (after_step config) trail steps)
steps_grow config trail [] = ([], sym (append-nil trail.facts))
steps_grow config trail (s ∷ steps) =
    let first = step_grows config trail s in
    let later = steps_grow config (after_step config trail s) steps in (
      first.0 ++ later.0,
      later.1 ∙ ap (λ (l : List Fact). l ++ later.0) first.1
          ∙ append_assoc trail.facts first.0 later.0,
    )

pub messages_grow : (config : Configuration) (taken more : List Step)
    → (added : List Sent) × (live_messages config (taken ++ more) ≡ live_messages config taken ++ added)
unfolding audit_trail messages_in
messages_grow config taken more =
    let before = fold (after_step config) no_steps (live_steps taken) in
    let grown = steps_grow config before (live_steps more) in
    let same = ap (fold (after_step config) no_steps) (flat_map-append with_turns taken more)
    ∙ fold-append (after_step config) no_steps (live_steps taken) (live_steps more) in (
      messages_in config grown.0,
      ap (λ (t : AuditTrail). messages_in config t.facts) same ∙ ap (messages_in config) grown.1
          ∙ filter_map-append (sent_in config) before.facts grown.0,
    )

-- before the first step there is no message
pub no_messages : (config : Configuration) → live_messages config [] ≡ []
unfolding audit_trail messages_in
no_messages config = refl

pub no_text : (with_frames : Bool) (config : Configuration) → live_text with_frames config [] ≡ []
unfolding audit_trail messages_in
no_text with_frames config = refl
