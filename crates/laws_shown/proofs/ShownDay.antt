-- What stands of what is shown stands after every list of steps.
use Rattle.std.proofs.Common.{◌≡◌, ℕ}
use Rattle.std.proofs.Common.{List, [], ◌∷◌, ◌++◌}
use Rattle.std.proofs.Common.{fold}
use Rattle.std.proofs.Common.{refl}
use Rattle.std.proofs.lemmas.List.Elements.{filter_map-append}
use Rattle.market_terms.specs.declared.duties.Duty.{Duty}
use Rattle.venue_rows.specs.Rows.{Configuration}
use Rattle.venue_steps.specs.declared.actors.Actor.{Actor}
use Rattle.venue_steps.specs.declared.actors.Actor.TheVariants as actor
use Rattle.step_replay.specs.Actions.{Effect}
use Rattle.step_replay.specs.AuditTrail.{AuditTrail, after_step, after_turn, audit_trail}
use Rattle.step_replay.specs.AuditTrail.{no_steps, pending, with_effect}
use Rattle.step_replay.specs.DealerTrail.{rooms_by}
use Rattle.step_replay.specs.DutyEffects.{duty_effect, message_effect, sweep_effect}
use Rattle.step_replay.specs.EachLemmas.{every_both, every_weaker}
use Rattle.step_replay.specs.Lists.{Every}
use Rattle.step_replay.specs.VenueFacts.{Fact, of_dealer, of_investor}
use Rattle.step_replay.specs.declared.steps.Step.{Step}
use Rattle.step_replay.specs.declared.steps.Step.TheVariants as step
use Rattle.laws_days.specs.DayParts.{CausedOk, left_ok, pending_ok}
use Rattle.laws_shown.specs.ShownRequests.{at_dealer, at_investor}
use Rattle.laws_shown.proofs.AcceptedQuotes.{ask_in, asks_of}
use Rattle.laws_shown.proofs.ListLemmas.{from_both, paired_both, paired_weaker}
use Rattle.laws_shown.proofs.ShownDesk.{Brings, Stood}
use Rattle.investor_desk.specs.InvestorFacts.{offers_of}
use Rattle.step_replay.specs.InvestorTrail as investor_trail
use Rattle.step_replay.specs.InvestorTrail.{message_in, sent_by}
use Rattle.step_replay.specs.PlaceLemmas.{investor_grown}
use Rattle.laws_shown.specs.ShownQuotes.{shown_to}
use Rattle.laws_shown.proofs.ShownParts.{offers_both, turn_both, turn_later, turn_none}
use Rattle.laws_shown.proofs.ShownParts.{DutyOk, FactOk, IsAsked, asked_later}
use Rattle.laws_shown.proofs.ShownParts.{asked_in, asked_of, dealer_facts_grown, duty_later, fact_later}
use Rattle.laws_shown.proofs.ShownParts.{investor_facts_grown, number_asked, rooms_grown}
use Rattle.laws_shown.proofs.ShownActions.{duty_brings, message_brings, sweep_brings}

-- what stands in a venue
pub record DayOk (config : Configuration) (venue : AuditTrail) : Type 0 where
  pub stood : Stood config venue.facts
  pub caused : Every (CausedOk (DutyOk config venue.facts)) venue.caused

shown_then : (investor : ℕ) (facts more : List Fact)
    → offers_of (investor_trail.facts_of (of_investor investor facts ++ of_investor investor more))
    ≡ shown_to investor facts ++ shown_to investor more
shown_then investor facts more =
    rw (filter_map-append investor_trail.fact_in (of_investor investor facts)
    (of_investor investor more))
    (offers_both (at_investor investor facts) (at_investor investor more))

module _ (config : Configuration) where
  -- what stood stands with what an effect brings
  stood_then : (facts : List Fact) (by : Actor) (effect : Effect) → Stood config facts
      → Brings config facts by effect → Stood config (facts ++ effect.facts)
  stood_then facts by effect stood brings = record {
    each = every_both (FactOk config (facts ++ effect.facts)) facts effect.facts
        (every_weaker (FactOk config facts) (FactOk config (facts ++ effect.facts))
        (fact_later config facts effect.facts) facts stood.each) brings.stands;
    asks = λ dealer. rw (
      dealer_facts_grown dealer facts effect.facts,
      rooms_grown dealer facts effect.facts,
      filter_map-append ask_in (at_dealer dealer facts) (at_dealer dealer effect.facts),
    ) (paired_both _ (asks_of (at_dealer dealer facts)) (asks_of (at_dealer dealer effect.facts))
        (rooms_by (of_dealer dealer facts)) (rooms_by (of_dealer dealer effect.facts))
        (paired_weaker (λ ask room. IsAsked config facts room ask)
        (λ ask room. IsAsked config (facts ++ effect.facts) room ask)
        (λ ask room is. asked_later config facts effect.facts room ask is)
        (asks_of (at_dealer dealer facts)) (rooms_by (of_dealer dealer facts)) (stood.asks dealer))
        (brings.asks dealer));
    numbered = λ investor. rw (
      investor_facts_grown investor facts effect.facts,
      filter_map-append asked_in (at_investor investor facts) (at_investor investor effect.facts),
    ) (from_both number_asked 1 (asked_of (at_investor investor facts))
        (asked_of (at_investor investor effect.facts)) (stood.numbered investor)
        (brings.numbered investor));
    sent = λ investor. rw (
      investor_grown investor facts effect.facts,
      filter_map-append message_in (of_investor investor facts)
          (of_investor investor effect.facts),
      shown_then investor facts effect.facts,
    ) (turn_both config (facts ++ effect.facts) investor
        (sent_by (of_investor investor facts)) (sent_by (of_investor investor effect.facts))
        (shown_to investor facts) (shown_to investor effect.facts)
        (turn_later config facts effect.facts investor (sent_by (of_investor investor facts))
        (shown_to investor facts) (stood.sent investor)) (brings.sent investor));
  }

  effect_stands : (venue : AuditTrail) (by : Actor) (effect : Effect) → DayOk config venue
      → Brings config venue.facts by effect → DayOk config (with_effect by venue effect)
  effect_stands venue by effect ok brings = record {
    stood = stood_then venue.facts by effect ok.stood brings;
    caused = left_ok (DutyOk config (venue.facts ++ effect.facts)) by venue.caused effect.duties
        (every_weaker (CausedOk (DutyOk config venue.facts))
        (CausedOk (DutyOk config (venue.facts ++ effect.facts)))
        (λ caused is. duty_later config venue.facts effect.facts caused.by caused.duty is)
        venue.caused ok.caused) brings.left;
  }

  turn_stands : (venue : AuditTrail) (by : Actor) (duties : List Duty) → DayOk config venue
      → Every (DutyOk config venue.facts by) duties
      → DayOk config (after_turn config by venue duties)
  turn_stands venue by [] ok each = ok
  turn_stands venue by (left ∷ rest) ok each =
      let turned : AuditTrail = record venue { done = venue.done ++ by ∷ [] } in
      effect_stands turned by (duty_effect config venue.facts by left)
      (record { stood = ok.stood; caused = ok.caused })
      (duty_brings config venue.facts ok.stood by left each.0)

  pub step_stands : (venue : AuditTrail) (more : Step) → DayOk config venue
      → DayOk config (after_step config venue more)
  unfolding after_step
  step_stands venue (step.In firm moment message) ok =
      effect_stands venue (actor.Firm firm) (message_effect config venue.facts firm moment message) ok
      (message_brings config venue.facts ok.stood (actor.Firm firm) firm moment message refl)
  step_stands venue (step.Turn by) ok =
      turn_stands venue by (pending by venue) ok
      (pending_ok (DutyOk config venue.facts) by venue ok.caused)
  step_stands venue (step.Expire room moment) ok =
      effect_stands venue actor.Clock (sweep_effect config venue.facts room moment) ok
      (sweep_brings config venue.facts ok.stood actor.Clock room moment)

  steps_stand : (venue : AuditTrail) (steps : List Step) → DayOk config venue
      → DayOk config (fold (after_step config) venue steps)
  steps_stand venue [] ok = ok
  steps_stand venue (more ∷ steps) ok =
      steps_stand (after_step config venue more) steps (step_stands venue more ok)

  pub day_ok : (steps : List Step) → DayOk config (audit_trail config steps)
  unfolding audit_trail of_dealer of_investor
  day_ok steps = steps_stand no_steps steps record {
    stood = record { each = tt; asks = λ dealer. tt; numbered = λ investor. tt; sent = λ investor. turn_none config [] investor };
    caused = tt;
  }
