-- The quiet day goes its own way, step by step: a step of another dealer leaves it as it was, and
-- any other step makes of it what it makes of the day.
use Rattle.std.proofs.Common.{◌≡◌, ℕ, ◌==◌, Bool, true, not, List, None, is_some, sym, subst, false}
use Rattle.std.proofs.Common.{cond, [], ◌∷◌, fold, Option, Some, refl, ap, ◌∙◌, if◌then◌else◌}
use Rattle.std.specs.List.{list_any}
use Rattle.std.proofs.lemmas.Bool.{and_parts}
use Rattle.market_terms.specs.declared.duties.Duty.{Duty}
use Rattle.market_terms.specs.declared.duties.Duty.TheVariants as duty
use Rattle.market_terms.specs.declared.rooms.RoomRef.{RoomRef}
use Rattle.venue_rows.specs.Rows.{Configuration, dealer_numbered}
use Rattle.venue_rows.specs.declared.dealer_rows.DealerRow.{DealerRow}
use Rattle.investor_desk.specs.InvestorDesk.{market_of}
use Rattle.investor_desk.specs.declared.events.InvestorEvent.{InvestorEvent}
use Rattle.investor_desk.specs.declared.events.InvestorEvent.TheVariants as at_investor
use Rattle.request_room.specs.declared.events.RoomEvent.TheVariants as at_room
use Rattle.venue_steps.specs.declared.actors.Actor.{Actor}
use Rattle.venue_steps.specs.declared.actors.Actor.TheVariants as actor
use Rattle.step_replay.specs.Actions.{acting_dealer, received_by_dealer}
use Rattle.step_replay.specs.Actions.{where_known, word_for, Effect}
use Rattle.step_replay.specs.LineActions.{at_investor_of}
use Rattle.step_replay.specs.DutyEffects.{duty_effect, message_effect, sweep_effect}
use Rattle.step_replay.specs.Lists.{Every}
use Rattle.step_replay.specs.VenueFacts.{Fact, of_dealer, of_investor}
use Rattle.step_replay.specs.AuditTrail.{AuditTrail, no_steps, pending, with_effect, after_turn}
use Rattle.step_replay.specs.AuditTrail.{after_step, audit_trail, due_to, sent_to}
use Rattle.step_replay.specs.DealerTrail as dealer_trail
use Rattle.step_replay.specs.DealerTrail.{DealerEntry}
use Rattle.step_replay.specs.DueList.{due_list}
use Rattle.step_replay.specs.InvestorTrail as investor_trail
use Rattle.step_replay.specs.declared.steps.Step.{Step}
use Rattle.step_replay.specs.declared.steps.Step.TheVariants as step
use Rattle.laws_days.specs.ActionCases.{by_does, if_does, invested_does, message_of}
use Rattle.laws_days.specs.DayParts.{CausedOk, did, did_leaves, did_same, grows, is_left, leaves}
use Rattle.laws_days.specs.DayParts.{left_ok, none_left, part_twice, pending_ok, pending_same}
use Rattle.laws_days.specs.DayParts.{steps_grow}
use Rattle.laws_days.specs.DealerDuties.{IsQuoting}
use Rattle.laws_days.specs.LeftDuties.{Leaves}
use Rattle.laws_isolation.specs.Silence.{is_another, acts_as_another, is_of_another, without_others}
use Rattle.laws_isolation.specs.Silence.{is_hit, AreOneBesides}
use Rattle.laws_isolation.proofs.Quiet.{IsPlain, Suits, SuitsIf, acts, quiet, stays}
use Rattle.laws_isolation.proofs.Quiet.{IsUnseen, acting_other, hushed_unseen, nothing_unseen}
use Rattle.laws_isolation.proofs.Quiet.{numbered_other, AreAlike}
use Rattle.laws_isolation.proofs.QuietActions.{desk_unseen, known_hushed, room_unseen, own_same}
use Rattle.laws_isolation.proofs.QuietInvestor.{Hushes}
use Rattle.laws_isolation.proofs.QuietSteps.{duty_alike, message_alike, sweep_alike}
use Rattle.laws_isolation.proofs.QuotingDuties.{duty_suits, message_plain, message_quoting}
use Rattle.laws_isolation.proofs.QuotingDuties.{sweep_plain}

module _ (config : Configuration) (own : ℕ) (facts : List Fact) where
  came_unseen : (room : RoomRef) (more : InvestorEvent) → Hushes more
      → IsUnseen own (at_investor_of config room (where_known facts room.n None more))
  came_unseen room more is =
      invested_does (IsUnseen own) (nothing_unseen own) config room.investor
      (where_known facts room.n None more)
      (λ row. hushed_unseen own _
      (known_hushed own facts (market_of config room.investor row) room.n None more is))

  pub duty_unseen : (by : Actor) (more : Duty) → acts_as_another config own by ≡ true
      → IsQuoting more → IsUnseen own (duty_effect config facts by more)
  unfolding duty_effect
  duty_unseen by (duty.Post room quote price valid_until moment) is quoting =
      acting_other config own by is _ (λ dealer another. room_unseen own facts config room _
      (at_room.Post dealer.number (word_for config dealer quote) price valid_until) _ another)
  duty_unseen by (duty.Relay room offer moment) is quoting =
      came_unseen room (at_investor.QuoteCame room.n offer moment) tt
  duty_unseen by (duty.Unpost room quote moment) is quoting =
      acting_other config own by is _ (λ dealer another. room_unseen own facts config room _
      (at_room.Unpost dealer.number (word_for config dealer quote)) _ another)
  duty_unseen by (duty.Gone room word moment) is quoting =
      came_unseen room (at_investor.QuoteGone room.n word moment) tt
  duty_unseen by (duty.Decline room moment) is quoting =
      acting_other config own by is _ (λ dealer another. room_unseen own facts config room _
      (at_room.Decline dealer.number) _ another)
  duty_unseen by (duty.Declined room moment) is quoting =
      by_does (IsUnseen own) (nothing_unseen own) (acting_dealer config by) _
      (λ dealer. came_unseen room (at_investor.DealerDeclined room.n dealer.row.name moment) tt)
  duty_unseen by (duty.Drop last moment) is quoting =
      acting_other config own by is _ (λ dealer another. if_does (IsUnseen own)
      (nothing_unseen own) _ _ (desk_unseen own facts config dealer _ _ another))
  duty_unseen by more is quoting = cc

  -- another one is a dealer
  pub is_dealer : (firm : ℕ) → is_another config own firm ≡ true
      → is_some (dealer_numbered config firm) ≡ true
  is_dealer firm is =
      (and_parts (is_some (dealer_numbered config firm)) (not (firm == own)) is).0

  pub message_unseen : (firm moment : ℕ) (bytes : List ℕ) → is_another config own firm ≡ true
      → IsUnseen own (message_effect config facts firm moment bytes)
  unfolding message_effect
  message_unseen firm moment bytes is =
      subst (λ (b : Bool). IsUnseen own (message_of config facts firm moment bytes b))
      (sym (is_dealer firm is))
      (numbered_other config own firm is (received_by_dealer config facts moment bytes)
      (λ dealer another. if_does (IsUnseen own) (nothing_unseen own) _ _
      (desk_unseen own facts config dealer _ _ another)))

module _ (config : Configuration) (own : ℕ) where
  -- each duty that was left is what one in its queue is
  abbrev pub DayFits : AuditTrail → Type 0
  DayFits trail = Every (CausedOk (Suits config own)) trail.caused

  fits_then : (by : Actor) (b : Bool) → acts_as_another config own by ≡ b → (trail : AuditTrail)
      (effect : Effect) → DayFits trail → Every (SuitsIf b) effect.duties
      → DayFits (with_effect by trail effect)
  fits_then by b is trail effect fits each =
      left_ok (Suits config own) by trail.caused effect.duties fits
      (subst (λ (c : Bool). Every (SuitsIf c) effect.duties) (sym is) each)

  -- A step of another dealer.

  -- what was so, and what fits
  abbrev pub LeavesQuiet : AuditTrail → AuditTrail → Type 0
  LeavesQuiet trail after = (quiet config own after ≡ quiet config own trail) × DayFits after

  unseen_does : (by : Actor) → acts_as_another config own by ≡ true → (trail : AuditTrail)
      (effect : Effect) → DayFits trail → IsUnseen own effect → Leaves (SuitsIf true) effect
      → LeavesQuiet trail (with_effect by trail effect)
  unseen_does by is trail effect fits unseen left = (
    leaves (stays own) (acts config own) by (ap (λ (b : Bool). not b) is) trail effect
        unseen.no_facts,
    fits_then by true is trail effect fits left.each,
  )

  unseen_turn : (by : Actor) → acts_as_another config own by ≡ true → (trail : AuditTrail)
      → DayFits trail → (duties : List Duty) → Every (Suits config own by) duties
      → LeavesQuiet trail (after_turn config by trail duties)
  unseen_turn by is trail fits [] each = (refl, fits)
  unseen_turn by is trail fits (more ∷ later) each =
      let quoting : IsQuoting more = subst (λ (b : Bool). SuitsIf b more) is each.0 in
      let does = unseen_does by is (did by trail) (duty_effect config trail.facts by more) fits
      (duty_unseen config own trail.facts by more is quoting)
      (duty_suits config trail.facts true by more quoting) in (
        does.0 ∙ did_leaves (stays own) (acts config own) by (ap (λ (b : Bool). not b) is) trail,
        does.1,
      )

  pub step_unseen : (trail : AuditTrail) (s : Step) → is_of_another config own s ≡ true
      → DayFits trail → LeavesQuiet trail (after_step config trail s)
  unfolding after_step
  step_unseen trail (step.In firm moment bytes) is fits =
      unseen_does (actor.Firm firm) is trail (message_effect config trail.facts firm moment bytes)
      fits (message_unseen config own trail.facts firm moment bytes is)
      (message_quoting config trail.facts firm moment bytes
      (is_dealer config own trail.facts firm is))
  step_unseen trail (step.Turn by) is fits =
      unseen_turn by is trail fits (pending by trail) (pending_ok (Suits config own) by trail fits)
  step_unseen trail (step.Expire room moment) is fits = cc

  -- Any other step.

  -- the quiet day after a step is that of the quiet day after it
  abbrev pub IsOwnWay : AuditTrail → AuditTrail → Type 0
  IsOwnWay after after_too = (quiet config own after ≡ quiet config own after_too) × DayFits after

  alike_does : (by : Actor) → acts_as_another config own by ≡ false → (one other : AuditTrail)
      (does too : Effect) → DayFits one → quiet config own one ≡ quiet config own other
      → AreAlike own does too → Leaves (SuitsIf false) does
      → IsOwnWay (with_effect by one does) (with_effect by other too)
  alike_does by isnt one other does too fits same alike left = (
    grows (stays own) (acts config own) by one other does too same alike.facts_are
        alike.duties_are,
    fits_then by false isnt one does fits left.each,
  )

  quiet_twice : (trail : AuditTrail)
      → quiet config own trail ≡ quiet config own (quiet config own trail)
  quiet_twice trail = sym (part_twice (stays own) (acts config own) trail)

  alike_turn : (by : Actor) → acts_as_another config own by ≡ false → (trail : AuditTrail)
      → DayFits trail → (duties : List Duty) → Every (Suits config own by) duties
      → IsOwnWay (after_turn config by trail duties)
      (after_turn config by (quiet config own trail) duties)
  alike_turn by isnt trail fits [] each = (quiet_twice trail, fits)
  alike_turn by isnt trail fits (more ∷ later) each =
      let plain : IsPlain more = subst (λ (b : Bool). SuitsIf b more) isnt each.0 in
      alike_does by isnt (did by trail) (did by (quiet config own trail))
      (duty_effect config trail.facts by more)
      (duty_effect config (quiet config own trail).facts by more) fits
      (did_same (stays own) (acts config own) by trail (quiet config own trail) (quiet_twice trail))
      (duty_alike config own trail.facts by more isnt plain)
      (duty_suits config trail.facts false by more plain)

  -- whether a message leaves a hit
  abbrev pub hit_by : AuditTrail → Step → Bool
  hit_by trail (step.In firm moment bytes) =
      list_any is_hit (message_effect config trail.facts firm moment bytes).duties
  hit_by trail other = false

  pub step_alike : (trail : AuditTrail) (s : Step) → is_of_another config own s ≡ false
      → DayFits trail → hit_by trail s ≡ false
      → IsOwnWay (after_step config trail s) (after_step config (quiet config own trail) s)
  unfolding after_step
  step_alike trail (step.In firm moment bytes) isnt fits none =
      alike_does (actor.Firm firm) isnt trail (quiet config own trail)
      (message_effect config trail.facts firm moment bytes)
      (message_effect config (quiet config own trail).facts firm moment bytes) fits
      (quiet_twice trail) (message_alike config own trail.facts firm moment bytes isnt none)
      (message_plain config trail.facts firm moment bytes none)
  step_alike trail (step.Turn by) isnt fits none =
      subst (λ (duties : List Duty). IsOwnWay (after_turn config by trail (pending by trail))
      (after_turn config by (quiet config own trail) duties))
      (sym (pending_same (stays own) (acts config own) by (ap (λ (b : Bool). not b) isnt) trail))
      (alike_turn by isnt trail fits (pending by trail)
      (pending_ok (Suits config own) by trail fits))
  step_alike trail (step.Expire room moment) isnt fits none =
      alike_does actor.Clock refl trail (quiet config own trail)
      (sweep_effect config trail.facts room moment)
      (sweep_effect config (quiet config own trail).facts room moment) fits (quiet_twice trail)
      (sweep_alike config own trail.facts room moment) (sweep_plain config trail.facts room moment)

  -- All steps.

  none_by : (trail : AuditTrail) (s : Step)
      → list_any (is_left is_hit) (after_step config trail s).caused ≡ false
      → hit_by trail s ≡ false
  unfolding after_step
  none_by trail (step.In firm moment bytes) none =
      (none_left is_hit (actor.Firm firm) trail.caused
      (message_effect config trail.facts firm moment bytes).duties none).1
  none_by trail other none = refl

  -- the quiet day after these steps, of which none is another dealer's
  abbrev quiet_by : AuditTrail → List Step → AuditTrail
  quiet_by trail steps =
      fold (λ (t : AuditTrail) (s : Step). quiet config own (after_step config t s)) trail steps

  day_quiet : (trail : AuditTrail) (steps : List Step) → DayFits trail
      → list_any (is_left is_hit) (fold (after_step config) trail steps).caused ≡ false
      → quiet config own (fold (after_step config) trail steps)
      ≡ quiet_by (quiet config own trail) (without_others config own steps)
  day_quiet trail [] fits none = refl
  day_quiet trail (s ∷ steps) fits none =
      by_test (is_of_another config own s) refl
      (λ fits_too. day_quiet (after_step config trail s) steps fits_too none)
    where
      by_test : (b : Bool) → is_of_another config own s ≡ b
          → (DayFits (after_step config trail s)
          → quiet config own (fold (after_step config) (after_step config trail s) steps)
          ≡ quiet_by (quiet config own (after_step config trail s))
          (without_others config own steps))
          → quiet config own (fold (after_step config) (after_step config trail s) steps)
          ≡ quiet_by (quiet config own trail) (cond (not b)
          (s ∷ without_others config own steps) (without_others config own steps))
      by_test true is later =
          let left = step_unseen trail s is fits in
          later left.1
          ∙ ap (λ (t : AuditTrail). quiet_by t (without_others config own steps)) left.0
      by_test false is later =
          let goes = step_alike trail s is fits (none_by trail s
          (steps_grow is_hit config steps (after_step config trail s) none)) in
          later goes.1
          ∙ ap (λ (t : AuditTrail). quiet_by t (without_others config own steps)) goes.0

  -- two days that are one but for the steps of other dealers
  module _ (steps others : List Step) (alike : AreOneBesides config own steps others) where
    own_trail : of_dealer own (audit_trail config steps).facts
        ≡ of_dealer own (audit_trail config others).facts
    unfolding audit_trail
    own_trail =
        sym (own_same own (fold (after_step config) no_steps steps).facts)
        ∙ ap (λ (t : AuditTrail). of_dealer own t.facts)
        (day_quiet no_steps steps tt alike.none_hits
        ∙ ap (quiet_by (quiet config own no_steps)) alike.steps_are
        ∙ sym (day_quiet no_steps others tt alike.none_hits_too))
        ∙ own_same own (fold (after_step config) no_steps others).facts

    pub due_same : due_to own (audit_trail config steps) ≡ due_to own (audit_trail config others)
    due_same = ap (λ (l : List DealerEntry). due_list l) own_trail

    pub sent_same : (row : DealerRow) → dealer_numbered config own ≡ Some row
        → sent_to config own (audit_trail config steps)
        ≡ sent_to config own (audit_trail config others)
    sent_same row is =
        sent_is (audit_trail config steps)
        ∙ ap (λ (l : List DealerEntry). dealer_trail.sent_by l) own_trail
        ∙ sym (sent_is (audit_trail config others))
      where
        sent_is : (trail : AuditTrail)
            → sent_to config own trail ≡ dealer_trail.sent_by (of_dealer own trail.facts)
        sent_is trail =
            ap (λ (o : Option DealerRow). if is_some o
            then dealer_trail.sent_by (of_dealer own trail.facts)
            else investor_trail.sent_by (of_investor own trail.facts)) is
