-- What a dealer answers takes effect in its turn, after every list of steps.
use Rattle.std.proofs.Common.{◌≡◌, ℕ, false, List, [], ◌∷◌, ◌++◌}
use Rattle.std.proofs.Common.{Option, Some, None, refl, sym, ap, ◌∙◌, subst}
use Rattle.std.specs.List.{cons_option}
use Rattle.std.proofs.lemmas.List.{append-nil, append_assoc, take-append-drop}
use Rattle.std.proofs.lemmas.List.Elements.{filter_map-append}
use Rattle.market_terms.specs.declared.duties.Duty.{Duty}
use Rattle.market_terms.specs.declared.rooms.RoomRef.{RoomRef}
use Rattle.request_room.specs.RoomFacts.{RoomFact}
use Rattle.venue_rows.specs.Rows.{Configuration, dealer_numbered}
use Rattle.venue_rows.specs.declared.dealer_rows.DealerRow.{DealerRow}
use Rattle.venue_steps.specs.Dealers.{dealer_of}
use Rattle.venue_steps.specs.declared.actors.Actor.{Actor}
use Rattle.venue_steps.specs.declared.actors.Actor.TheVariants as actor
use Rattle.step_replay.specs.Actions.{Effect}
use Rattle.step_replay.specs.AuditTrail.{AuditTrail, after_step, after_turn, audit_trail, is_same_actor}
use Rattle.step_replay.specs.AuditTrail.{pending}
use Rattle.step_replay.specs.DutyEffects.{duty_effect, message_effect, sweep_effect}
use Rattle.step_replay.specs.PlaceLemmas.{room_grown}
use Rattle.step_replay.specs.VenueFacts.{Fact, of_dealer, of_room}
use Rattle.step_replay.specs.declared.steps.Step.{Step}
use Rattle.step_replay.specs.declared.steps.Step.TheVariants as step
use Rattle.laws_days.specs.LiveDuties.{NoDutyIsLeft}
use Rattle.laws_days.proofs.ConditionMet.{met}
use Rattle.laws_days.proofs.LiveQuotes.{LoneQuotes}
use Rattle.laws_days.proofs.VenueDay.{venue_ok}
use Rattle.laws_days.proofs.VenueDesk.{WordsOfDay}
use Rattle.laws_days.proofs.VenueInvariant.{VenueOk}
use Rattle.laws_days.proofs.VenueKnown.{pending_ok}
use Rattle.laws_days.proofs.VenueParts.{did_in, duties_by, later_same}
use Rattle.laws_days.proofs.VenueSteps.{Here, day}
use Rattle.laws_days.proofs.VenueTurns.{beside, doing_now, turn, turns_of}
use Rattle.laws_rooms.specs.Answered.{Answer, TookEffect, Withdraws, answers_at, changes_in}
use Rattle.laws_rooms.proofs.ChangeLemmas.{MayWithdraw, Went, beside_it, change_of, lefts, took_more, turn_went}
use Rattle.laws_rooms.proofs.FollowLemmas.{message_none, others_none, sweep_none}
use Rattle.laws_rooms.proofs.LinkDays.{all_fit, all_linked}
use Rattle.laws_rooms.proofs.TurnLists.{Fit, fit_right, stands_there}
use Rattle.laws_rooms.proofs.RoomLemmas.{did_all, one_more}
use Rattle.laws_rooms.proofs.TurnShares.{anothers, its_own, share}

module _ (lone : LoneQuotes) (words : WordsOfDay) (config : Configuration) (dealer : ℕ)
    (row : DealerRow) (is : dealer_numbered config dealer ≡ Some row) (room : RoomRef) where
  abbrev me : Actor
  me = actor.Firm dealer

  abbrev known : List Fact → List RoomFact
  known facts = of_room room facts

  abbrev left : List Duty → List Answer
  left duties = lefts dealer config row is room duties

  -- what stands: what was done took effect
  record Kept (venue : AuditTrail) : Type 0 where
    pub took : TookEffect (known venue.facts) dealer (left (did_in venue me))

  -- what an action has to bring
  record Adds (h : Here) (effect : Effect) : Type 0 where
    pub mine : h.by ≡ me
        → Went dealer (known h.venue.facts) (known effect.facts) (left (doing_now h.venue h.by h.doing))
    pub others : is_same_actor h.by me ≡ false → changes_in dealer (known effect.facts) ≡ []

  module _ (h : Here) (effect : Effect) (adds : Adds h effect) (kept : Kept h.venue) where
    abbrev then_day : AuditTrail
    then_day = day h effect

    -- with what the dealer did
    with_more : (did : List Duty) → did_in then_day me ≡ did_in h.venue me ++ did
        → Went dealer (known h.venue.facts) (known effect.facts) (left did) → Kept then_day
    with_more did did_is went = record {
      took = subst (λ (l : List RoomFact). TookEffect l dealer (left (did_in then_day me)))
          (sym (room_grown room h.venue.facts effect.facts))
          (subst (TookEffect (known h.venue.facts ++ known effect.facts) dealer)
          (sym (ap (λ (l : List Duty). left l) did_is
          ∙ filter_map-append (change_of dealer config row is room) (did_in h.venue me) did))
          (took_more dealer (known h.venue.facts) (known effect.facts) (left (did_in h.venue me)) (left did)
          kept.took went));
    }

    kept_then : Kept then_day
    kept_then = elim (share h effect me) [
      | its_own one did_is left_is ↦ with_more (doing_now h.venue h.by h.doing) did_is (adds.mine one)
      | anothers differs did_is left_is ↦ with_more [] did_is (beside_it (adds.others differs) refl)
    ]

  -- A turn.

  module _ (venue : AuditTrail) (stood : VenueOk config venue) (kept : Kept venue)
      (fits : Fit None (left (duties_by me venue.caused))) (by : Actor) (d : Duty) (rest : List Duty)
      (waits : pending by venue ≡ d ∷ rest) where
    abbrev here : Here
    here = record { config = config; venue = venue; stood = stood; by = by; doing = turn d rest waits }

    abbrev brought : Effect
    brought = duty_effect config venue.facts by d

    -- a withdrawal is of the quote that stands in the room, while that goes on
    may_withdraw : by ≡ me → MayWithdraw dealer config row is room venue.facts d
    may_withdraw one word withdraws lives =
        let did = did_in venue me in
        let all : duties_by me venue.caused ≡ did ++ d ∷ rest =
        sym (take-append-drop (turns_of me venue.done) (duties_by me venue.caused))
        ∙ ap (λ (l : List Duty). did ++ l) (subst (λ (a : Actor). pending a venue ≡ d ∷ rest) one waits) in
        let took : left did ≡ changes_in dealer (known venue.facts) =
        kept.took.begins ∙ ap (λ (l : List Answer). changes_in dealer (known venue.facts) ++ l) (kept.took.whole lives)
        ∙ append-nil (changes_in dealer (known venue.facts)) in
        let items : left (duties_by me venue.caused)
        ≡ changes_in dealer (known venue.facts) ++ Withdraws word ∷ left rest =
        ap (λ (l : List Duty). left l) all
        ∙ filter_map-append (change_of dealer config row is room) did (d ∷ rest)
        ∙ ap (λ (l : List Answer). l ++ left (d ∷ rest)) took
        ∙ ap (λ (o : Option Answer). changes_in dealer (known venue.facts) ++ cons_option o (left rest)) withdraws in
        stands_there dealer word (known venue.facts)
        (fit_right None (changes_in dealer (known venue.facts)) (Withdraws word ∷ left rest)
        (subst (Fit None) items fits)).0

    turn_adds : Adds here brought
    turn_adds =
        let ok = pending_ok stood by d rest waits in
        let now_ok = ok.0 venue (later_same venue) in
        let fit = met stood by words d now_ok ok.1 in
        record {
          mine = λ one.
              turn_went dealer config row is room venue.facts venue refl by d now_ok fit one (may_withdraw one);
          others = λ differs. others_none dealer config row is room venue.facts by d differs;
        }

  turn_kept : (venue : AuditTrail) (stood : VenueOk config venue) → Fit None (left (duties_by me venue.caused))
      → (by : Actor) (duties : List Duty) → pending by venue ≡ duties → Kept venue
      → Kept (after_turn config by venue duties)
  turn_kept venue stood fits by [] waits kept = kept
  turn_kept venue stood fits by (d ∷ rest) waits kept =
      kept_then (here venue stood kept fits by d rest waits) (brought venue stood kept fits by d rest waits)
      (turn_adds venue stood kept fits by d rest waits) kept

  -- A message and a sweep.

  abbrev here_beside : (venue : AuditTrail) → VenueOk config venue → Actor → Here
  here_beside venue stood by =
      record { config = config; venue = venue; stood = stood; by = by; doing = beside }

  -- what brings the room nothing
  none_adds : (venue : AuditTrail) (stood : VenueOk config venue) (by : Actor) (effect : Effect)
      → changes_in dealer (known effect.facts) ≡ [] → Adds (here_beside venue stood by) effect
  none_adds venue stood by effect none = record { mine = λ one. beside_it none refl; others = λ differs. none }

  step_kept : (venue : AuditTrail) (stood : VenueOk config venue) → Fit None (left (duties_by me venue.caused))
      → (more : Step) → Kept venue → Kept (after_step config venue more)
  unfolding after_step
  step_kept venue stood fits (step.In firm moment bytes) kept =
      let effect = message_effect config venue.facts firm moment bytes in
      kept_then (here_beside venue stood (actor.Firm firm)) effect
      (none_adds venue stood (actor.Firm firm) effect
      (message_none dealer config row is room venue.facts firm moment bytes)) kept
  step_kept venue stood fits (step.Turn by) kept = turn_kept venue stood fits by (pending by venue) refl kept
  step_kept venue stood fits (step.Expire at moment) kept =
      let effect = sweep_effect config venue.facts at moment in
      kept_then (here_beside venue stood actor.Clock) effect
      (none_adds venue stood actor.Clock effect (sweep_none dealer config row is room venue.facts at moment)) kept

  -- After every list of steps.

  steps_kept : (before steps : List Step) → Kept (audit_trail config before)
      → Kept (audit_trail config (before ++ steps))
  steps_kept before [] kept = subst (λ (l : List Step). Kept (audit_trail config l)) (sym (append-nil before)) kept
  steps_kept before (more ∷ steps) kept =
      subst (λ (l : List Step). Kept (audit_trail config l)) (append_assoc before (more ∷ []) steps)
      (steps_kept (before ++ more ∷ []) steps
      (subst Kept (sym (one_more lone words config before more))
      (step_kept (audit_trail config before) (venue_ok lone words config before)
      (all_fit config dealer row is room lone words before) more kept)))

  start_kept : Kept (audit_trail config [])
  unfolding audit_trail of_room
  start_kept = record { took = record { rest = []; begins = refl; whole = λ lives. refl } }

  pub left_took : (steps : List Step) → NoDutyIsLeft (audit_trail config steps)
      → TookEffect (known (audit_trail config steps).facts) dealer (left (duties_by me (audit_trail config steps).caused))
  left_took steps idle =
      subst (TookEffect (known (audit_trail config steps).facts) dealer)
      (ap (λ (l : List Duty). left l) (did_all lone words config steps idle room me))
      (steps_kept [] steps start_kept).took

  pub all_took : (steps : List Step) → NoDutyIsLeft (audit_trail config steps)
      → TookEffect (known (audit_trail config steps).facts) dealer
      (answers_at config (dealer_of dealer row) room (of_dealer dealer (audit_trail config steps).facts))
  all_took steps idle =
      subst (TookEffect (known (audit_trail config steps).facts) dealer)
      (all_linked config dealer row is room lone words steps) (left_took steps idle)
