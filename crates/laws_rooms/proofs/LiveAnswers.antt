-- On a day whose steps come one by one, and leave no duty, all that stands at a dealer's desk took effect.
use Rattle.std.proofs.Common.{◌≡◌, ℕ, zero, suc, true, false, List, [], ◌∷◌, ◌++◌, replicate, Some, None}
use Rattle.std.proofs.Common.{refl, sym, ap, ◌∙◌, subst, inl, inr}
use Rattle.std.proofs.lemmas.Bool.{cases_Bool, false≢true}
use Rattle.std.proofs.lemmas.List.{append-nil, append_assoc}
use Rattle.std.proofs.lemmas.List.Elements.{filter_map-append}
use Rattle.market_terms.specs.declared.duties.Duty.{Duty}
use Rattle.market_terms.specs.declared.rooms.RoomRef.{RoomRef}
use Rattle.request_room.specs.RoomFacts.{RoomFact, end_of, is_ended, is_named, request_of}
use Rattle.venue_rows.specs.Rows.{Configuration, dealer_numbered}
use Rattle.venue_rows.specs.declared.dealer_rows.DealerRow.{DealerRow}
use Rattle.venue_steps.specs.Dealers.{Dealer, dealer_of}
use Rattle.venue_steps.specs.declared.actors.Actor.{Actor}
use Rattle.venue_steps.specs.declared.actors.Actor.TheVariants as actor
use Rattle.dealer_desk.specs.DealerOutput.{number_in}
use Rattle.step_replay.specs.Actions.{Effect}
use Rattle.step_replay.specs.AuditTrail.{AuditTrail, after_step, after_turn, audit_trail, is_same_actor, pending}
use Rattle.step_replay.specs.DealerTrail.{DealerEntry, facts_of, rooms_by}
use Rattle.step_replay.specs.DutyEffects.{duty_effect, message_effect, sweep_effect}
use Rattle.step_replay.specs.GrowthLemmas.{all_in, named_before}
use Rattle.step_replay.specs.Lists.{In}
use Rattle.step_replay.specs.LiveDays.{actor_of, live_steps, live_trail}
use Rattle.step_replay.specs.PlaceLemmas.{room_grown}
use Rattle.step_replay.specs.QueueLemmas.{one_actor, same_actor}
use Rattle.step_replay.specs.VenueFacts.{of_dealer, of_room}
use Rattle.step_replay.specs.declared.steps.Step.{Step}
use Rattle.step_replay.specs.declared.steps.Step.TheVariants as step
use Rattle.step_replay.specs.declared.steps.TheConstants.{MOST_TURNS_BEHIND}
use Rattle.laws_days.specs.LiveDuties.{NoDutyIsLeft}
use Rattle.laws_days.proofs.ListLemmas.{cases_some, slice_holds}
use Rattle.laws_days.proofs.LiveQuotes.{LoneQuotes}
use Rattle.laws_days.proofs.ShownRequests.{number_place}
use Rattle.laws_days.proofs.VenueDay.{venue_ok}
use Rattle.laws_days.proofs.VenueDesk.{WordsOfDay}
use Rattle.laws_days.proofs.VenueInvariant.{DeskOk, ShownTo, VenueOk}
use Rattle.laws_days.proofs.VenueKnown.{ended_in, ended_ready, pending_ok, ready_opened, rooms_shown}
use Rattle.laws_days.proofs.VenueParts.{Mark, MarkOk, Still, Telling, WasTold, closer, did_in, duties_by}
use Rattle.laws_days.proofs.VenueParts.{later_same, marks, told_later}
use Rattle.laws_days.proofs.VenueSteps.{Here, day, since}
use Rattle.laws_days.proofs.VenueTurns.{Doing, beside, turn}
use Rattle.laws_rooms.specs.Answered.{Answer, TookEffect, answers_at, answers_on, change_in, changes_in}
use Rattle.laws_rooms.specs.Tellings.{IsLive}
use Rattle.laws_rooms.proofs.AnswerDays.{left_took}
use Rattle.laws_rooms.proofs.ChangeLemmas.{change_of, lefts}
use Rattle.laws_rooms.proofs.DeskAnswers.{DealerFits, dealer_fits}
use Rattle.laws_rooms.proofs.EndLemmas.{ends_none, message_ends_none}
use Rattle.laws_rooms.proofs.LinkDays.{all_linked, none_by_message, none_by_turn}
use Rattle.laws_rooms.proofs.LiveParts.{all_steps, ends_nothing, first_nil, goes_on, nil_of}
use Rattle.laws_rooms.proofs.RoomLemmas.{did_all, one_more, some_of}
use Rattle.laws_rooms.proofs.TurnShares.{anothers, its_own, share}

module _ (lone : LoneQuotes) (words : WordsOfDay) (config : Configuration) (dealer : ℕ)
    (row : DealerRow) (is : dealer_numbered config dealer ≡ Some row) (room : RoomRef) where
  abbrev me : Actor
  me = actor.Firm dealer

  abbrev own : Dealer
  own = dealer_of dealer row

  abbrev left : List Duty → List Answer
  left duties = lefts dealer config row is room duties

  abbrev at : List Step → AuditTrail
  at steps = audit_trail config steps

  abbrev known : List Step → List RoomFact
  known steps = of_room room (at steps).facts

  abbrev trail : List Step → List DealerEntry
  trail steps = of_dealer dealer (at steps).facts

  -- what was left for the room
  abbrev lot : List Step → List Answer
  lot steps = left (duties_by me (at steps).caused)

  stood : (steps : List Step) → VenueOk config (at steps)
  stood steps = venue_ok lone words config steps

  fits : (steps : List Step) (request : ℕ) → DealerFits config own request (facts_of (trail steps))
  fits steps request = dealer_fits config own request dealer row is steps

  abbrev here : (steps : List Step) (by : Actor) → Doing (at steps) by → Here
  here steps by doing = record { config = config; venue = at steps; stood = stood steps; by = by; doing = doing }

  -- A step.

  data Happens (steps : List Step) (more : Step) : Type 0 where
    nothing_more : at (steps ++ more ∷ []) ≡ at steps → Happens steps more
    turned : (d : Duty) (rest : List Duty) (waits : pending (actor_of more) (at steps) ≡ d ∷ rest)
        → at (steps ++ more ∷ []) ≡ day (here steps (actor_of more) (turn d rest waits))
        (duty_effect config (at steps).facts (actor_of more) d) → Happens steps more
    came : (firm moment : ℕ) (bytes : List ℕ) → more ≡ step.In firm moment bytes
        → at (steps ++ more ∷ []) ≡ day (here steps (actor.Firm firm) beside)
        (message_effect config (at steps).facts firm moment bytes) → Happens steps more
    swept : (place : RoomRef) (moment : ℕ) → more ≡ step.Expire place moment
        → at (steps ++ more ∷ []) ≡ day (here steps actor.Clock beside)
        (sweep_effect config (at steps).facts place moment) → Happens steps more

  happens : (steps : List Step) (more : Step) → Happens steps more
  unfolding after_step
  happens steps (step.In firm moment bytes) =
      came firm moment bytes refl (one_more lone words config steps (step.In firm moment bytes))
  happens steps (step.Turn by) =
      by_queue (pending by (at steps)) refl (one_more lone words config steps (step.Turn by))
    where
      by_queue : (duties : List Duty) → pending by (at steps) ≡ duties
          → at (steps ++ step.Turn by ∷ []) ≡ after_turn config by (at steps) (pending by (at steps))
          → Happens steps (step.Turn by)
      by_queue [] waits is_day = nothing_more (is_day ∙ ap (after_turn config by (at steps)) waits)
      by_queue (d ∷ rest) waits is_day =
          turned d rest waits (is_day ∙ ap (after_turn config by (at steps)) waits)
  happens steps (step.Expire place moment) =
      swept place moment refl (one_more lone words config steps (step.Expire place moment))

  -- what the day has of the dealer
  abbrev lot_of : AuditTrail → List Answer
  lot_of venue = left (duties_by me venue.caused)

  not_mine : (h : Here) (effect : Effect) → is_same_actor h.by me ≡ false
      → lot_of (day h effect) ≡ lot_of h.venue
  not_mine h effect differs = elim (share h effect me) [
    | its_own one did_is left_is ↦
        absurd (false≢true (sym differs ∙ ap (λ (a : Actor). is_same_actor a me) one ∙ same_actor me))
    | anothers apart did_is left_is ↦
        ap (λ (l : List Duty). left l) (left_is ∙ append-nil (duties_by me h.venue.caused))
  ]

  leaves_none : (h : Here) (effect : Effect) → left effect.duties ≡ [] → lot_of (day h effect) ≡ lot_of h.venue
  leaves_none h effect none = elim (share h effect me) [
    | its_own one did_is left_is ↦
        ap (λ (l : List Duty). left l) left_is
        ∙ filter_map-append (change_of dealer config row is room) (duties_by me h.venue.caused) effect.duties
        ∙ ap (λ (l : List Answer). lot_of h.venue ++ l) none ∙ append-nil (lot_of h.venue)
    | anothers apart did_is left_is ↦
        ap (λ (l : List Duty). left l) (left_is ∙ append-nil (duties_by me h.venue.caused))
  ]

  -- a step of another actor leaves nothing
  same_lot : (steps : List Step) (more : Step) → is_same_actor (actor_of more) me ≡ false
      → lot (steps ++ more ∷ []) ≡ lot steps
  same_lot steps more differs = elim (happens steps more) [
    | nothing_more same ↦ ap lot_of same
    | turned d rest waits is_day ↦
        ap lot_of is_day ∙ not_mine (here steps (actor_of more) (turn d rest waits))
        (duty_effect config (at steps).facts (actor_of more) d) differs
    | came firm moment bytes more_is is_day ↦
        ap lot_of is_day ∙ not_mine (here steps (actor.Firm firm) beside)
        (message_effect config (at steps).facts firm moment bytes)
        (ap (λ (s : Step). is_same_actor (actor_of s) me) (sym more_is) ∙ differs)
    | swept place moment more_is is_day ↦
        ap lot_of is_day ∙ not_mine (here steps actor.Clock beside)
        (sweep_effect config (at steps).facts place moment) refl
  ]

  -- facts are only added
  abbrev Grows : List Step → List Step → Type 0
  Grows before after = (added : List RoomFact) × (known after ≡ known before ++ added)

  grows : (steps : List Step) (more : Step) → Grows steps (steps ++ more ∷ [])
  grows steps more = elim (happens steps more) [
    | nothing_more same ↦
        ([], ap (λ (venue : AuditTrail). of_room room venue.facts) same ∙ sym (append-nil (known steps)))
    | turned d rest waits is_day ↦
        (let effect = duty_effect config (at steps).facts (actor_of more) d in (
          of_room room effect.facts,
          ap (λ (venue : AuditTrail). of_room room venue.facts) is_day
              ∙ room_grown room (at steps).facts effect.facts,
        ))
    | came firm moment bytes more_is is_day ↦
        (let effect = message_effect config (at steps).facts firm moment bytes in (
          of_room room effect.facts,
          ap (λ (venue : AuditTrail). of_room room venue.facts) is_day
              ∙ room_grown room (at steps).facts effect.facts,
        ))
    | swept place moment more_is is_day ↦
        (let effect = sweep_effect config (at steps).facts place moment in (
          of_room room effect.facts,
          ap (λ (venue : AuditTrail). of_room room venue.facts) is_day
              ∙ room_grown room (at steps).facts effect.facts,
        ))
  ]

  grows_both : (one two three : List Step) → Grows one two → Grows two three → Grows one three
  grows_both one two three first second = (
    first.0 ++ second.0,
    second.1 ∙ ap (λ (l : List RoomFact). l ++ second.0) first.1 ∙ append_assoc (known one) first.0 second.0,
  )

  -- a step of the dealer ends no room
  lives_on : (steps : List Step) (more : Step) → actor_of more ≡ me → is_ended (known steps) ≡ false
      → is_ended (known (steps ++ more ∷ [])) ≡ false
  lives_on steps more one lives = elim (happens steps more) [
    | nothing_more same ↦ ap (λ (venue : AuditTrail). is_ended (of_room room venue.facts)) same ∙ lives
    | turned d rest waits is_day ↦
        (let ok = (pending_ok (stood steps) (actor_of more) d rest waits).0 (at steps) (later_same (at steps)) in
        ap (λ (venue : AuditTrail). is_ended (of_room room venue.facts)) is_day
        ∙ goes_on room (at steps).facts (duty_effect config (at steps).facts (actor_of more) d).facts lives
        (ends_none config (at steps).facts room (actor_of more) d
        (ends_nothing config dealer row is (at steps) (stood steps) (actor_of more) d ok one)))
    | came firm moment bytes more_is is_day ↦
        ap (λ (venue : AuditTrail). is_ended (of_room room venue.facts)) is_day
        ∙ goes_on room (at steps).facts (message_effect config (at steps).facts firm moment bytes).facts lives
        (message_ends_none config (at steps).facts room firm moment bytes)
    | swept place moment more_is is_day ↦
        (let clash : actor.Clock ≡ me = sym (ap actor_of more_is) ∙ one in
        cc)
  ]

  own_firm : (one other : ℕ) → actor.Firm one ≡ actor.Firm other → one ≡ other
  own_firm one other same = ap number_of same
    where
      number_of : Actor → ℕ
      number_of (actor.Firm number) = number
      number_of actor.Clock = 0

  -- where its notice was told the dealer leaves nothing
  abbrev Told : List Step → Type 0
  Told steps = WasTold (at steps).facts dealer room

  told_on : (steps : List Step) (h : Here) (effect : Effect) (more : Step) → h.venue ≡ at steps
      → at (steps ++ more ∷ []) ≡ day h effect → Told steps → Told (steps ++ more ∷ [])
  told_on steps h effect more was is_day told =
      subst (λ (venue : AuditTrail). WasTold venue.facts dealer room) (sym is_day)
      (told_later (since h effect) dealer room
      (subst (λ (venue : AuditTrail). WasTold venue.facts dealer room) (sym was) told))

  told_lot : (steps : List Step) (more : Step) → actor_of more ≡ me → Told steps
      → (lot (steps ++ more ∷ []) ≡ lot steps) × Told (steps ++ more ∷ [])
  told_lot steps more one told = elim (happens steps more) [
    | nothing_more same ↦
        (ap lot_of same, subst (λ (venue : AuditTrail). WasTold venue.facts dealer room) (sym same) told)
    | turned d rest waits is_day ↦
        (let h = here steps (actor_of more) (turn d rest waits) in
        let effect = duty_effect config (at steps).facts (actor_of more) d in (
          ap lot_of is_day ∙ leaves_none h effect (none_by_turn config dealer row is room (at steps).facts desk
              (fits steps) told.request told.request_is told.told (actor_of more) d one),
          told_on steps h effect more refl is_day told,
        ))
    | came firm moment bytes more_is is_day ↦
        (let h = here steps (actor.Firm firm) beside in
        let effect = message_effect config (at steps).facts firm moment bytes in
        let firm_is : firm ≡ dealer = own_firm firm dealer (sym (ap actor_of more_is) ∙ one) in (
          ap lot_of is_day ∙ leaves_none h effect
              (subst (λ (n : ℕ). left (message_effect config (at steps).facts n moment bytes).duties ≡ []) (sym firm_is)
              (none_by_message config dealer row is room (at steps).facts desk (fits steps) told.request told.request_is
              told.told moment bytes)),
          told_on steps h effect more refl is_day told,
        ))
    | swept place moment more_is is_day ↦
        (let clash : actor.Clock ≡ me = sym (ap actor_of more_is) ∙ one in
        cc)
  ]
    where
      desk : DeskOk config (at steps).facts dealer row
      desk = (stood steps).desks dealer row is

  -- A step, and the turns behind it.

  module _ (acts : Actor) (Q : List Step → Type 0)
      (push : (steps : List Step) (more : Step) → actor_of more ≡ acts → Q steps → Q (steps ++ more ∷ [])) where
    turns_behind : (steps : List Step) (count : ℕ) → Q steps → Q (steps ++ replicate count (step.Turn acts))
    turns_behind steps zero stands = subst Q (sym (append-nil steps)) stands
    turns_behind steps (suc count) stands =
        subst Q (append_assoc steps (step.Turn acts ∷ []) (replicate count (step.Turn acts)))
        (turns_behind (steps ++ step.Turn acts ∷ []) count (push steps (step.Turn acts) refl stands))

  through : (Q : List Step → Type 0) (steps : List Step) (next : Step)
      → ((before : List Step) (more : Step) → actor_of more ≡ actor_of next → Q before → Q (before ++ more ∷ []))
      → Q (live_steps steps) → Q (live_steps (steps ++ next ∷ []))
  through Q steps next push stands =
      subst Q (sym (all_steps steps next))
      (turns_behind (actor_of next) Q push (live_steps steps ++ next ∷ []) MOST_TURNS_BEHIND
      (push (live_steps steps) next refl stands))

  -- A day.

  -- all that was left took effect
  abbrev Even : List Step → Type 0
  Even steps = lot steps ≡ changes_in dealer (known steps)

  -- where a room has ended, a dealer that it names was told so
  told_idle : (steps : List Step) → NoDutyIsLeft (at steps) → is_ended (known steps) ≡ true
      → is_named (known steps) dealer ≡ true → Told steps
  told_idle steps idle ended named =
      let end = some_of (end_of (known steps)) ended in
      let by = closer end.0.kind room in
      let there : In (Telling dealer room) (marks (did_in (at steps) by)) =
      subst (λ (l : List Duty). In (Telling dealer room) (marks l)) (sym (did_all lone words config steps idle room by))
      ((ended_in (stood steps) room end.0 end.1).told dealer named) in
      all_in (λ (mark : Mark). Still (MarkOk mark) (at steps)) (Telling dealer room) (marks (did_in (at steps) by))
      ((stood steps).queues by).done there (at steps) (later_same (at steps))

  -- whom a room was shown it names
  shown_named : (steps : List Step) (request : ℕ) → number_in (rooms_by (trail steps)) room ≡ Some request
      → is_named (known steps) dealer ≡ true
  shown_named steps request asked =
      let place = number_place 1 (rooms_by (trail steps)) room request asked in
      (slice_holds (λ (r : RoomRef). ShownTo config dealer r (at steps)) (rooms_by (trail steps)) place.0 room place.2
      (rooms_shown (stood steps) dealer)).2.ok.named

  module _ (steps : List Step) (next : Step) (idle : NoDutyIsLeft (live_trail config steps))
      (idle_then : NoDutyIsLeft (live_trail config (steps ++ next ∷ []))) (even : Even (live_steps steps)) where
    abbrev before : List Step
    before = live_steps steps

    abbrev after : List Step
    after = live_steps (steps ++ next ∷ [])

    took : TookEffect (known after) dealer (lot after)
    took = left_took lone words config dealer row is room after idle_then

    grown : Grows before after
    grown = through (Grows before) steps next
        (λ some more one so_far. grows_both before some (some ++ more ∷ []) so_far (grows some more))
        ([], sym (append-nil (known before)))

    -- where nothing was left
    even_still : lot after ≡ lot before → Even after
    even_still same =
        let more = changes_in dealer grown.0 in
        let now : changes_in dealer (known after) ≡ changes_in dealer (known before) ++ more =
        ap (changes_in dealer) grown.1 ∙ filter_map-append (change_in dealer) (known before) grown.0 in
        let none : more ++ took.rest ≡ [] =
        nil_of (changes_in dealer (known before)) (more ++ took.rest)
        (sym (append_assoc (changes_in dealer (known before)) more took.rest)
        ∙ ap (λ (l : List Answer). l ++ took.rest) (sym now) ∙ sym took.begins ∙ same ∙ even) in
        same ∙ even ∙ sym (now
        ∙ ap (λ (l : List Answer). changes_in dealer (known before) ++ l) (first_nil more took.rest none)
        ∙ append-nil (changes_in dealer (known before)))

    -- where nothing stands at the desk
    even_none : number_in (rooms_by (trail after)) room ≡ None → Even after
    even_none unasked =
        let none : lot after ≡ [] =
        all_linked config dealer row is room lone words after
        ∙ ap (answers_on config own (facts_of (trail after))) unasked in
        none ∙ sym (first_nil (changes_in dealer (known after)) took.rest (sym took.begins ∙ none))

    named_already : is_ended (known before) ≡ true → is_named (known after) dealer ≡ true
        → is_named (known before) dealer ≡ true
    named_already ended named =
        let request = some_of (request_of (known before))
        (ready_opened (stood before) room (ended_ready (stood before) room ended)) in
        named_before (known before) grown.0 request.0 dealer request.1
        (subst (λ (l : List RoomFact). is_named l dealer ≡ true) grown.1 named)

    by_other : is_same_actor (actor_of next) me ≡ false → Even after
    by_other differs =
        even_still (through (λ (some : List Step). lot some ≡ lot before) steps next
        (λ some more one so_far. same_lot some more
        (ap (λ (a : Actor). is_same_actor a me) one ∙ differs) ∙ so_far) refl)

    by_dealer : actor_of next ≡ me → Even after
    by_dealer one = elim (cases_Bool (is_ended (known before))) [
      | inr lives ↦
          (let still = through (λ (some : List Step). is_ended (known some) ≡ false) steps next
          (λ some more same so_far. lives_on some more (same ∙ one) so_far) lives in
          took.begins ∙ ap (λ (l : List Answer). changes_in dealer (known after) ++ l) (took.whole still)
          ∙ append-nil (changes_in dealer (known after)))
      | inl ended ↦ elim (cases_some (number_in (rooms_by (trail after)) room)) [
        | inl unasked ↦ even_none unasked
        | inr asked ↦
            (let named = named_already ended (shown_named after asked.0 asked.1) in
            even_still (through (λ (some : List Step). (lot some ≡ lot before) × Told some) steps next
            (λ some more same so_far.
            let then_told = told_lot some more (same ∙ one) so_far.1 in
            (then_told.0 ∙ so_far.0, then_told.1))
            (refl, told_idle before idle ended named)).0)
      ]
    ]

    next_even : Even after
    next_even = elim (cases_Bool (is_same_actor (actor_of next) me)) [
      | inl same ↦ by_dealer (one_actor (actor_of next) me same)
      | inr differs ↦ by_other differs
    ]

  steps_even : (before steps : List Step) → IsLive config (before ++ steps) → Even (live_steps before)
      → Even (live_steps (before ++ steps))
  steps_even before [] live even = subst (λ (l : List Step). Even (live_steps l)) (sym (append-nil before)) even
  steps_even before (next ∷ steps) live even =
      subst (λ (l : List Step). Even (live_steps l)) (append_assoc before (next ∷ []) steps)
      (steps_even (before ++ next ∷ []) steps
      (subst (IsLive config) (sym (append_assoc before (next ∷ []) steps)) live)
      (next_even before next (live before (next ∷ steps) refl)
      (live (before ++ next ∷ []) steps (sym (append_assoc before (next ∷ []) steps))) even))

  start_even : Even (live_steps [])
  unfolding audit_trail of_room
  start_even = refl

  pub all_even : (steps : List Step) → IsLive config steps
      → answers_at config own room (of_dealer dealer (live_trail config steps).facts)
      ≡ changes_in dealer (of_room room (live_trail config steps).facts)
  all_even steps live =
      sym (all_linked config dealer row is room lone words (live_steps steps)) ∙ steps_even [] steps live start_even
