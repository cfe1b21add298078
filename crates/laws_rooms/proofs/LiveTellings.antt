-- On a day whose steps come one by one, and leave no duty, each answer of a dealer is told.
use Rattle.std.proofs.Common.{◌≡◌, ℕ, true, false, List, [], ◌∷◌, ◌++◌, Some}
use Rattle.std.proofs.Common.{None, refl, sym, ap, ◌∙◌, subst, inl, inr, ◌⊎◌, suc, zero, replicate}
use Rattle.std.proofs.lemmas.Bool.{false≢true}
use Rattle.std.proofs.lemmas.List.{append-nil, take-append-drop, append_assoc}
use Rattle.std.proofs.lemmas.List.Elements.{filter_map-append}
use Rattle.market_terms.specs.declared.duties.Duty.{Duty}
use Rattle.market_terms.specs.declared.rooms.RoomRef.{RoomRef}
use Rattle.request_room.specs.RoomFacts.{RoomFact, is_ended}
use Rattle.venue_rows.specs.Rows.{Configuration, KeepsLimits, dealer_numbered, investor_numbered}
use Rattle.venue_rows.specs.declared.dealer_rows.DealerRow.{DealerRow}
use Rattle.venue_rows.specs.declared.investor_rows.InvestorRow.{InvestorRow}
use Rattle.venue_steps.specs.declared.actors.Actor.{Actor}
use Rattle.venue_steps.specs.declared.actors.Actor.TheVariants as actor
use Rattle.investor_desk.specs.InvestorDesk.{market_of}
use Rattle.investor_desk.specs.InvestorFacts.{request_numbered}
use Rattle.step_replay.specs.Actions.{Effect}
use Rattle.step_replay.specs.AuditTrail.{AuditTrail, after_turn, is_same_actor, pending, after_step}
use Rattle.step_replay.specs.AuditTrail.{audit_trail}
use Rattle.step_replay.specs.DutyEffects.{duty_effect, message_effect, sweep_effect}
use Rattle.step_replay.specs.InvestorTrail.{InvestorEntry, facts_of}
use Rattle.step_replay.specs.Lists.{Every}
use Rattle.step_replay.specs.QueueLemmas.{same_actor}
use Rattle.step_replay.specs.VenueFacts.{Fact, of_investor, of_room}
use Rattle.laws_shown.proofs.ShownDay.{DayOk, day_ok}
use Rattle.laws_days.proofs.ConditionMet.{met}
use Rattle.laws_days.proofs.LiveQuotes.{LoneQuotes}
use Rattle.laws_days.proofs.VenueDesk.{WordsOfDay}
use Rattle.laws_days.proofs.VenueInvariant.{VenueOk}
use Rattle.laws_days.proofs.VenueKnown.{pending_ok}
use Rattle.laws_days.proofs.VenueParts.{did_in, duties_by, later_same}
use Rattle.laws_days.proofs.VenueSteps.{Here, day}
use Rattle.laws_days.proofs.VenueTurns.{beside, doing_now, turn, turns_of}
use Rattle.laws_rooms.specs.Answered.{Answer, changes_in}
use Rattle.laws_rooms.specs.Tellings.{AreAllTold, AreAllToldInTurn, IsLive, TellAll, TellQuotes, as_told}
use Rattle.laws_rooms.proofs.EndLemmas.{NoEnding, ends_none, message_ends_none}
use Rattle.laws_rooms.proofs.FollowLemmas.{TakesOpen, mine_follows, mine_opens, tellings, tells_of}
use Rattle.laws_rooms.proofs.GoneDays.{desk_fits}
use Rattle.laws_rooms.proofs.ShutLemmas.{shut_in}
use Rattle.laws_rooms.proofs.TellingDays.{all_kept, done_fits, gone_ok, shown_ok}
use Rattle.laws_rooms.proofs.TellingLemmas.{Brings, DeskFits, GoneOk, Heard, Hears, duly, heard_still, heard_then}
use Rattle.laws_rooms.proofs.TellingLemmas.{idly, message_brings, mine_brings, others_bring, sweep_brings, vainly}
use Rattle.laws_rooms.proofs.TurnLists.{Fit, plain_changes, plains}
use Rattle.laws_rooms.proofs.TurnShares.{anothers, its_own, share}
use Rattle.step_replay.specs.LiveDays.{actor_of, live_steps, live_trail}
use Rattle.step_replay.specs.declared.steps.Step.{Step}
use Rattle.step_replay.specs.declared.steps.Step.TheVariants as step
use Rattle.step_replay.specs.declared.steps.TheConstants.{MOST_TURNS_BEHIND}
use Rattle.laws_days.specs.LiveDuties.{NoDutyIsLeft}
use Rattle.laws_days.proofs.VenueDay.{venue_ok}
use Rattle.laws_rooms.proofs.ClosedDays.{shut_ended}
use Rattle.laws_rooms.proofs.LiveParts.{all_steps, ends_nothing, first_nil, goes_on, nil_of}
use Rattle.laws_rooms.proofs.RoomLemmas.{did_all, one_more}

module _ (lone : LoneQuotes) (words : WordsOfDay) (config : Configuration) (dealer : ℕ)
    (row : DealerRow) (is : dealer_numbered config dealer ≡ Some row) (room : RoomRef) (investor : InvestorRow)
    (is_investor : investor_numbered config room.investor ≡ Some investor)
    (untold : (facts : List Fact) (firm moment : ℕ) (bytes : List ℕ)
    → tellings dealer config row is room (message_effect config facts firm moment bytes).duties ≡ []) where
  abbrev me : Actor
  me = actor.Firm dealer

  abbrev known : List Fact → List RoomFact
  known facts = of_room room facts

  abbrev trail : List Fact → List InvestorEntry
  trail facts = of_investor room.investor facts

  abbrev telling : List Duty → List Answer
  telling duties = tellings dealer config row is room duties

  abbrev BringsOf : List Fact → List Fact → List Answer → Type 0
  BringsOf facts added items = Brings dealer config row is room investor is_investor facts added items

  -- what these facts tell, and what is added behind them
  abbrev HeardOf : List Fact → List Answer → Type 0
  HeardOf facts told = Heard dealer config row is room investor is_investor facts told

  abbrev HearsOf : List Fact → List Fact → List Answer → Type 0
  HearsOf facts added items = Hears dealer config row is room investor is_investor facts added items

  telling_both : (duties more : List Duty) → telling (duties ++ more) ≡ telling duties ++ telling more
  telling_both duties more = filter_map-append (tells_of dealer config row is room) duties more

  -- all that is left was done, or the room goes on
  abbrev Waits : AuditTrail → Type 0
  Waits venue = (telling (duties_by me venue.caused) ≡ telling (did_in venue me))
      ⊎ (is_ended (known venue.facts) ≡ false)

  -- what stands while an actor acts: no other has a duty, and all that was done was told
  record Live (acts : Actor) (venue : AuditTrail) : Type 0 where
    pub idle : (other : Actor) → is_same_actor acts other ≡ false
        → did_in venue other ≡ duties_by other venue.caused
    pub all : HeardOf venue.facts (telling (did_in venue me))
    pub waits : Waits venue

  -- what brings nothing tells nothing
  brings_none : (facts added : List Fact) → BringsOf facts added [] → HearsOf facts added []
  brings_none facts added (idly none no_items) = none
  brings_none facts added (duly tell live) = tell
  brings_none facts added (vainly none closed) = none

  -- what is done while the request is open is told
  brings_all : (facts added : List Fact) (items : List Answer)
      → (shut_in room.n (facts_of (trail facts)) ≡ true → items ≡ []) → BringsOf facts added items
      → HearsOf facts added items
  brings_all facts added items open_yet (idly none no_items) =
      subst (λ (l : List Answer). HearsOf facts added l) (sym no_items) none
  brings_all facts added items open_yet (duly tell live) = tell
  brings_all facts added items open_yet (vainly none closed) =
      subst (λ (l : List Answer). HearsOf facts added l) (sym (open_yet closed)) none

  -- what an action has to bring
  record Adds (h : Here) (effect : Effect) : Type 0 where
    pub mine : h.by ≡ me → HearsOf h.venue.facts effect.facts (telling (doing_now h.venue h.by h.doing))
        × Waits (day h effect)
    pub others : is_same_actor h.by me ≡ false → HearsOf h.venue.facts effect.facts []

  -- what was done fits
  abbrev DoneFits : AuditTrail → Type 0
  DoneFits venue = Fit None (telling (did_in venue me))

  module _ (h : Here) (effect : Effect) (adds : Adds h effect) (live : Live h.by h.venue)
      (fits : DoneFits (day h effect)) where
    abbrev then_day : AuditTrail
    then_day = day h effect

    idle_then : (other : Actor) → is_same_actor h.by other ≡ false
        → did_in then_day other ≡ duties_by other then_day.caused
    idle_then other differs = elim (share h effect other) [
      | its_own one did_is left_is ↦ absurd (false≢true (sym differs
          ∙ ap (λ (a : Actor). is_same_actor a other) one ∙ same_actor other))
      | anothers apart did_is left_is ↦
          did_is ∙ ap (λ (l : List Duty). l ++ []) (live.idle other differs) ∙ sym left_is
    ]

    all_then : HeardOf then_day.facts (telling (did_in then_day me))
    all_then = elim (share h effect me) [
      | its_own one did_is left_is ↦
          (let doing = doing_now h.venue h.by h.doing in
          let both : telling (did_in then_day me) ≡ telling (did_in h.venue me) ++ telling doing =
          ap (λ (l : List Duty). telling l) did_is ∙ telling_both (did_in h.venue me) doing in
          subst (λ (l : List Answer). HeardOf then_day.facts l) (sym both)
          (heard_then dealer config row is room investor is_investor h.venue.facts effect.facts
          (telling (did_in h.venue me)) (telling doing) (subst (Fit None) both fits) live.all (adds.mine one).0))
      | anothers differs did_is left_is ↦
          (let same : telling (did_in then_day me) ≡ telling (did_in h.venue me) =
          ap (λ (l : List Duty). telling l) (did_is ∙ append-nil (did_in h.venue me)) in
          subst (λ (l : List Answer). HeardOf then_day.facts l) (sym same)
          (heard_still dealer config row is room investor is_investor h.venue.facts effect.facts
          (telling (did_in h.venue me)) (subst (Fit None) same fits) live.all (adds.others differs)))
    ]

    waits_then : Waits then_day
    waits_then = elim (share h effect me) [
      | its_own one did_is left_is ↦ (adds.mine one).1
      | anothers differs did_is left_is ↦
          inl (ap (λ (l : List Duty). telling l) (sym (idle_then me differs)))
    ]

    live_then : Live h.by then_day
    live_then = record { idle = idle_then; all = all_then; waits = waits_then }

  -- A turn.

  module _ (venue : AuditTrail) (stood : VenueOk config venue) (showed : DayOk config venue)
      (closes_so : shut_in room.n (facts_of (trail venue.facts)) ≡ true → is_ended (known venue.facts) ≡ true)
      (desk : DeskFits dealer config row is room investor is_investor venue.facts)
      (gones : (a : Actor) → Every (GoneOk config a) (duties_by a venue.caused))
      (by : Actor) (d : Duty) (rest : List Duty) (waits : pending by venue ≡ d ∷ rest) where
    abbrev here : Here
    here = record { config = config; venue = venue; stood = stood; by = by; doing = turn d rest waits }

    abbrev brought : Effect
    brought = duty_effect config venue.facts by d

    module _ (one : by ≡ me) (live : Live by venue) where
      -- where all that was left was told, this duty tells nothing
      no_items : telling (duties_by me venue.caused) ≡ telling (did_in venue me) → telling (d ∷ []) ≡ []
      no_items same =
          let queue : duties_by me venue.caused ≡ did_in venue me ++ d ∷ rest =
          sym (take-append-drop (turns_of me venue.done) (duties_by me venue.caused))
          ∙ ap (λ (l : List Duty). did_in venue me ++ l)
          (subst (λ (a : Actor). pending a venue ≡ d ∷ rest) one waits) in
          let none : telling (d ∷ rest) ≡ [] =
          nil_of (telling (did_in venue me)) (telling (d ∷ rest))
          (sym (ap (λ (l : List Duty). telling l) queue ∙ telling_both (did_in venue me) (d ∷ rest)) ∙ same) in
          first_nil (telling (d ∷ [])) (telling rest) (sym (telling_both (d ∷ []) rest) ∙ none)

      open_yet : shut_in room.n (facts_of (trail venue.facts)) ≡ true → telling (d ∷ []) ≡ []
      open_yet closed = elim live.waits [
        | inl same ↦ no_items same
        | inr lives ↦ absurd (false≢true (sym lives ∙ closes_so closed))
      ]

      -- the room goes on, where it did
      on_then : is_ended (known venue.facts) ≡ false → NoEnding d
          → is_ended (known (venue.facts ++ brought.facts)) ≡ false
      on_then lives isnt =
          goes_on room venue.facts brought.facts lives (ends_none config venue.facts room by d isnt)

      -- with what is left and done more
      module _ (did_is : did_in (day here brought) me ≡ did_in venue me ++ d ∷ [])
          (left_is : duties_by me (day here brought).caused ≡ duties_by me venue.caused ++ brought.duties) where
        none_left : telling brought.duties ≡ [] → NoEnding d → Waits (day here brought)
        none_left none isnt = elim live.waits [
          | inr lives ↦ inr (on_then lives isnt)
          | inl same ↦ inl (ap (λ (l : List Duty). telling l) left_is
              ∙ telling_both (duties_by me venue.caused) brought.duties
              ∙ ap (λ (l : List Answer). telling (duties_by me venue.caused) ++ l) none
              ∙ append-nil (telling (duties_by me venue.caused)) ∙ same
              ∙ sym (append-nil (telling (did_in venue me)))
              ∙ ap (λ (l : List Answer). telling (did_in venue me) ++ l) (sym (no_items same))
              ∙ sym (telling_both (did_in venue me) (d ∷ []))
              ∙ sym (ap (λ (l : List Duty). telling l) did_is))
        ]

        by_opens : TakesOpen dealer config row is room venue.facts brought
            → telling brought.duties ≡ changes_in dealer (known brought.facts) → NoEnding d
            → Waits (day here brought)
        by_opens (inl none) follows isnt = none_left (follows ∙ none) isnt
        by_opens (inr lives) follows isnt = inr (on_then lives isnt)

    turn_adds : Live by venue → Adds here brought
    turn_adds live =
        let fits = pending_ok stood by d rest waits in
        let ok = fits.0 venue (later_same venue) in
        let fit = met stood by words d ok fits.1 in
        let shows = shown_ok lone words config dealer row is room investor is_investor venue stood showed by d rest
        waits in
        let gone = gone_ok lone words config dealer row is room investor is_investor venue stood showed by d rest
        waits gones in
        record {
          mine = λ one. (
            brings_all venue.facts brought.facts (telling (d ∷ [])) (open_yet one live)
                (mine_brings dealer config row is room investor is_investor venue.facts desk by d shows gone fit one),
            elim (share here brought me) [
              | its_own same did_is left_is ↦
                  by_opens one live did_is left_is
                  (mine_opens dealer config row is room venue.facts venue refl by d ok fit one)
                  (mine_follows dealer config row is room venue.facts by d one).same
                  (ends_nothing config dealer row is venue stood by d ok one)
              | anothers differs did_is left_is ↦ absurd (false≢true (sym differs
                  ∙ ap (λ (a : Actor). is_same_actor a me) one ∙ same_actor me))
            ],
          );
          others = λ differs. brings_none venue.facts brought.facts
              (others_bring dealer config row is room investor is_investor venue.facts desk by d shows gone fit differs);
        }

  turn_live : (venue : AuditTrail) (stood : VenueOk config venue) (showed : DayOk config venue)
      → (shut_in room.n (facts_of (trail venue.facts)) ≡ true → is_ended (known venue.facts) ≡ true)
      → DeskFits dealer config row is room investor is_investor venue.facts
      → ((a : Actor) → Every (GoneOk config a) (duties_by a venue.caused))
      → (by : Actor) (duties : List Duty) → pending by venue ≡ duties
      → DoneFits (after_turn config by venue duties) → Live by venue
      → Live by (after_turn config by venue duties)
  turn_live venue stood showed closes_so desk gones by [] waits fits live = live
  turn_live venue stood showed closes_so desk gones by (d ∷ rest) waits fits live =
      live_then (here venue stood showed closes_so desk gones by d rest waits)
      (brought venue stood showed closes_so desk gones by d rest waits)
      (turn_adds venue stood showed closes_so desk gones by d rest waits live) live fits

  -- A message and a sweep.

  abbrev here_beside : (venue : AuditTrail) → VenueOk config venue → Actor → Here
  here_beside venue stood by =
      record { config = config; venue = venue; stood = stood; by = by; doing = beside }

  message_live : (venue : AuditTrail) (stood : VenueOk config venue) (firm moment : ℕ) (bytes : List ℕ)
      → DoneFits
      (day (here_beside venue stood (actor.Firm firm)) (message_effect config venue.facts firm moment bytes))
      → Live (actor.Firm firm) venue
      → Live (actor.Firm firm)
      (day (here_beside venue stood (actor.Firm firm)) (message_effect config venue.facts firm moment bytes))
  message_live venue stood firm moment bytes fits live =
      live_then acts effect (record { mine = λ one. (tells, waits one); others = λ differs. tells }) live fits
    where
      effect : Effect
      effect = message_effect config venue.facts firm moment bytes

      acts : Here
      acts = here_beside venue stood (actor.Firm firm)

      tells : HearsOf venue.facts effect.facts []
      tells = brings_none venue.facts effect.facts
          (message_brings dealer config row is room investor is_investor venue.facts firm moment bytes)

      waits : actor.Firm firm ≡ me → Waits (day acts effect)
      waits one = elim (share acts effect me) [
        | anothers differs did_is left_is ↦ absurd (false≢true (sym differs
            ∙ ap (λ (a : Actor). is_same_actor a me) one ∙ same_actor me))
        | its_own same did_is left_is ↦ elim live.waits [
          | inr lives ↦ inr (goes_on room venue.facts effect.facts lives
              (message_ends_none config venue.facts room firm moment bytes))
          | inl done ↦ inl (ap (λ (l : List Duty). telling l) left_is
              ∙ telling_both (duties_by me venue.caused) effect.duties
              ∙ ap (λ (l : List Answer). telling (duties_by me venue.caused) ++ l)
              (untold venue.facts firm moment bytes)
              ∙ append-nil (telling (duties_by me venue.caused)) ∙ done
              ∙ sym (ap (λ (l : List Duty). telling l) (did_is ∙ append-nil (did_in venue me))))
        ]
      ]

  sweep_live : (venue : AuditTrail) (stood : VenueOk config venue) (at : RoomRef) (moment : ℕ)
      → DoneFits (day (here_beside venue stood actor.Clock) (sweep_effect config venue.facts at moment))
      → Live actor.Clock venue
      → Live actor.Clock (day (here_beside venue stood actor.Clock) (sweep_effect config venue.facts at moment))
  sweep_live venue stood at moment fits live =
      live_then (here_beside venue stood actor.Clock) (sweep_effect config venue.facts at moment)
      (record {
        mine = λ one. cc;
        others = λ differs. brings_none venue.facts _
            (sweep_brings dealer config row is room investor is_investor venue.facts at moment);
      }) live fits

  -- what was done fits after every list of steps
  fits_after : (steps : List Step) → DoneFits (audit_trail config steps)
  fits_after steps =
      let kept = all_kept lone words config dealer row is room investor is_investor untold steps in
      done_fits lone words config dealer row is room investor is_investor (audit_trail config steps)
      (subst (Fit None) (sym kept.left) kept.fit)

  step_live : (steps : List Step) (more : Step) → DoneFits (after_step config (audit_trail config steps) more)
      → Live (actor_of more) (audit_trail config steps)
      → Live (actor_of more) (after_step config (audit_trail config steps) more)
  unfolding after_step
  step_live steps (step.In firm moment bytes) fits live =
      message_live (audit_trail config steps) (venue_ok lone words config steps) firm moment bytes fits live
  step_live steps (step.Turn by) fits live =
      turn_live (audit_trail config steps) (venue_ok lone words config steps) (day_ok config steps)
      (shut_ended lone words config room steps)
      (desk_fits config dealer row is room investor is_investor steps)
      (all_kept lone words config dealer row is room investor is_investor untold steps).gones by
      (pending by (audit_trail config steps)) refl fits live
  step_live steps (step.Expire at moment) fits live =
      sweep_live (audit_trail config steps) (venue_ok lone words config steps) at moment fits live

  more_live : (steps : List Step) (more : Step) → Live (actor_of more) (audit_trail config steps)
      → Live (actor_of more) (audit_trail config (steps ++ more ∷ []))
  more_live steps more live =
      subst (Live (actor_of more)) (sym (one_more lone words config steps more))
      (step_live steps more (subst DoneFits (one_more lone words config steps more) (fits_after (steps ++ more ∷ [])))
      live)

  turns_live : (acts : Actor) (steps : List Step) (count : ℕ) → Live acts (audit_trail config steps)
      → Live acts (audit_trail config (steps ++ replicate count (step.Turn acts)))
  turns_live acts steps zero live =
      subst (λ (l : List Step). Live acts (audit_trail config l)) (sym (append-nil steps)) live
  turns_live acts steps (suc count) live =
      subst (λ (l : List Step). Live acts (audit_trail config l))
      (append_assoc steps (step.Turn acts ∷ []) (replicate count (step.Turn acts)))
      (turns_live acts (steps ++ step.Turn acts ∷ []) count (more_live steps (step.Turn acts) live))

  -- A day.

  abbrev AllTold : AuditTrail → Type 0
  AllTold venue = HeardOf venue.facts (telling (did_in venue me))

  next_told : (steps : List Step) (next : Step) → NoDutyIsLeft (live_trail config steps)
      → AllTold (live_trail config steps) → AllTold (live_trail config (steps ++ next ∷ []))
  next_told steps next idle told =
      let done = did_all lone words config (live_steps steps) idle room in
      let start : Live (actor_of next) (live_trail config steps) = record {
        idle = λ other differs. done other;
        all = told;
        waits = inl (ap (λ (l : List Duty). telling l) (sym (done me)));
      } in
      subst (λ (l : List Step). AllTold (audit_trail config l)) (sym (all_steps steps next))
      (turns_live (actor_of next) (live_steps steps ++ next ∷ []) MOST_TURNS_BEHIND
      (more_live (live_steps steps) next start)).all

  steps_told : (before steps : List Step) → IsLive config (before ++ steps) → AllTold (live_trail config before)
      → AllTold (live_trail config (before ++ steps))
  steps_told before [] live told = rw append-nil told
  steps_told before (next ∷ steps) live told =
      subst (λ (l : List Step). AllTold (live_trail config l)) (append_assoc before (next ∷ []) steps)
      (steps_told (before ++ next ∷ []) steps
      (subst (IsLive config) (sym (append_assoc before (next ∷ []) steps)) live)
      (next_told before next (live before (next ∷ steps) refl) told))

  start_told : AllTold (live_trail config [])
  unfolding audit_trail of_investor request_numbered
  start_told = record { quotes = refl; all = λ limits. (tt, refl) }

  module _ (steps : List Step) (live : IsLive config steps) where
    abbrev at_end : AuditTrail
    at_end = live_trail config steps

    done_are : telling (did_in at_end me) ≡ changes_in dealer (known at_end.facts)
    done_are =
        ap (λ (l : List Duty). telling l) (did_all lone words config (live_steps steps)
        (live steps [] (sym (append-nil steps))) room me)
        ∙ (all_kept lone words config dealer row is room investor is_investor untold (live_steps steps)).left

    told_at_end : AllTold at_end
    told_at_end = steps_told [] steps live start_told

    pub live_told : AreAllTold config (market_of config room.investor investor) dealer row.name room.n
        (known at_end.facts) (trail at_end.facts)
    live_told = record {
      tell = subst (λ (l : List Answer). TellQuotes config (market_of config room.investor investor) dealer row.name
          room.n (facts_of (trail at_end.facts)) l (trail at_end.facts))
          (ap (λ (l : List Answer). plains l) done_are ∙ plain_changes dealer (known at_end.facts))
          told_at_end.quotes;
    }

    pub live_in_turn : KeepsLimits config → AreAllToldInTurn config (market_of config room.investor investor) dealer
        row.name room.n (known at_end.facts) (trail at_end.facts)
    live_in_turn limits = record {
      tell = subst (λ (l : List Answer). TellAll config (market_of config room.investor investor) dealer row.name
          room.n (facts_of (trail at_end.facts)) (as_told None l) (trail at_end.facts)) done_are
          (told_at_end.all limits).0;
    }
