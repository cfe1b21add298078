-- The answers of a dealer are told in their turn, after every list of steps.
use Rattle.std.proofs.Common.{◌≡◌, ℕ, false, List, [], ◌∷◌, ◌++◌, drop}
use Rattle.std.proofs.Common.{Some, None, refl, sym, ap, ◌∙◌, subst}
use Rattle.std.proofs.lemmas.List.{append-nil, append_assoc, take-append-drop}
use Rattle.std.proofs.lemmas.List.Elements.{filter_map-append}
use Rattle.market_terms.specs.declared.duties.Duty.{Duty}
use Rattle.market_terms.specs.declared.rooms.RoomRef.{RoomRef}
use Rattle.request_room.specs.RoomFacts.{RoomFact}
use Rattle.venue_rows.specs.Rows.{Configuration, KeepsLimits, dealer_numbered, investor_numbered}
use Rattle.venue_rows.specs.declared.dealer_rows.DealerRow.{DealerRow}
use Rattle.venue_rows.specs.declared.investor_rows.InvestorRow.{InvestorRow}
use Rattle.venue_steps.specs.declared.actors.Actor.{Actor}
use Rattle.venue_steps.specs.declared.actors.Actor.TheVariants as actor
use Rattle.investor_desk.specs.InvestorDesk.{market_of}
use Rattle.investor_desk.specs.InvestorFacts.{book_of, request_numbered}
use Rattle.step_replay.specs.Actions.{Effect}
use Rattle.step_replay.specs.AuditTrail.{AuditTrail, after_step, after_turn, audit_trail, is_same_actor}
use Rattle.step_replay.specs.AuditTrail.{pending}
use Rattle.step_replay.specs.DutyEffects.{duty_effect, message_effect, sweep_effect}
use Rattle.step_replay.specs.InvestorTrail.{facts_of}
use Rattle.step_replay.specs.Lists.{Every}
use Rattle.step_replay.specs.PlaceLemmas.{room_grown}
use Rattle.step_replay.specs.VenueFacts.{Fact, of_investor, of_room}
use Rattle.step_replay.specs.declared.steps.Step.{Step}
use Rattle.step_replay.specs.declared.steps.Step.TheVariants as step
use Rattle.laws_days.specs.DayParts.{pending_ok as queue_ok}
use Rattle.laws_days.specs.KeptItems.{every_drop}
use Rattle.laws_shown.proofs.ShownDay.{DayOk, day_ok}
use Rattle.laws_shown.proofs.ShownParts.{DutyOk as ShownOk}
use Rattle.laws_days.specs.LiveDuties.{NoDutyIsLeft}
use Rattle.laws_days.proofs.ConditionMet.{met}
use Rattle.laws_days.proofs.LiveQuotes.{LoneQuotes}
use Rattle.laws_days.proofs.VenueDay.{venue_ok}
use Rattle.laws_days.proofs.VenueDesk.{WordsOfDay}
use Rattle.laws_days.proofs.VenueInvariant.{VenueOk}
use Rattle.laws_days.proofs.VenueKnown.{pending_ok}
use Rattle.laws_days.proofs.VenueParts.{did_in, duties_by, later_same}
use Rattle.laws_days.proofs.VenueSteps.{Here, day}
use Rattle.laws_days.proofs.VenueTurns.{beside, doing_now, turn, turns_of}
use Rattle.laws_rooms.specs.Answered.{Answer, change_in, changes_in}
use Rattle.laws_rooms.specs.Tellings.{AreToldFirst, AreToldInTurn}
use Rattle.laws_rooms.proofs.FollowLemmas.{FitsOn, message_none, mine_follows, none_fits, others_none}
use Rattle.laws_rooms.proofs.FollowLemmas.{sweep_none, tellings, tells_of}
use Rattle.laws_rooms.proofs.GoneDays.{desk_fits, duty_gones, message_gones, sweep_gones}
use Rattle.laws_rooms.proofs.RoomLemmas.{did_all, one_more}
use Rattle.laws_rooms.proofs.ShutLemmas.{open_live}
use Rattle.laws_rooms.proofs.TellingLemmas.{Brings, DeskFits, GoneOk, Told, message_brings, mine_brings}
use Rattle.laws_rooms.proofs.TellingLemmas.{others_bring, sweep_brings, told_more}
use Rattle.laws_rooms.proofs.TurnLists.{Fit, fit_both, fit_left, plain, plain_changes, plains}
use Rattle.laws_rooms.proofs.TurnShares.{anothers, every_then, its_own, share}

module _ (lone : LoneQuotes) (words : WordsOfDay) (config : Configuration) (dealer : ℕ)
    (row : DealerRow) (is : dealer_numbered config dealer ≡ Some row) (room : RoomRef) (investor : InvestorRow)
    (is_investor : investor_numbered config room.investor ≡ Some investor) where
  abbrev me : Actor
  me = actor.Firm dealer

  abbrev known : List Fact → List RoomFact
  known facts = of_room room facts

  abbrev changes : List Fact → List Answer
  changes facts = changes_in dealer (known facts)

  abbrev telling : List Duty → List Answer
  telling duties = tellings dealer config row is room duties

  abbrev ToldOf : List Fact → List Answer → Type 0
  ToldOf facts done = Told dealer config row is room investor is_investor facts done

  abbrev BringsOf : List Fact → List Fact → List Answer → Type 0
  BringsOf facts added items = Brings dealer config row is room investor is_investor facts added items

  abbrev FitsOf : List Fact → Effect → Type 0
  FitsOf facts effect = FitsOn dealer config row is room facts effect

  telling_both : (duties more : List Duty) → telling (duties ++ more) ≡ telling duties ++ telling more
  telling_both duties more = filter_map-append (tells_of dealer config row is room) duties more

  -- what was done fits, where what was left does
  pub done_fits : (venue : AuditTrail) → Fit None (telling (duties_by me venue.caused))
      → Fit None (telling (did_in venue me))
  done_fits venue fit =
      let later = drop (turns_of me venue.done) (duties_by me venue.caused) in
      fit_left None (telling (did_in venue me)) (telling later)
      (subst (Fit None) (sym (ap (λ (l : List Duty). telling l)
      (take-append-drop (turns_of me venue.done) (duties_by me venue.caused)))
      ∙ telling_both (did_in venue me) later) fit)

  -- what stands: each answer that took effect was left to be told, each withdrawal of what stood, and what was
  -- done so was told
  pub record Kept (venue : AuditTrail) : Type 0 where
    pub left : telling (duties_by me venue.caused) ≡ changes venue.facts
    pub fit : Fit None (changes venue.facts)
    pub gones : (by : Actor) → Every (GoneOk config by) (duties_by by venue.caused)
    pub told : ToldOf venue.facts (telling (did_in venue me))

  -- what an action has to bring
  record Adds (h : Here) (effect : Effect) : Type 0 where
    pub mine : h.by ≡ me → (telling effect.duties ≡ changes effect.facts) × FitsOf h.venue.facts effect
        × BringsOf h.venue.facts effect.facts (telling (doing_now h.venue h.by h.doing))
    pub others : is_same_actor h.by me ≡ false → (changes effect.facts ≡ [])
        × BringsOf h.venue.facts effect.facts []
    pub gones : Every (GoneOk config h.by) effect.duties

  module _ (h : Here) (effect : Effect) (adds : Adds h effect) (kept : Kept h.venue) where
    abbrev then_day : AuditTrail
    then_day = day h effect

    changes_then : changes then_day.facts ≡ changes h.venue.facts ++ changes effect.facts
    changes_then =
        ap (λ (l : List RoomFact). changes_in dealer l) (room_grown room h.venue.facts effect.facts)
        ∙ filter_map-append (change_in dealer) (known h.venue.facts) (known effect.facts)

    with_more : (did added : List Duty) → did_in then_day me ≡ did_in h.venue me ++ did
        → duties_by me then_day.caused ≡ duties_by me h.venue.caused ++ added
        → telling added ≡ changes effect.facts → FitsOf h.venue.facts effect
        → BringsOf h.venue.facts effect.facts (telling did) → Kept then_day
    with_more did added did_is left_is same fits tells =
        let left_then : telling (duties_by me then_day.caused) ≡ changes then_day.facts =
        ap (λ (l : List Duty). telling l) left_is
        ∙ telling_both (duties_by me h.venue.caused) added
        ∙ ap (λ (l : List Answer). l ++ telling added) kept.left
        ∙ ap (λ (l : List Answer). changes h.venue.facts ++ l) same
        ∙ sym changes_then in
        let fit_then : Fit None (changes then_day.facts) =
        subst (Fit None) (sym changes_then)
        (fit_both None (changes h.venue.facts) (changes effect.facts) kept.fit (fits kept.fit)) in
        let done_then : telling (did_in then_day me) ≡ telling (did_in h.venue me) ++ telling did =
        ap (λ (l : List Duty). telling l) did_is ∙ telling_both (did_in h.venue me) did in
        record {
          left = left_then;
          fit = fit_then;
          gones = every_then h effect (λ by d. GoneOk config by d) kept.gones adds.gones;
          told = subst (ToldOf (h.venue.facts ++ effect.facts)) (sym done_then)
              (told_more dealer config row is room investor is_investor h.venue.facts effect.facts
              (telling (did_in h.venue me)) (telling did)
              (subst (Fit None) done_then (done_fits then_day (subst (Fit None) (sym left_then) fit_then)))
              kept.told tells);
        }

    kept_then : Kept then_day
    kept_then = elim (share h effect me) [
      | its_own one did_is left_is ↦
          (let brings = adds.mine one in
          with_more (doing_now h.venue h.by h.doing) effect.duties did_is left_is brings.0 brings.1 brings.2)
      | anothers differs did_is left_is ↦
          (let brings = adds.others differs in
          with_more [] [] did_is left_is (sym brings.0)
          (none_fits dealer config row is room h.venue.facts effect brings.0) brings.1)
    ]

  -- A turn.

  abbrev DeskOf : AuditTrail → Type 0
  DeskOf venue = DeskFits dealer config row is room investor is_investor venue.facts

  module _ (venue : AuditTrail) (stood : VenueOk config venue) (showed : DayOk config venue) (by : Actor) (d : Duty)
      (rest : List Duty) (waits : pending by venue ≡ d ∷ rest) where
    abbrev here : Here
    here = record { config = config; venue = venue; stood = stood; by = by; doing = turn d rest waits }

    abbrev brought : Effect
    brought = duty_effect config venue.facts by d

    pub shown_ok : ShownOk config venue.facts by d
    shown_ok =
        let all : Every (ShownOk config venue.facts by) (d ∷ rest) =
        subst (Every (ShownOk config venue.facts by)) waits
        (queue_ok (ShownOk config venue.facts) by venue showed.caused) in
        all.0

    -- a duty to tell a withdrawal is its dealer's
    pub gone_ok : ((a : Actor) → Every (GoneOk config a) (duties_by a venue.caused)) → GoneOk config by d
    gone_ok gones =
        let all : Every (GoneOk config by) (d ∷ rest) =
        subst (Every (GoneOk config by)) waits
        (every_drop (GoneOk config by) (turns_of by venue.done) (duties_by by venue.caused) (gones by)) in
        all.0

    turn_adds : DeskOf venue → Kept venue → Adds here brought
    turn_adds desk kept =
        let fits = pending_ok stood by d rest waits in
        let ok = fits.0 venue (later_same venue) in
        let fit = met stood by words d ok fits.1 in
        let gone = gone_ok kept.gones in
        record {
          mine = λ one. (
            (mine_follows dealer config row is room venue.facts by d one).same,
            (mine_follows dealer config row is room venue.facts by d one).fit,
            mine_brings dealer config row is room investor is_investor venue.facts desk by d shown_ok gone fit one,
          );
          others = λ differs. (
            others_none dealer config row is room venue.facts by d differs,
            others_bring dealer config row is room investor is_investor venue.facts desk by d shown_ok gone fit differs,
          );
          gones = duty_gones config venue.facts venue by d ok;
        }

  turn_kept : (venue : AuditTrail) (stood : VenueOk config venue) (showed : DayOk config venue) → DeskOf venue
      → (by : Actor) (duties : List Duty) → pending by venue ≡ duties → Kept venue
      → Kept (after_turn config by venue duties)
  turn_kept venue stood showed desk by [] waits kept = kept
  turn_kept venue stood showed desk by (d ∷ rest) waits kept =
      kept_then (here venue stood showed by d rest waits) (brought venue stood showed by d rest waits)
      (turn_adds venue stood showed by d rest waits desk kept) kept

  -- A message and a sweep.

  abbrev here_beside : (venue : AuditTrail) → VenueOk config venue → Actor → Here
  here_beside venue stood by =
      record { config = config; venue = venue; stood = stood; by = by; doing = beside }

  step_kept : (venue : AuditTrail) (stood : VenueOk config venue) (showed : DayOk config venue) → DeskOf venue
      → (more : Step)
      → ((firm moment : ℕ) (bytes : List ℕ)
      → telling (message_effect config venue.facts firm moment bytes).duties ≡ [])
      → Kept venue → Kept (after_step config venue more)
  unfolding after_step
  step_kept venue stood showed desk (step.In firm moment bytes) untold kept =
      let effect = message_effect config venue.facts firm moment bytes in
      let none = message_none dealer config row is room venue.facts firm moment bytes in
      let tells = message_brings dealer config row is room investor is_investor venue.facts firm moment bytes in
      kept_then (here_beside venue stood (actor.Firm firm)) effect
      (record {
        mine = λ one. (
          untold firm moment bytes ∙ sym none,
          none_fits dealer config row is room venue.facts effect none,
          tells,
        );
        others = λ differs. (none, tells);
        gones = message_gones config venue.facts (actor.Firm firm) firm moment bytes;
      }) kept
  step_kept venue stood showed desk (step.Turn by) untold kept =
      turn_kept venue stood showed desk by (pending by venue) refl kept
  step_kept venue stood showed desk (step.Expire at moment) untold kept =
      kept_then (here_beside venue stood actor.Clock) (sweep_effect config venue.facts at moment)
      (record {
        mine = λ one. cc;
        others = λ differs. (
          sweep_none dealer config row is room venue.facts at moment,
          sweep_brings dealer config row is room investor is_investor venue.facts at moment,
        );
        gones = sweep_gones config venue.facts actor.Clock at moment;
      }) kept

  -- After every list of steps.

  module _ (untold : (facts : List Fact) (firm moment : ℕ) (bytes : List ℕ)
      → telling (message_effect config facts firm moment bytes).duties ≡ []) where
    steps_kept : (before steps : List Step) → Kept (audit_trail config before)
        → Kept (audit_trail config (before ++ steps))
    steps_kept before [] kept = rw append-nil kept
    steps_kept before (more ∷ steps) kept =
        subst (λ (l : List Step). Kept (audit_trail config l)) (append_assoc before (more ∷ []) steps)
        (steps_kept (before ++ more ∷ []) steps
        (subst Kept (sym (one_more lone words config before more))
        (step_kept (audit_trail config before) (venue_ok lone words config before) (day_ok config before)
        (desk_fits config dealer row is room investor is_investor before) more
        (untold (audit_trail config before).facts) kept)))

    start_kept : Kept (audit_trail config [])
    unfolding audit_trail of_room of_investor request_numbered
    start_kept = record {
      left = refl;
      fit = tt;
      gones = λ by. tt;
      told = record {
        told = [];
        rest = [];
        begins = refl;
        heard = record { quotes = refl; all = λ limits. (tt, refl) };
        whole = λ live. refl;
      };
    }

    pub all_kept : (steps : List Step) → Kept (audit_trail config steps)
    all_kept steps = steps_kept [] steps start_kept

    all_begin : (steps : List Step) → NoDutyIsLeft (audit_trail config steps)
        → changes (audit_trail config steps).facts ≡ (all_kept steps).told.told ++ (all_kept steps).told.rest
    all_begin steps idle =
        let kept = all_kept steps in
        sym (ap (λ (l : List Duty). telling l) (did_all lone words config steps idle room me) ∙ kept.left)
        ∙ kept.told.begins

    pub all_told : (steps : List Step) → NoDutyIsLeft (audit_trail config steps)
        → AreToldFirst config (market_of config room.investor investor) dealer row.name room.n
        (known (audit_trail config steps).facts) (of_investor room.investor (audit_trail config steps).facts)
    all_told steps idle =
        let kept = all_kept steps in
        let facts = facts_of (of_investor room.investor (audit_trail config steps).facts) in
        record {
          told = plains kept.told.told;
          rest = plains kept.told.rest;
          begins = sym (plain_changes dealer (known (audit_trail config steps).facts))
              ∙ ap (λ (l : List Answer). plains l) (all_begin steps idle)
              ∙ filter_map-append plain kept.told.told kept.told.rest;
          tell = kept.told.heard.quotes;
          whole = λ lives. ap (λ (l : List Answer). plains l)
              (kept.told.whole (open_live (request_numbered (book_of facts) room.n) lives));
        }

    pub told_in_turn : (steps : List Step) → KeepsLimits config → NoDutyIsLeft (audit_trail config steps)
        → AreToldInTurn config (market_of config room.investor investor) dealer row.name room.n
        (known (audit_trail config steps).facts) (of_investor room.investor (audit_trail config steps).facts)
    told_in_turn steps limits idle =
        let kept = all_kept steps in
        let facts = facts_of (of_investor room.investor (audit_trail config steps).facts) in
        record {
          told = kept.told.told;
          rest = kept.told.rest;
          begins = all_begin steps idle;
          tell = (kept.told.heard.all limits).0;
          whole = λ lives. kept.told.whole (open_live (request_numbered (book_of facts) room.n) lives);
        }
