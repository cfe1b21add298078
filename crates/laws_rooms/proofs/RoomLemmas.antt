-- A room that is opened is made ready before all is done.
use Rattle.std.proofs.Common.{◌≡◌, ℕ, Bool, true, false, ◌&&◌, not, List, [], ◌∷◌, ◌++◌, map}
use Rattle.std.proofs.Common.{Option, Some, None, is_none, is_some, refl, sym, ap, ◌∙◌, subst, inl, inr}
use Rattle.std.proofs.lemmas.Bool.{and_parts, cases_Bool, false≢true}
use Rattle.std.proofs.lemmas.List.{append-nil, append_assoc, take-append-drop}
use Rattle.std.proofs.lemmas.List.Sums.{fold-append}
use Rattle.std.proofs.lemmas.Option.{same_Some}
use Rattle.market_terms.specs.declared.asks.Ask.{Ask}
use Rattle.market_terms.specs.declared.duties.Duty.{Duty}
use Rattle.market_terms.specs.declared.duties.Duty.TheVariants as duty
use Rattle.market_terms.specs.declared.rooms.Offer.{Offer}
use Rattle.market_terms.specs.declared.rooms.RoomRef.{RoomRef}
use Rattle.venue_rows.specs.Rows.{Configuration, has_room}
use Rattle.venue_steps.specs.declared.actors.Actor.{Actor}
use Rattle.venue_steps.specs.declared.actors.Actor.TheVariants as actor
use Rattle.dealer_desk.specs.DealerOutput.{number_in}
use Rattle.request_room.specs.Book.{event_facts}
use Rattle.request_room.specs.RoomFacts.{Ended, Opened, Readied, RoomFact}
use Rattle.request_room.specs.RoomFacts.{is_ended, is_named, is_opening, is_readied, is_ready, is_vacant}
use Rattle.request_room.specs.RoomFacts.{opened_for, request_of}
use Rattle.request_room.specs.declared.ends.End.{End}
use Rattle.request_room.specs.declared.requests.RoomRequest.{RoomRequest}
use Rattle.step_replay.specs.Actions.{Effect}
use Rattle.step_replay.specs.AuditTrail.{AuditTrail, after_step, after_turn, audit_trail, no_steps}
use Rattle.step_replay.specs.AuditTrail.{pending}
use Rattle.step_replay.specs.DealerTrail.{rooms_by}
use Rattle.step_replay.specs.DutyEffects.{duty_effect, message_effect, sweep_effect}
use Rattle.step_replay.specs.EachLemmas.{every_both, every_weaker}
use Rattle.step_replay.specs.GrowthLemmas.{all_in, any_left, any_right, in_right, names_some, said_after}
use Rattle.step_replay.specs.Lists.{Every, In}
use Rattle.step_replay.specs.PlaceLemmas.{own_room, room_grown}
use Rattle.step_replay.specs.VenueFacts.{Fact, InRoom, of_dealer, of_room}
use Rattle.step_replay.specs.declared.steps.Step.{Step}
use Rattle.step_replay.specs.declared.steps.Step.TheVariants as step
use Rattle.laws_days.specs.LiveDuties.{NoDutyIsLeft}
use Rattle.laws_shown.specs.ShownRequests.{at_investor as market_facts}
use Rattle.investor_desk.specs.InvestorFacts.{InvestorFact}
use Rattle.laws_rooms.specs.Declines.{IsToldSo}
use Rattle.laws_rooms.specs.Told.{IsTold}
use Rattle.laws_rooms.proofs.DeclineLemmas.{decline_told, declined_grown}
use Rattle.laws_rooms.proofs.TellLemmas.{market_grown, relay_told, told_grown}
use Rattle.laws_days.specs.Conditions.{is_met}
use Rattle.laws_days.proofs.ConditionMet.{met}
use Rattle.laws_days.proofs.LiveQuotes.{LoneQuotes}
use Rattle.laws_days.proofs.PlainFacts.{in_room_all}
use Rattle.laws_days.proofs.VenueDay.{venue_ok}
use Rattle.laws_days.proofs.VenueDesk.{WordsOfDay}
use Rattle.laws_days.proofs.VenueInvariant.{FactOk, VenueOk}
use Rattle.laws_days.proofs.VenueKnown.{pending_ok}
use Rattle.laws_days.proofs.VenueParts.{said_later}
use Rattle.laws_days.proofs.VenueParts.{Still, did_in, duties_by, later_same, still_later}
use Rattle.laws_days.proofs.VenueSteps.{Here, day, since}
use Rattle.laws_days.proofs.VenueTurns.{beside, doing_now, grown, own_left, turn, turns_of}
use Rattle.laws_days.proofs.VenueTurns.{venue_with}

-- Facts of a room.

pub opened_fact : (P : RoomFact → Type 0) (request : RoomRequest) (facts : List RoomFact)
    → request_of facts ≡ Some request → Every P facts → P (Opened request)
opened_fact P request [] is every = cc
opened_fact P request (Opened other ∷ facts) is every =
    subst (λ (r : RoomRequest). P (Opened r)) (same_Some other request is) every.0
opened_fact P request (fact ∷ facts) is every = opened_fact P request facts is every.1

ready_fact : (P : RoomFact → Type 0) (facts : List RoomFact) → is_ready facts ≡ true → Every P facts
    → P Readied
ready_fact P [] is every = cc
ready_fact P (Readied ∷ facts) is every = every.0
ready_fact P (fact ∷ facts) is every = ready_fact P facts is every.1

-- an end, at some moment
ended_fact : (P : RoomFact → Type 0) (facts : List RoomFact) → is_ended facts ≡ true → Every P facts
    → (end : End) × (moment : ℕ) × P (Ended end moment)
ended_fact P [] is every = cc
ended_fact P (Ended end moment ∷ facts) is every = (end, moment, every.0)
ended_fact P (fact ∷ facts) is every = ended_fact P facts is every.1

none_of : {A : Type 0} (found : Option A) → is_none found ≡ true → found ≡ None
none_of None is = refl
none_of (Some x) is = cc

pub some_of : {A : Type 0} (found : Option A) → is_some found ≡ true → (x : A) × (found ≡ Some x)
some_of None is = cc
some_of (Some x) is = (x, refl)

never_opening : (asked ready ended : Bool) → ready ≡ true → ((asked && not ready) && not ended) ≡ false
never_opening true true ended is = refl
never_opening false true ended is = refl
never_opening asked false ended is = absurd (false≢true is)

-- a room whose request stands is opening, or is ready, or has ended
ready_or_ended : (asked ready ended : Bool) → asked ≡ true → ((asked && not ready) && not ended) ≡ false
    → (ended ≡ true → ready ≡ true) → ready ≡ true
ready_or_ended true true ended is isnt by_end = refl
ready_or_ended true false true is isnt by_end = by_end refl
ready_or_ended true false false is isnt by_end = absurd (false≢true (sym isnt))
ready_or_ended false ready ended is isnt by_end = absurd (false≢true is)

module _ (lone : LoneQuotes) (words : WordsOfDay) (config : Configuration) where
  -- what a duty that was done has brought: an opening leaves the readying of its room, and behind
  -- that the room is not opening
  abbrev pub DoneIs : Actor → Duty → AuditTrail → Type 0
  DoneIs by (duty.Open room ask dealers moment) venue =
      In (duty.Ready room moment) (duties_by by venue.caused)
      × (request_of (of_room room venue.facts) ≡ Some (record { ask = ask; dealers = dealers }))
  DoneIs by (duty.Ready room moment) venue = is_opening (of_room room venue.facts) ≡ false
  DoneIs by (duty.Relay room offer moment) venue = IsTold (market_facts room.investor venue.facts) room.n offer
  DoneIs by (duty.Declined room moment) venue =
      (dealer : ℕ) → by ≡ actor.Firm dealer → IsToldSo config venue.facts room dealer
  DoneIs by other venue = Unit {0}

  abbrev pub AllDone : AuditTrail → Type 0
  AllDone venue = (by : Actor) → Every (λ d. Still (DoneIs by d) venue) (did_in venue by)

  -- A turn.

  module _ (venue : AuditTrail) (stood : VenueOk config venue) (by : Actor) where
    module _ (left : Duty) (rest : List Duty) (is : pending by venue ≡ left ∷ rest) where
      abbrev here : Here
      here = record { config = config; venue = venue; stood = stood; by = by; doing = turn left rest is }

      abbrev brought : Effect
      brought = duty_effect config venue.facts by left

      abbrev then_day : AuditTrail
      then_day = day here brought

    -- it meets its test
    is_fit : (left : Duty) (rest : List Duty) → pending by venue ≡ left ∷ rest
        → is_met config venue.facts by left ≡ true
    is_fit left rest is =
        let fits = pending_ok stood by left rest is in
        met stood by words left (fits.0 venue (later_same venue)) fits.1

    opening_done : (room : RoomRef) (ask : Ask) (dealers : List ℕ) (moment : ℕ) (rest : List Duty)
        → (is : pending by venue ≡ duty.Open room ask dealers moment ∷ rest)
        → Still (DoneIs by (duty.Open room ask dealers moment))
        (then_day (duty.Open room ask dealers moment) rest is)
    unfolding is_met duty_effect event_facts
    opening_done room ask dealers moment rest is now later =
        let left = duty.Open room ask dealers moment in
        let known = of_room room venue.facts in
        let fit : (has_room config room.investor room.n ≡ true) × (is_vacant known ≡ true) =
        and_parts (has_room config room.investor room.n) (is_vacant known) (is_fit left rest is) in
        let ready = duty.Ready room moment in
        let added : In ready (duty_effect config venue.facts by left).duties =
        rw (fit.0, fit.1) (in_right ready (map (λ dealer. duty.Show dealer room ask moment) dealers)
        (ready ∷ []) (inl refl)) in
        let request : RoomRequest = record { ask = ask; dealers = dealers } in
        let facts_are : (duty_effect config venue.facts by left).facts ≡ InRoom room (Opened request) ∷ [] =
        rw (fit.0, fit.1) refl in
        let none : request_of known ≡ None =
        none_of (request_of known) (and_parts (is_none (request_of known)) (not (is_ended known)) fit.1).0 in
        let asks : request_of (of_room room (then_day left rest is).facts) ≡ Some request =
        ap request_of (room_grown room venue.facts (duty_effect config venue.facts by left).facts
        ∙ ap (λ l. known ++ of_room room l) facts_are
        ∙ ap (λ l. known ++ l) (own_room room (Opened request ∷ [])))
        ∙ said_after opened_for known (Opened request ∷ []) none in (
          later.left by ready
              (rw (own_left venue by (duty_effect config venue.facts by left))
              (in_right ready (duties_by by venue.caused) (duty_effect config venue.facts by left).duties added)),
          said_later later opened_for room request asks,
        )

    readying_done : (room : RoomRef) (moment : ℕ) (rest : List Duty)
        → (is : pending by venue ≡ duty.Ready room moment ∷ rest)
        → Still (DoneIs by (duty.Ready room moment)) (then_day (duty.Ready room moment) rest is)
    unfolding is_met duty_effect event_facts
    readying_done room moment rest is now later =
        let left = duty.Ready room moment in
        let known = of_room room venue.facts in
        let fit : (has_room config room.investor room.n ≡ true) × (is_opening known ≡ true) =
        and_parts (has_room config room.investor room.n) (is_opening known) (is_fit left rest is) in
        let facts_are : (duty_effect config venue.facts by left).facts ≡ InRoom room Readied ∷ [] =
        rw (fit.0, fit.1) refl in
        let then_facts : of_room room now.facts ≡ known ++ Readied ∷ [] ++ of_room room later.more =
        ap (of_room room) later.facts_are
        ∙ room_grown room (venue.facts ++ (duty_effect config venue.facts by left).facts) later.more
        ∙ ap (λ l. l ++ of_room room later.more)
        (room_grown room venue.facts (duty_effect config venue.facts by left).facts
        ∙ ap (λ l. known ++ of_room room l) facts_are
        ∙ ap (λ l. known ++ l) (own_room room (Readied ∷ []))) in
        let ready : is_ready (known ++ Readied ∷ [] ++ of_room room later.more) ≡ true =
        any_left is_readied (known ++ Readied ∷ []) (of_room room later.more)
        (any_right is_readied known (Readied ∷ []) refl) in
        ap is_opening then_facts
        ∙ never_opening (is_some (request_of (known ++ Readied ∷ [] ++ of_room room later.more)))
        (is_ready (known ++ Readied ∷ [] ++ of_room room later.more))
        (is_ended (known ++ Readied ∷ [] ++ of_room room later.more)) ready

    relaying_done : (room : RoomRef) (offer : Offer) (moment : ℕ) (rest : List Duty)
        → (is : pending by venue ≡ duty.Relay room offer moment ∷ rest)
        → Still (DoneIs by (duty.Relay room offer moment)) (then_day (duty.Relay room offer moment) rest is)
    unfolding is_met
    relaying_done room offer moment rest is now later =
        let left = duty.Relay room offer moment in
        let then_facts = (then_day left rest is).facts in
        subst (λ (l : List InvestorFact). IsTold l room.n offer)
        (sym (ap (λ (l : List Fact). market_facts room.investor l) later.facts_are
        ∙ market_grown room.investor then_facts later.more))
        (told_grown (market_facts room.investor then_facts) (market_facts room.investor later.more) room.n offer
        (relay_told config venue.facts room offer by moment (is_fit left rest is)))

    declining_done : (room : RoomRef) (moment : ℕ) (rest : List Duty)
        → (is : pending by venue ≡ duty.Declined room moment ∷ rest)
        → Still (DoneIs by (duty.Declined room moment)) (then_day (duty.Declined room moment) rest is)
    declining_done room moment rest is now later = λ dealer by_is.
        let left = duty.Declined room moment in
        let then_facts = (then_day left rest is).facts in
        let told : IsToldSo config then_facts room dealer =
        subst (λ (a : Actor). IsToldSo config (venue.facts ++ (duty_effect config venue.facts a left).facts) room dealer)
        (sym by_is) (decline_told config venue.facts room dealer moment
        (subst (λ (a : Actor). is_met config venue.facts a left ≡ true) by_is (is_fit left rest is))) in
        subst (λ (l : List Fact). IsToldSo config l room dealer) (sym later.facts_are)
        (declined_grown config then_facts later.more room dealer told)

    left_done : (left : Duty) (rest : List Duty) → (is : pending by venue ≡ left ∷ rest)
        → Still (DoneIs by left) (then_day left rest is)
    left_done (duty.Open room ask dealers moment) rest is = opening_done room ask dealers moment rest is
    left_done (duty.Ready room moment) rest is = readying_done room moment rest is
    left_done (duty.Relay room offer moment) rest is = relaying_done room offer moment rest is
    left_done (duty.Declined room moment) rest is = declining_done room moment rest is
    left_done other rest is = λ now later. tt

  -- whatever an actor does, what was done stays so, and what it does is so
  grown_done : (h : Here) (effect : Effect) → AllDone h.venue
      → Every (λ d. Still (DoneIs h.by d) (day h effect)) (doing_now h.venue h.by h.doing)
      → AllDone (day h effect)
  grown_done h effect done new other =
      let g = grown h.venue h.by effect h.doing other (λ a. (h.stood.queues a).within) in
      let added : Every (λ d. Still (DoneIs other d) (day h effect)) g.also = elim g.own [
        | inl none ↦ rw (none.1) tt
        | inr own ↦ rw (own.2) (subst (λ (a : Actor).
            Every (λ d. Still (DoneIs a d) (day h effect)) (doing_now h.venue h.by h.doing)) own.0 new)
      ] in
      rw (g.did) (every_both (λ d. Still (DoneIs other d) (day h effect)) (did_in h.venue other) g.also
      (every_weaker (λ d. Still (DoneIs other d) h.venue) (λ d. Still (DoneIs other d) (day h effect))
      (λ d stands. still_later (DoneIs other d) (since h effect) stands) (did_in h.venue other) (done other))
      added)

  turn_done : (venue : AuditTrail) (stood : VenueOk config venue) (by : Actor) (duties : List Duty)
      → pending by venue ≡ duties → AllDone venue → AllDone (after_turn config by venue duties)
  turn_done venue stood by [] is done = done
  turn_done venue stood by (left ∷ rest) is done =
      grown_done (here venue stood by left rest is) (duty_effect config venue.facts by left) done
      (left_done venue stood by left rest is, tt)

  beside_done : (venue : AuditTrail) (stood : VenueOk config venue) (by : Actor) (effect : Effect)
      → AllDone venue → AllDone (venue_with venue by effect beside)
  beside_done venue stood by effect done =
      grown_done (record { config = config; venue = venue; stood = stood; by = by; doing = beside }) effect
      done tt

  step_done : (venue : AuditTrail) (stood : VenueOk config venue) (more : Step) → AllDone venue
      → AllDone (after_step config venue more)
  unfolding after_step
  step_done venue stood (step.In firm moment bytes) done =
      beside_done venue stood (actor.Firm firm) (message_effect config venue.facts firm moment bytes) done
  step_done venue stood (step.Turn by) done = turn_done venue stood by (pending by venue) refl done
  step_done venue stood (step.Expire room moment) done =
      beside_done venue stood actor.Clock (sweep_effect config venue.facts room moment) done

  pub one_more : (before : List Step) (more : Step)
      → audit_trail config (before ++ more ∷ []) ≡ after_step config (audit_trail config before) more
  unfolding audit_trail
  one_more before more = fold-append (after_step config) no_steps before (more ∷ [])

  steps_done : (before steps : List Step) → AllDone (audit_trail config before)
      → AllDone (audit_trail config (before ++ steps))
  steps_done before [] done = rw append-nil done
  steps_done before (more ∷ steps) done =
      subst (λ l. AllDone (audit_trail config l)) (append_assoc before (more ∷ []) steps)
      (steps_done (before ++ more ∷ []) steps (subst AllDone (sym (one_more before more))
      (step_done (audit_trail config before) (venue_ok lone words config before) more done)))

  start_done : AllDone (audit_trail config [])
  unfolding audit_trail
  start_done by = tt

  pub all_done : (steps : List Step) → AllDone (audit_trail config steps)
  all_done steps = steps_done [] steps start_done

  -- Where no duty is left.

  module _ (steps : List Step) (idle : NoDutyIsLeft (audit_trail config steps)) (room : RoomRef) where
    abbrev venue : AuditTrail
    venue = audit_trail config steps

    abbrev known : List RoomFact
    known = of_room room venue.facts

    pub stands : VenueOk config venue
    stands = venue_ok lone words config steps

    pub facts_ok : Every (λ (fact : RoomFact). Still (FactOk config (InRoom room fact)) venue) known
    facts_ok = in_room_all (λ fact. Still (FactOk config fact) venue) room venue.facts stands.facts

    pub did_all : (by : Actor) → did_in venue by ≡ duties_by by venue.caused
    did_all by =
        sym (append-nil (did_in venue by)) ∙ ap (λ l. did_in venue by ++ l) (sym (idle by))
        ∙ take-append-drop (turns_of by venue.done) (duties_by by venue.caused)

    pub done_now : (by : Actor) (d : Duty) → In d (did_in venue by) → DoneIs by d venue
    done_now by d there =
        all_in (λ one. Still (DoneIs by one) venue) d (did_in venue by) (all_done steps by) there venue
        (later_same venue)

    pub none_opening : is_opening known ≡ false
    none_opening = elim (cases_Bool (is_opening known)) [
      | inr isnt ↦ isnt
      | inl opening ↦
          (let asked = and_parts (is_some (request_of known)) (not (is_ready known))
          (and_parts (is_some (request_of known) && not (is_ready known)) (not (is_ended known)) opening).0 in
          let request = some_of (request_of known) asked.0 in
          let opened = opened_fact (λ fact. Still (FactOk config (InRoom room fact)) venue) request.0 known
          request.1 facts_ok venue (later_same venue) in
          let left = done_now opened.1.by (duty.Open room request.0.ask request.0.dealers opened.0) opened.1.done in
          done_now opened.1.by (duty.Ready room opened.0)
          (subst (λ l. In (duty.Ready room opened.0) l) (sym (did_all opened.1.by)) left.0))
    ]

    -- each dealer that the request names was shown it
    pub is_shown : (dealer : ℕ) → is_named known dealer ≡ true
        → is_some (number_in (rooms_by (of_dealer dealer venue.facts)) room) ≡ true
    is_shown dealer named =
        let request = names_some (request_of known) dealer named in
        let ready = ready_or_ended (is_some (request_of known)) (is_ready known) (is_ended known)
        (ap is_some request.1) none_opening ended_ready in
        (ready_fact (λ fact. Still (FactOk config (InRoom room fact)) venue) known ready facts_ok venue
        (later_same venue)).shown dealer named
      where
        ended_ready : is_ended known ≡ true → is_ready known ≡ true
        ended_ready ended =
            ((ended_fact (λ fact. Still (FactOk config (InRoom room fact)) venue) known ended facts_ok).2 venue
            (later_same venue)).ready
