-- The quotes of a dealer are shown in their turn, after every list of steps.
use Rattle.std.proofs.Common.{◌≡◌, ℕ, false, List, [], ◌∷◌, ◌++◌}
use Rattle.std.proofs.Common.{Some, refl, sym, ap, ◌∙◌, subst}
use Rattle.std.proofs.lemmas.List.{append-nil, append_assoc}
use Rattle.std.proofs.lemmas.List.Elements.{filter_map-append}
use Rattle.market_terms.specs.declared.duties.Duty.{Duty}
use Rattle.market_terms.specs.declared.rooms.RoomRef.{RoomRef}
use Rattle.request_room.specs.RoomFacts.{RoomFact}
use Rattle.request_room.specs.declared.quotes.PostedQuote.{PostedQuote}
use Rattle.venue_rows.specs.Rows.{Configuration, dealer_numbered}
use Rattle.venue_rows.specs.declared.dealer_rows.DealerRow.{DealerRow}
use Rattle.venue_steps.specs.declared.actors.Actor.{Actor}
use Rattle.venue_steps.specs.declared.actors.Actor.TheVariants as actor
use Rattle.investor_desk.specs.InvestorFacts.{book_of, request_numbered}
use Rattle.step_replay.specs.Actions.{Effect}
use Rattle.step_replay.specs.AuditTrail.{AuditTrail, after_step, after_turn, audit_trail, is_same_actor}
use Rattle.step_replay.specs.AuditTrail.{pending}
use Rattle.step_replay.specs.DutyEffects.{duty_effect, message_effect, sweep_effect}
use Rattle.step_replay.specs.Lists.{Every}
use Rattle.step_replay.specs.PlaceLemmas.{room_grown}
use Rattle.step_replay.specs.VenueFacts.{Fact, of_investor, of_room}
use Rattle.step_replay.specs.declared.steps.Step.{Step}
use Rattle.step_replay.specs.declared.steps.Step.TheVariants as step
use Rattle.laws_days.specs.DayParts.{pending_ok as queue_ok}
use Rattle.laws_shown.proofs.ShownDay.{DayOk, day_ok}
use Rattle.laws_shown.proofs.ShownParts.{DutyOk as ShownOk}
use Rattle.laws_days.specs.LiveDuties.{NoDutyIsLeft}
use Rattle.laws_shown.specs.ShownRequests.{at_investor as market_facts}
use Rattle.laws_days.proofs.ConditionMet.{met}
use Rattle.laws_days.proofs.LiveQuotes.{LoneQuotes}
use Rattle.laws_days.proofs.VenueDay.{venue_ok}
use Rattle.laws_days.proofs.VenueDesk.{WordsOfDay}
use Rattle.laws_days.proofs.VenueInvariant.{VenueOk}
use Rattle.laws_days.proofs.VenueKnown.{pending_ok}
use Rattle.laws_days.proofs.VenueParts.{did_in, duties_by, later_same}
use Rattle.laws_days.proofs.VenueSteps.{Here, day}
use Rattle.laws_days.proofs.VenueTurns.{beside, doing_now, turn}
use Rattle.laws_rooms.specs.Offers.{AreShownFirst, quote_in, quotes_in}
use Rattle.laws_rooms.proofs.OfferLemmas.{Tells, Told, message_tells, message_turn, other_turn}
use Rattle.laws_rooms.proofs.OfferLemmas.{relay_of, relays, same_turn, sweep_tells, sweep_turn, tells_mine}
use Rattle.laws_rooms.proofs.OfferLemmas.{tells_other, told_more}
use Rattle.laws_rooms.proofs.RoomLemmas.{did_all, one_more}
use Rattle.laws_rooms.proofs.ShutLemmas.{open_live}
use Rattle.laws_rooms.proofs.TurnShares.{anothers, its_own, share}

module _ (lone : LoneQuotes) (words : WordsOfDay) (config : Configuration) (dealer : ℕ)
    (row : DealerRow) (is : dealer_numbered config dealer ≡ Some row) (room : RoomRef) where
  abbrev me : Actor
  me = actor.Firm dealer

  abbrev known : List Fact → List RoomFact
  known facts = of_room room facts

  abbrev relayed : List Duty → List PostedQuote
  relayed duties = relays dealer config row is room duties

  abbrev ToldOf : List Fact → List PostedQuote → Type 0
  ToldOf facts done = Told dealer config row is room facts done

  abbrev TellsOf : List Fact → List Fact → List PostedQuote → Type 0
  TellsOf facts added items = Tells dealer config row is room facts added items

  -- what stands: each quote that took effect was left to be relayed, and what was relayed was shown
  record Kept (venue : AuditTrail) : Type 0 where
    pub left : relayed (duties_by me venue.caused) ≡ quotes_in dealer (known venue.facts)
    pub told : ToldOf venue.facts (relayed (did_in venue me))

  -- what an action has to bring
  record Adds (h : Here) (effect : Effect) : Type 0 where
    pub mine : h.by ≡ me → (relayed effect.duties ≡ quotes_in dealer (known effect.facts))
        × TellsOf h.venue.facts effect.facts (relayed (doing_now h.venue h.by h.doing))
    pub others : is_same_actor h.by me ≡ false → (quotes_in dealer (known effect.facts) ≡ [])
        × TellsOf h.venue.facts effect.facts []

  module _ (h : Here) (effect : Effect) (adds : Adds h effect) (kept : Kept h.venue) where
    abbrev then_day : AuditTrail
    then_day = day h effect

    with_more : (did added : List Duty) → did_in then_day me ≡ did_in h.venue me ++ did
        → duties_by me then_day.caused ≡ duties_by me h.venue.caused ++ added
        → relayed added ≡ quotes_in dealer (known effect.facts)
        → TellsOf h.venue.facts effect.facts (relayed did) → Kept then_day
    with_more did added did_is left_is same tells = record {
      left = ap (λ (l : List Duty). relayed l) left_is
          ∙ filter_map-append (relay_of dealer config row is room) (duties_by me h.venue.caused) added
          ∙ ap (λ (l : List PostedQuote). l ++ relayed added) kept.left
          ∙ ap (λ (l : List PostedQuote). quotes_in dealer (known h.venue.facts) ++ l) same
          ∙ sym (filter_map-append (quote_in dealer) (known h.venue.facts) (known effect.facts))
          ∙ sym (ap (λ (l : List RoomFact). quotes_in dealer l) (room_grown room h.venue.facts effect.facts));
      told = subst (ToldOf (h.venue.facts ++ effect.facts))
          (sym (ap (λ (l : List Duty). relayed l) did_is
          ∙ filter_map-append (relay_of dealer config row is room) (did_in h.venue me) did))
          (told_more dealer config row is room h.venue.facts effect.facts (relayed (did_in h.venue me)) (relayed did)
          kept.told tells);
    }

    kept_then : Kept then_day
    kept_then = elim (share h effect me) [
      | its_own one did_is left_is ↦
          (let brings = adds.mine one in
          with_more (doing_now h.venue h.by h.doing) effect.duties did_is left_is brings.0 brings.1)
      | anothers differs did_is left_is ↦
          (let brings = adds.others differs in
          with_more [] [] did_is left_is (sym brings.0) brings.1)
    ]

  -- A turn.

  module _ (venue : AuditTrail) (stood : VenueOk config venue) (showed : DayOk config venue) (by : Actor) (d : Duty)
      (rest : List Duty) (waits : pending by venue ≡ d ∷ rest) where
    abbrev here : Here
    here = record { config = config; venue = venue; stood = stood; by = by; doing = turn d rest waits }

    abbrev brought : Effect
    brought = duty_effect config venue.facts by d

    shown_ok : ShownOk config venue.facts by d
    shown_ok =
        let all : Every (ShownOk config venue.facts by) (d ∷ rest) =
        subst (Every (ShownOk config venue.facts by)) waits
        (queue_ok (ShownOk config venue.facts) by venue showed.caused) in
        all.0

    turn_adds : Adds here brought
    turn_adds =
        let fits = pending_ok stood by d rest waits in
        let ok = fits.0 venue (later_same venue) in
        let fit = met stood by words d ok fits.1 in
        record {
          mine = λ one. (
            (same_turn dealer config row is room venue.facts venue refl by d ok fit one).same,
            tells_mine dealer config row is room venue.facts by d shown_ok fit one,
          );
          others = λ differs. (
            other_turn dealer config row is room venue.facts by d differs,
            tells_other dealer config row is room venue.facts by d shown_ok differs,
          );
        }

  turn_kept : (venue : AuditTrail) (stood : VenueOk config venue) (showed : DayOk config venue) (by : Actor)
      (duties : List Duty) → pending by venue ≡ duties → Kept venue → Kept (after_turn config by venue duties)
  turn_kept venue stood showed by [] waits kept = kept
  turn_kept venue stood showed by (d ∷ rest) waits kept =
      kept_then (here venue stood showed by d rest waits) (brought venue stood showed by d rest waits)
      (turn_adds venue stood showed by d rest waits) kept

  -- A message and a sweep.

  abbrev here_beside : (venue : AuditTrail) → VenueOk config venue → Actor → Here
  here_beside venue stood by =
      record { config = config; venue = venue; stood = stood; by = by; doing = beside }

  step_kept : (venue : AuditTrail) (stood : VenueOk config venue) (showed : DayOk config venue) (more : Step)
      → ((firm moment : ℕ) (bytes : List ℕ)
      → relayed (message_effect config venue.facts firm moment bytes).duties ≡ [])
      → Kept venue → Kept (after_step config venue more)
  unfolding after_step
  step_kept venue stood showed (step.In firm moment bytes) unrelayed kept =
      let none = message_turn dealer config row is room venue.facts firm moment bytes in
      let tells = message_tells dealer config row is room venue.facts firm moment bytes in
      kept_then (here_beside venue stood (actor.Firm firm)) (message_effect config venue.facts firm moment bytes)
      (record {
        mine = λ one. (unrelayed firm moment bytes ∙ sym none, tells);
        others = λ differs. (none, tells);
      }) kept
  step_kept venue stood showed (step.Turn by) unrelayed kept =
      turn_kept venue stood showed by (pending by venue) refl kept
  step_kept venue stood showed (step.Expire at moment) unrelayed kept =
      kept_then (here_beside venue stood actor.Clock) (sweep_effect config venue.facts at moment)
      (record {
        mine = λ one. cc;
        others = λ differs. (
          sweep_turn dealer config row is room venue.facts at moment,
          sweep_tells dealer config row is room venue.facts at moment,
        );
      }) kept

  -- After every list of steps.

  module _ (unrelayed : (facts : List Fact) (firm moment : ℕ) (bytes : List ℕ)
      → relayed (message_effect config facts firm moment bytes).duties ≡ []) where
    steps_kept : (before steps : List Step) → Kept (audit_trail config before)
        → Kept (audit_trail config (before ++ steps))
    steps_kept before [] kept = rw append-nil kept
    steps_kept before (more ∷ steps) kept =
        subst (λ (l : List Step). Kept (audit_trail config l)) (append_assoc before (more ∷ []) steps)
        (steps_kept (before ++ more ∷ []) steps
        (subst Kept (sym (one_more lone words config before more))
        (step_kept (audit_trail config before) (venue_ok lone words config before) (day_ok config before) more
        (unrelayed (audit_trail config before).facts) kept)))

    start_kept : Kept (audit_trail config [])
    unfolding audit_trail of_room of_investor
    start_kept = record {
      left = refl;
      told = record { rest = []; begins = refl; whole = λ live. refl };
    }

    all_kept : (steps : List Step) → Kept (audit_trail config steps)
    all_kept steps = steps_kept [] steps start_kept

    pub all_shown : (steps : List Step) → NoDutyIsLeft (audit_trail config steps)
        → AreShownFirst config dealer room.n (known (audit_trail config steps).facts)
        (market_facts room.investor (audit_trail config steps).facts)
    all_shown steps idle =
        let kept = all_kept steps in
        let all = did_all lone words config steps idle room me in
        let facts = market_facts room.investor (audit_trail config steps).facts in
        record {
          rest = kept.told.rest;
          begins = sym (ap (λ (l : List Duty). relayed l) all ∙ kept.left) ∙ kept.told.begins;
          whole = λ lives. kept.told.whole (open_live (request_numbered (book_of facts) room.n) lives);
        }
