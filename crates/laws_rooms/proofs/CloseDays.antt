-- Each room that a sweep ended is told to its investor once, after every list of steps.
use Rattle.std.proofs.Common.{◌≡◌, ◌==◌, ℕ, true, false, List, [], ◌∷◌, ◌++◌, map, filter_map}
use Rattle.std.proofs.Common.{Some, is_some, refl, sym, ap, ◌∙◌, subst}
use Rattle.std.proofs.Common.{inl, inr}
use Rattle.std.proofs.lemmas.Bool.{and_parts, cases_Bool, eqb-true, false≢true}
use Rattle.std.proofs.lemmas.List.{append-nil, append_assoc, map-append}
use Rattle.std.proofs.lemmas.List.Elements.{filter_map-append}
use Rattle.market_terms.specs.declared.duties.Duty.{Duty}
use Rattle.market_terms.specs.declared.duties.Duty.TheVariants as duty
use Rattle.venue_rows.specs.Rows.{Configuration, investor_numbered}
use Rattle.venue_rows.specs.declared.investor_rows.InvestorRow.{InvestorRow}
use Rattle.venue_steps.specs.declared.actors.Actor.{Actor}
use Rattle.venue_steps.specs.declared.actors.Actor.TheVariants as actor
use Rattle.investor_desk.specs.InvestorDesk.{market_of}
use Rattle.investor_desk.specs.InvestorFacts.{Asked, InvestorBook, StandingRequest}
use Rattle.investor_desk.specs.InvestorFacts.{request_numbered}
use Rattle.investor_desk.specs.InvestorOutput as investor_output
use Rattle.investor_desk.specs.InvestorRules.{InvestorMarket}
use Rattle.investor_desk.specs.declared.events.InvestorEvent.TheVariants as at_investor
use Rattle.investor_desk.specs.declared.standing.AcceptedRequest.{AcceptedRequest}
use Rattle.step_replay.specs.Actions.{Effect, at_market}
use Rattle.step_replay.specs.AuditTrail.{AuditTrail, after_step, after_turn, audit_trail, is_same_actor}
use Rattle.step_replay.specs.AuditTrail.{pending, sent_to}
use Rattle.step_replay.specs.DutyEffects.{duty_effect, message_effect, sweep_effect}
use Rattle.step_replay.specs.EachLemmas.{every_both, every_weaker}
use Rattle.step_replay.specs.GrowthLemmas.{in_left}
use Rattle.step_replay.specs.InvestorTrail as investor_trail
use Rattle.step_replay.specs.Lists.{Every, In}
use Rattle.step_replay.specs.VenueFacts.{Fact, of_investor}
use Rattle.step_replay.specs.declared.steps.Step.{Step}
use Rattle.step_replay.specs.declared.steps.Step.TheVariants as step
use Rattle.laws_days.specs.KeptItems.{every_drop}
use Rattle.laws_days.specs.LiveDuties.{NoDutyIsLeft}
use Rattle.laws_shown.specs.ShownRequests.{at_investor as market_facts}
use Rattle.laws_shown.proofs.ShownMarket.{requests_in}
use Rattle.laws_days.specs.Conditions.{is_met}
use Rattle.laws_days.proofs.ConditionMet.{met}
use Rattle.laws_days.proofs.LiveQuotes.{LoneQuotes}
use Rattle.laws_days.proofs.VenueDay.{venue_ok}
use Rattle.laws_days.proofs.VenueDesk.{WordsOfDay}
use Rattle.laws_days.proofs.VenueInvariant.{VenueOk}
use Rattle.laws_days.proofs.VenueKnown.{pending_ok}
use Rattle.laws_days.proofs.VenueParts.{did_in, duties_by, later_same}
use Rattle.laws_days.proofs.VenueSteps.{Here, day}
use Rattle.laws_days.proofs.VenueTurns.{beside, doing_now, turn, turns_of}
use Rattle.laws_rooms.proofs.DeclineLemmas.{found_there}
use Rattle.laws_rooms.specs.Expiries.{AreExpired, ends_in, expires, requests_swept, swept_at, swept_from}
use Rattle.laws_rooms.proofs.CloseLemmas.{IsNoClose, OwnClose, close_in, hushed, leaves_none, message_none}
use Rattle.laws_rooms.proofs.CloseLemmas.{no_closes, own_of, received_silent, sweep_closes, sweep_own}
use Rattle.laws_rooms.proofs.RoomLemmas.{did_all, one_more, some_of}
use Rattle.laws_rooms.proofs.SaidLemmas.{Says, close_other, investor_sent, sent_grown, duty_quiet, event_says}
use Rattle.laws_rooms.proofs.SaidLemmas.{message_quiet, says_both, says_none, sweep_quiet}
use Rattle.laws_rooms.proofs.TellLemmas.{market_grown}
use Rattle.laws_rooms.proofs.TurnShares.{anothers, every_then, its_own, share}

-- A day.

module _ (lone : LoneQuotes) (words : WordsOfDay) (config : Configuration) (investor : ℕ)
    (row : InvestorRow) (is : investor_numbered config investor ≡ Some row) where
  abbrev market : InvestorMarket
  market = market_of config investor row

  abbrev sent : List Fact → List (List ℕ)
  sent facts = investor_trail.sent_by (of_investor investor facts)

  abbrev closes : List Duty → List ℕ
  closes duties = filter_map (close_in investor) duties

  abbrev ids : List AcceptedRequest → List (List ℕ)
  ids requests = map (λ (request : AcceptedRequest). request.id) requests

  abbrev numbers : List AcceptedRequest → List ℕ
  numbers requests = map (λ (request : AcceptedRequest). request.number) requests

  abbrev AreAccepted : List Fact → List AcceptedRequest → Type 0
  AreAccepted facts requests =
      Every (λ (request : AcceptedRequest). In (Asked request) (market_facts investor facts)) requests

  -- messages that tell, in order, that these requests expired
  record Told (facts : List Fact) (messages : List (List ℕ)) (expired_are : List ℕ) : Type 0 where
    pub requests : List AcceptedRequest
    pub accepted : AreAccepted facts requests
    pub says : Says expires market messages (ids requests)
    pub numbers_are : numbers requests ≡ expired_are

  told_none : (facts : List Fact) (messages : List (List ℕ)) → Says expires market messages []
      → Told facts messages []
  told_none facts messages says =
      record { requests = []; accepted = tt; says = says; numbers_are = refl }

  accepted_later : (facts more : List Fact) (requests : List AcceptedRequest) → AreAccepted facts requests
      → AreAccepted (facts ++ more) requests
  accepted_later facts more requests accepted =
      every_weaker (λ (request : AcceptedRequest). In (Asked request) (market_facts investor facts))
      (λ (request : AcceptedRequest). In (Asked request) (market_facts investor (facts ++ more)))
      (λ request there. rw (market_grown investor facts more)
      (in_left (Asked request) (market_facts investor facts) (market_facts investor more) there)) requests accepted

  record Kept (venue : AuditTrail) (swept : List ℕ) : Type 0 where
    pub told : Told venue.facts (sent venue.facts) (closes (did_in venue actor.Clock))
    pub swept_are : closes (duties_by actor.Clock venue.caused) ≡ swept
    pub own : (by : Actor) → Every (OwnClose by) (duties_by by venue.caused)

  record Adds (h : Here) (effect : Effect) (more : List ℕ) : Type 0 where
    pub clock : h.by ≡ actor.Clock
        → Told (h.venue.facts ++ effect.facts) (sent effect.facts) (closes (doing_now h.venue h.by h.doing))
        × (closes effect.duties ≡ more)
    pub other : is_same_actor h.by actor.Clock ≡ false
        → Told (h.venue.facts ++ effect.facts) (sent effect.facts) [] × (more ≡ [])
    pub own : Every (OwnClose h.by) effect.duties

  module _ (h : Here) (effect : Effect) (more : List ℕ) (swept : List ℕ)
      (adds : Adds h effect more) (kept : Kept h.venue swept) where
    abbrev then_day : AuditTrail
    then_day = day h effect

    with_more : (did added : List Duty)
        → did_in then_day actor.Clock ≡ did_in h.venue actor.Clock ++ did
        → duties_by actor.Clock then_day.caused ≡ duties_by actor.Clock h.venue.caused ++ added
        → Told (h.venue.facts ++ effect.facts) (sent effect.facts) (closes did)
        → closes added ≡ more → Kept then_day (swept ++ more)
    with_more did added did_is left_is also more_is = record {
      told = record {
        requests = kept.told.requests ++ also.requests;
        accepted = every_both
            (λ (request : AcceptedRequest). In (Asked request) (market_facts investor then_day.facts))
            kept.told.requests also.requests
            (accepted_later h.venue.facts effect.facts kept.told.requests kept.told.accepted) also.accepted;
        says = subst (λ (l : List (List ℕ)). Says expires market l (ids (kept.told.requests ++ also.requests)))
            (sym (sent_grown investor h.venue.facts effect.facts))
            (subst (Says expires market (sent h.venue.facts ++ sent effect.facts))
            (sym (map-append (λ (request : AcceptedRequest). request.id) kept.told.requests also.requests))
            (says_both expires market (sent h.venue.facts) (sent effect.facts) (ids kept.told.requests)
            (ids also.requests) kept.told.says also.says));
        numbers_are = map-append (λ (request : AcceptedRequest). request.number) kept.told.requests also.requests
            ∙ ap (λ (l : List ℕ). l ++ numbers also.requests) kept.told.numbers_are
            ∙ ap (λ (l : List ℕ). closes (did_in h.venue actor.Clock) ++ l) also.numbers_are
            ∙ sym (filter_map-append (close_in investor) (did_in h.venue actor.Clock) did)
            ∙ sym (ap (λ (l : List Duty). closes l) did_is);
      };
      swept_are = ap (λ (l : List Duty). closes l) left_is
          ∙ filter_map-append (close_in investor) (duties_by actor.Clock h.venue.caused) added
          ∙ ap (λ (l : List ℕ). l ++ closes added) kept.swept_are
          ∙ ap (λ (l : List ℕ). swept ++ l) more_is;
      own = every_then h effect OwnClose kept.own adds.own;
    }

    kept_then : Kept then_day (swept ++ more)
    kept_then = elim (share h effect actor.Clock) [
      | its_own one did_is left_is ↦
          (let brings = adds.clock one in
          with_more (doing_now h.venue h.by h.doing) effect.duties did_is left_is brings.0 brings.1)
      | anothers differs did_is left_is ↦
          (let brings = adds.other differs in
          with_more [] [] did_is left_is brings.0 (sym brings.1))
    ]

  -- A turn.

  module _ (facts : List Fact) (by : Actor) where
    abbrev brings_of : Duty → Effect
    brings_of d = duty_effect config facts by d

    plain : (d : Duty) → IsNoClose d → Told (facts ++ (brings_of d).facts) (sent (brings_of d).facts) []
    plain d isnt = told_none (facts ++ (brings_of d).facts) (sent (brings_of d).facts)
        (duty_quiet expires config facts investor row is by d (hushed config d isnt)).says

    module _ (n moment : ℕ) where
      abbrev closing : Duty
      closing = duty.Close (record { investor = investor; n = n }) moment

      abbrev its_book : InvestorBook
      its_book = investor_trail.book_by (of_investor investor facts)

      expiry_said : (own : StandingRequest) → request_numbered its_book n ≡ Some own
          → filter_map (expires moment) (investor_output.event_messages market its_book (at_investor.Closed n moment))
          ≡ own.request.id ∷ []
      unfolding investor_output.event_messages
      expiry_said own found = rw found refl

      numbered : (own : StandingRequest) → request_numbered its_book n ≡ Some own
          → In (Asked own.request) (market_facts investor facts) × (own.request.number ≡ n)
      unfolding request_numbered
      numbered own found =
          let there = found_there (λ (r : StandingRequest). r.request.number == n) its_book.requests own found in (
            requests_in (market_facts investor facts) own there.0,
            eqb-true own.request.number n there.1,
          )

      close_own : is_met config facts by closing ≡ true
          → Told (facts ++ (brings_of closing).facts) (sent (brings_of closing).facts) (n ∷ [])
      unfolding is_met duty_effect
      close_own fit =
          let known = and_parts (is_some (request_numbered its_book n)) true (rw is at fit) in
          let own = some_of (request_numbered its_book n) known.0 in
          let effect = at_market facts market (at_investor.Closed n moment) [] in
          let told : Told (facts ++ effect.facts) (sent effect.facts) (n ∷ []) = record {
            requests = own.0.request ∷ [];
            accepted = (
              rw (market_grown investor facts effect.facts)
                  (in_left (Asked own.0.request) (market_facts investor facts) (market_facts investor effect.facts)
                  (numbered own.0 own.1).0),
              tt,
            );
            says = subst (Says expires market (sent effect.facts)) (expiry_said own.0 own.1)
                (event_says expires config facts investor row is (at_investor.Closed n moment) []);
            numbers_are = ap (λ (m : ℕ). m ∷ []) (numbered own.0 own.1).1;
          } in
          rw (is, known.0) told

    turn_clock : (d : Duty) → is_met config facts by d ≡ true
        → Told (facts ++ (brings_of d).facts) (sent (brings_of d).facts) (closes (d ∷ []))
    turn_clock (duty.Close room moment) fit = elim (cases_Bool (room.investor == investor)) [
      | inl same ↦ rw same (subst (λ (i : ℕ).
          is_met config facts by (duty.Close (record { investor = i; n = room.n }) moment) ≡ true
          → Told (facts ++ (brings_of (duty.Close (record { investor = i; n = room.n }) moment)).facts)
          (sent (brings_of (duty.Close (record { investor = i; n = room.n }) moment)).facts) (room.n ∷ []))
          (sym (eqb-true room.investor investor same)) (close_own room.n moment) fit)
      | inr differs ↦ rw differs (told_none (facts ++ (brings_of (duty.Close room moment)).facts)
          (sent (brings_of (duty.Close room moment)).facts)
          (close_other expires config facts investor row is by room moment differs).says)
    ]
    turn_clock other fit = plain other tt

    turn_other : (d : Duty) → OwnClose by d → is_same_actor by actor.Clock ≡ false
        → Told (facts ++ (brings_of d).facts) (sent (brings_of d).facts) []
    turn_other (duty.Close room moment) own differs =
        absurd (false≢true (sym differs ∙ ap (λ (a : Actor). is_same_actor a actor.Clock) own))
    turn_other other own differs = plain other tt

  turn_kept : (venue : AuditTrail) (stood : VenueOk config venue) (by : Actor) (duties : List Duty)
      → pending by venue ≡ duties → (swept : List ℕ) → Kept venue swept
      → Kept (after_turn config by venue duties) (swept ++ [])
  turn_kept venue stood by [] waits swept kept = subst (Kept venue) (sym (append-nil swept)) kept
  turn_kept venue stood by (d ∷ rest) waits swept kept =
      let brought = duty_effect config venue.facts by d in
      let own : Every (OwnClose by) (d ∷ rest) = subst (Every (OwnClose by)) waits
      (every_drop (OwnClose by) (turns_of by venue.done) (duties_by by venue.caused) (kept.own by)) in
      let fits = pending_ok stood by d rest waits in
      let fit = met stood by words d (fits.0 venue (later_same venue)) fits.1 in
      let none = leaves_none config venue.facts by d in
      kept_then (record { config = config; venue = venue; stood = stood; by = by; doing = turn d rest waits })
      brought [] swept (record {
        clock = λ one. (turn_clock venue.facts by d fit, no_closes investor brought.duties none);
        other = λ differs. (turn_other venue.facts by d own.0 differs, refl);
        own = own_of by brought.duties none;
      }) kept

  -- A message and a sweep.

  abbrev here_beside : (venue : AuditTrail) → VenueOk config venue → Actor → Here
  here_beside venue stood by =
      record { config = config; venue = venue; stood = stood; by = by; doing = beside }

  step_kept : (venue : AuditTrail) (stood : VenueOk config venue) (more : Step) (swept : List ℕ)
      → Kept venue swept → Kept (after_step config venue more) (swept ++ swept_at config investor venue more)
  unfolding after_step
  step_kept venue stood (step.In firm moment bytes) swept kept =
      let effect = message_effect config venue.facts firm moment bytes in
      let none = message_none config venue.facts firm moment bytes in
      kept_then (here_beside venue stood (actor.Firm firm)) effect [] swept (record {
        clock = λ one. cc;
        other = λ differs. (
          told_none (venue.facts ++ effect.facts) (sent effect.facts)
              (message_quiet expires config venue.facts investor row is firm moment bytes
              (received_silent moment bytes)).says,
          refl,
        );
        own = own_of (actor.Firm firm) effect.duties none;
      }) kept
  step_kept venue stood (step.Turn by) swept kept =
      turn_kept venue stood by (pending by venue) refl swept kept
  step_kept venue stood (step.Expire room moment) swept kept =
      let effect = sweep_effect config venue.facts room moment in
      kept_then (here_beside venue stood actor.Clock) effect
      (filter_map (ends_in investor) effect.facts) swept (record {
        clock = λ one. (
          told_none (venue.facts ++ effect.facts) (sent effect.facts)
              (sweep_quiet expires config venue.facts investor row is room moment).says,
          sweep_closes config venue.facts investor room moment,
        );
        other = λ differs. absurd (false≢true (sym differs));
        own = sweep_own config venue.facts room moment;
      }) kept

  -- After every list of steps.

  abbrev swept_behind : List Step → List Step → List ℕ
  swept_behind before steps = swept_from config investor (audit_trail config before) steps

  steps_kept : (before steps : List Step) (swept : List ℕ) → Kept (audit_trail config before) swept
      → Kept (audit_trail config (before ++ steps)) (swept ++ swept_behind before steps)
  steps_kept before [] swept kept =
      subst (λ (l : List Step). Kept (audit_trail config l) (swept ++ [])) (sym (append-nil before))
      (subst (Kept (audit_trail config before)) (sym (append-nil swept)) kept)
  steps_kept before (more ∷ steps) swept kept =
      let then_one = one_more lone words config before more in
      let first = swept_at config investor (audit_trail config before) more in
      let behind = swept_behind (before ++ more ∷ []) steps in
      let at : swept_from config investor (after_step config (audit_trail config before) more) steps ≡ behind =
      ap (λ (venue : AuditTrail). swept_from config investor venue steps) (sym then_one) in
      subst (λ (l : List Step). Kept (audit_trail config l) (swept ++ swept_behind before (more ∷ steps)))
      (append_assoc before (more ∷ []) steps)
      (subst (Kept (audit_trail config ((before ++ more ∷ []) ++ steps)))
      (append_assoc swept first behind ∙ ap (λ (l : List ℕ). swept ++ (first ++ l)) (sym at))
      (steps_kept (before ++ more ∷ []) steps (swept ++ first)
      (subst (λ (venue : AuditTrail). Kept venue (swept ++ first)) (sym then_one)
      (step_kept (audit_trail config before) (venue_ok lone words config before) more swept kept))))

  start_kept : Kept (audit_trail config []) []
  unfolding audit_trail of_investor
  start_kept = record {
    told = record { requests = []; accepted = tt; says = says_none expires market; numbers_are = refl };
    swept_are = refl;
    own = λ by. tt;
  }

  all_kept : (steps : List Step) → Kept (audit_trail config steps) (requests_swept config investor steps)
  unfolding audit_trail
  all_kept steps = steps_kept [] steps [] start_kept

  pub all_told : (steps : List Step) → NoDutyIsLeft (audit_trail config steps)
      → AreExpired market (market_facts investor (audit_trail config steps).facts)
      (sent_to config investor (audit_trail config steps)) (requests_swept config investor steps)
  all_told steps idle =
      let kept = all_kept steps in
      let all = did_all lone words config steps idle (record { investor = investor; n = 0 }) actor.Clock in
      record {
        says = kept.told.says.says;
        sent_are = investor_sent config investor row is (audit_trail config steps) ∙ kept.told.says.sent_are;
        requests = kept.told.requests;
        accepted = kept.told.accepted;
        expiries_are = kept.told.says.items_are;
        swept_are = kept.told.numbers_are ∙ ap (λ (l : List Duty). closes l) all ∙ kept.swept_are;
      }
