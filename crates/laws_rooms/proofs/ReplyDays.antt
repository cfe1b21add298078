-- Each hit and each pass of an investor is answered in its turn, after every list of steps.
use Rattle.std.proofs.Common.{◌≡◌, ◌==◌, ℕ, true, false, List, [], ◌∷◌, ◌++◌, filter_map}
use Rattle.std.proofs.Common.{Some, refl, sym, ap, ◌∙◌, subst}
use Rattle.std.proofs.lemmas.Bool.{eq-eqb}
use Rattle.std.proofs.lemmas.List.{append-nil, append_assoc}
use Rattle.std.proofs.lemmas.List.Elements.{filter_map-append}
use Rattle.market_terms.specs.declared.duties.Duty.{Duty}
use Rattle.market_terms.specs.declared.duties.Duty.TheVariants as duty
use Rattle.market_terms.specs.declared.rooms.RoomRef.{RoomRef}
use Rattle.venue_rows.specs.Rows.{Configuration, investor_numbered}
use Rattle.venue_rows.specs.declared.investor_rows.InvestorRow.{InvestorRow}
use Rattle.venue_steps.specs.declared.actors.Actor.{Actor}
use Rattle.venue_steps.specs.declared.actors.Actor.TheVariants as actor
use Rattle.investor_desk.specs.InvestorDesk.{market_of}
use Rattle.investor_desk.specs.InvestorRules.{InvestorMarket}
use Rattle.step_replay.specs.Actions.{Effect}
use Rattle.step_replay.specs.AuditTrail.{AuditTrail, after_step, after_turn, audit_trail, is_same_actor}
use Rattle.step_replay.specs.AuditTrail.{pending, sent_to}
use Rattle.step_replay.specs.DutyEffects.{duty_effect, message_effect, sweep_effect}
use Rattle.step_replay.specs.InvestorTrail as investor_trail
use Rattle.step_replay.specs.Lists.{Every}
use Rattle.step_replay.specs.VenueFacts.{Fact, of_investor}
use Rattle.step_replay.specs.declared.steps.Step.{Step}
use Rattle.step_replay.specs.declared.steps.Step.TheVariants as step
use Rattle.laws_days.specs.KeptItems.{every_drop}
use Rattle.laws_days.specs.LiveDuties.{NoDutyIsLeft}
use Rattle.laws_days.specs.Conditions.{is_met}
use Rattle.laws_days.proofs.ConditionMet.{met}
use Rattle.laws_days.proofs.LiveQuotes.{LoneQuotes}
use Rattle.laws_days.proofs.VenueDay.{venue_ok}
use Rattle.laws_days.proofs.VenueDesk.{WordsOfDay}
use Rattle.laws_days.proofs.VenueInvariant.{VenueOk}
use Rattle.laws_days.proofs.VenueKnown.{pending_ok}
use Rattle.laws_days.proofs.VenueParts.{did_in, duties_by, later_same}
use Rattle.laws_days.proofs.VenueSteps.{Here, day}
use Rattle.laws_days.proofs.VenueTurns.{beside, doing_now, turn, turns_of}
use Rattle.laws_rooms.specs.Responses.{AreAnswered, Response, answers, left_at, left_from, response_of, responses_left}
use Rattle.laws_rooms.proofs.ReplyLemmas.{answer_own, hushed, named, received_silent, reply_in}
use Rattle.laws_rooms.proofs.RoomLemmas.{did_all, one_more}
use Rattle.laws_rooms.proofs.SaidLemmas.{Says, answer_other, duty_quiet, investor_sent, message_quiet, says_both}
use Rattle.laws_rooms.proofs.SaidLemmas.{says_none, sent_grown, sweep_quiet}
use Rattle.laws_rooms.proofs.TurnShares.{anothers, every_then, its_own, share}
use Rattle.laws_rooms.proofs.ReplyDuties.{OwnReply, duty_follows, leaves_none, message_none, none_of, own_of}
use Rattle.laws_rooms.proofs.ReplyDuties.{sweep_none}

-- A day.

module _ (lone : LoneQuotes) (words : WordsOfDay) (config : Configuration) (investor : ℕ)
    (row : InvestorRow) (is : investor_numbered config investor ≡ Some row) where
  abbrev me : Actor
  me = actor.Firm investor

  abbrev market : InvestorMarket
  market = market_of config investor row

  abbrev sent : List Fact → List (List ℕ)
  sent facts = investor_trail.sent_by (of_investor investor facts)

  abbrev replies : List Duty → List Response
  replies duties = filter_map reply_in duties

  abbrev responses : List Duty → List Response
  responses duties = filter_map response_of duties

  -- what stands: the answers that were left are to the responses that were done, and those that were
  -- done were sent
  record Kept (venue : AuditTrail) (left : List Response) : Type 0 where
    pub says : Says answers market (sent venue.facts) (replies (did_in venue me))
    pub followed : replies (duties_by me venue.caused) ≡ responses (did_in venue me)
    pub left_are : responses (duties_by me venue.caused) ≡ left
    pub own : (by : Actor) → Every (OwnReply by) (duties_by by venue.caused)

  -- what an action has to bring
  record Adds (h : Here) (effect : Effect) (more : List Response) : Type 0 where
    pub mine : h.by ≡ me → Says answers market (sent effect.facts) (replies (doing_now h.venue h.by h.doing))
        × (responses effect.duties ≡ more)
    pub others : is_same_actor h.by me ≡ false → Says answers market (sent effect.facts) [] × (more ≡ [])
    pub followed : replies effect.duties ≡ responses (doing_now h.venue h.by h.doing)
    pub own : Every (OwnReply h.by) effect.duties

  module _ (h : Here) (effect : Effect) (more : List Response) (left : List Response)
      (adds : Adds h effect more) (kept : Kept h.venue left) where
    abbrev then_day : AuditTrail
    then_day = day h effect

    -- with what the investor did and left more
    with_more : (did added : List Duty) → did_in then_day me ≡ did_in h.venue me ++ did
        → duties_by me then_day.caused ≡ duties_by me h.venue.caused ++ added
        → Says answers market (sent effect.facts) (replies did) → replies added ≡ responses did
        → responses added ≡ more → Kept then_day (left ++ more)
    with_more did added did_is left_is says follow more_is = record {
      says = subst (λ (l : List (List ℕ)). Says answers market l (replies (did_in then_day me)))
          (sym (sent_grown investor h.venue.facts effect.facts))
          (subst (Says answers market (sent h.venue.facts ++ sent effect.facts))
          (sym (ap (λ (l : List Duty). replies l) did_is ∙ filter_map-append reply_in (did_in h.venue me) did))
          (says_both answers market (sent h.venue.facts) (sent effect.facts) (replies (did_in h.venue me))
          (replies did) kept.says says));
      followed = ap (λ (l : List Duty). replies l) left_is
          ∙ filter_map-append reply_in (duties_by me h.venue.caused) added
          ∙ ap (λ (l : List Response). l ++ replies added) kept.followed
          ∙ ap (λ (l : List Response). responses (did_in h.venue me) ++ l) follow
          ∙ sym (filter_map-append response_of (did_in h.venue me) did)
          ∙ sym (ap (λ (l : List Duty). responses l) did_is);
      left_are = ap (λ (l : List Duty). responses l) left_is
          ∙ filter_map-append response_of (duties_by me h.venue.caused) added
          ∙ ap (λ (l : List Response). l ++ responses added) kept.left_are
          ∙ ap (λ (l : List Response). left ++ l) more_is;
      own = every_then h effect OwnReply kept.own adds.own;
    }

    kept_then : Kept then_day (left ++ more)
    kept_then = elim (share h effect me) [
      | its_own one did_is left_is ↦
          (let brings = adds.mine one in
          with_more (doing_now h.venue h.by h.doing) effect.duties did_is left_is brings.0 adds.followed brings.1)
      | anothers differs did_is left_is ↦
          (let brings = adds.others differs in
          with_more [] [] did_is left_is brings.0 refl (sym brings.1))
    ]

  -- A turn.

  same_firm : (one other : ℕ) → actor.Firm one ≡ actor.Firm other → one ≡ other
  same_firm one other same = ap number_of same
    where
      number_of : Actor → ℕ
      number_of (actor.Firm number) = number
      number_of actor.Clock = 0

  turn_mine : (facts : List Fact) (by : Actor) (d : Duty) → OwnReply by d
      → is_met config facts by d ≡ true → by ≡ me
      → Says answers market (sent (duty_effect config facts by d).facts) (replies (d ∷ []))
  turn_mine facts by (duty.Answer room response reply moment) own fit one =
      subst (λ (i : ℕ).
      is_met config facts by (duty.Answer (record { investor = i; n = room.n }) response reply moment) ≡ true
      → Says answers market (sent (duty_effect config facts by
      (duty.Answer (record { investor = i; n = room.n }) response reply moment)).facts) (named response moment ∷ []))
      (sym (same_firm room.investor investor (sym own ∙ one)))
      (answer_own config facts investor row is by room.n response reply moment) fit
  turn_mine facts by other own fit one = (duty_quiet answers config facts investor row is by other (hushed config other tt)).says

  turn_other : (facts : List Fact) (by : Actor) (d : Duty) → OwnReply by d
      → is_same_actor by me ≡ false → Says answers market (sent (duty_effect config facts by d).facts) []
  turn_other facts by (duty.Answer room response reply moment) own differs =
      (answer_other answers config facts investor row is by room response reply moment
      (ap (λ (a : Actor). is_same_actor a me) (sym own) ∙ differs)).says
  turn_other facts by other own differs = (duty_quiet answers config facts investor row is by other (hushed config other tt)).says

  module _ (venue : AuditTrail) (stood : VenueOk config venue) (by : Actor) (d : Duty) (rest : List Duty)
      (waits : pending by venue ≡ d ∷ rest) where
    abbrev here : Here
    here = record { config = config; venue = venue; stood = stood; by = by; doing = turn d rest waits }

    abbrev brought : Effect
    brought = duty_effect config venue.facts by d

    -- what stands of it in the queue
    own_waits : ((other : Actor) → Every (OwnReply other) (duties_by other venue.caused)) → OwnReply by d
    own_waits own =
        let all : Every (OwnReply by) (d ∷ rest) = subst (Every (OwnReply by)) waits
        (every_drop (OwnReply by) (turns_of by venue.done) (duties_by by venue.caused) (own by)) in
        all.0

    turn_adds : OwnReply by d → Adds here brought []
    turn_adds own =
        let fits = pending_ok stood by d rest waits in
        let ok = fits.0 venue (later_same venue) in
        let fit = met stood by words d ok fits.1 in
        let follows = duty_follows config venue.facts venue by d ok fit in
        record {
          mine = λ one. (
            turn_mine venue.facts by d own fit one,
            none_of response_of brought.duties (leaves_none config venue.facts by d),
          );
          others = λ differs. (turn_other venue.facts by d own differs, refl);
          followed = follows.replies;
          own = follows.own;
        }

  turn_kept : (venue : AuditTrail) (stood : VenueOk config venue) (by : Actor) (duties : List Duty)
      → pending by venue ≡ duties → (left : List Response) → Kept venue left
      → Kept (after_turn config by venue duties) (left ++ [])
  turn_kept venue stood by [] waits left kept = subst (Kept venue) (sym (append-nil left)) kept
  turn_kept venue stood by (d ∷ rest) waits left kept =
      kept_then (here venue stood by d rest waits) (brought venue stood by d rest waits) [] left
      (turn_adds venue stood by d rest waits (own_waits venue stood by d rest waits kept.own)) kept

  -- A message and a sweep.

  abbrev here_beside : (venue : AuditTrail) → VenueOk config venue → Actor → Here
  here_beside venue stood by =
      record { config = config; venue = venue; stood = stood; by = by; doing = beside }

  message_adds : (venue : AuditTrail) (stood : VenueOk config venue) (firm moment : ℕ) (bytes : List ℕ)
      → Adds (here_beside venue stood (actor.Firm firm)) (message_effect config venue.facts firm moment bytes)
      (left_at config investor venue (step.In firm moment bytes))
  message_adds venue stood firm moment bytes =
      let effect = message_effect config venue.facts firm moment bytes in
      let quiet = message_quiet answers config venue.facts investor row is firm moment bytes (received_silent moment bytes) in
      let none = message_none config venue.facts firm moment bytes in
      record {
        mine = λ one.
            let test : (firm == investor) ≡ true = eq-eqb firm investor (same_firm firm investor one) in
            (quiet.says, rw test refl);
        others = λ differs. (quiet.says, rw differs refl);
        followed = none_of reply_in effect.duties none;
        own = own_of (actor.Firm firm) effect.duties none;
      }

  sweep_adds : (venue : AuditTrail) (stood : VenueOk config venue) (room : RoomRef) (moment : ℕ)
      → Adds (here_beside venue stood actor.Clock) (sweep_effect config venue.facts room moment) []
  sweep_adds venue stood room moment =
      let effect = sweep_effect config venue.facts room moment in
      let none = sweep_none config venue.facts room moment in
      record {
        mine = λ one. cc;
        others = λ differs. ((sweep_quiet answers config venue.facts investor row is room moment).says, refl);
        followed = none_of reply_in effect.duties none;
        own = own_of actor.Clock effect.duties none;
      }

  step_kept : (venue : AuditTrail) (stood : VenueOk config venue) (more : Step) (left : List Response)
      → Kept venue left → Kept (after_step config venue more) (left ++ left_at config investor venue more)
  unfolding after_step
  step_kept venue stood (step.In firm moment bytes) left kept =
      kept_then (here_beside venue stood (actor.Firm firm)) (message_effect config venue.facts firm moment bytes)
      (left_at config investor venue (step.In firm moment bytes)) left
      (message_adds venue stood firm moment bytes) kept
  step_kept venue stood (step.Turn by) left kept =
      turn_kept venue stood by (pending by venue) refl left kept
  step_kept venue stood (step.Expire room moment) left kept =
      kept_then (here_beside venue stood actor.Clock) (sweep_effect config venue.facts room moment) [] left
      (sweep_adds venue stood room moment) kept

  -- After every list of steps.

  abbrev left_behind : List Step → List Step → List Response
  left_behind before steps = left_from config investor (audit_trail config before) steps

  steps_kept : (before steps : List Step) (left : List Response) → Kept (audit_trail config before) left
      → Kept (audit_trail config (before ++ steps)) (left ++ left_behind before steps)
  steps_kept before [] left kept =
      subst (λ (l : List Step). Kept (audit_trail config l) (left ++ [])) (sym (append-nil before))
      (subst (Kept (audit_trail config before)) (sym (append-nil left)) kept)
  steps_kept before (more ∷ steps) left kept =
      let then_one = one_more lone words config before more in
      let first = left_at config investor (audit_trail config before) more in
      let behind = left_behind (before ++ more ∷ []) steps in
      let at : left_from config investor (after_step config (audit_trail config before) more) steps ≡ behind =
      ap (λ (venue : AuditTrail). left_from config investor venue steps) (sym then_one) in
      subst (λ (l : List Step). Kept (audit_trail config l) (left ++ left_behind before (more ∷ steps)))
      (append_assoc before (more ∷ []) steps)
      (subst (Kept (audit_trail config ((before ++ more ∷ []) ++ steps)))
      (append_assoc left first behind ∙ ap (λ (l : List Response). left ++ (first ++ l)) (sym at))
      (steps_kept (before ++ more ∷ []) steps (left ++ first)
      (subst (λ (venue : AuditTrail). Kept venue (left ++ first)) (sym then_one)
      (step_kept (audit_trail config before) (venue_ok lone words config before) more left kept))))

  start_kept : Kept (audit_trail config []) []
  unfolding audit_trail of_investor
  start_kept = record {
    says = says_none answers market;
    followed = refl;
    left_are = refl;
    own = λ by. tt;
  }

  all_kept : (steps : List Step) → Kept (audit_trail config steps) (responses_left config investor steps)
  unfolding audit_trail
  all_kept steps = steps_kept [] steps [] start_kept

  pub all_answered : (steps : List Step) → NoDutyIsLeft (audit_trail config steps)
      → AreAnswered market (sent_to config investor (audit_trail config steps))
      (responses_left config investor steps)
  all_answered steps idle =
      let kept = all_kept steps in
      let all = did_all lone words config steps idle (record { investor = investor; n = 0 }) me in
      record {
        says = kept.says.says;
        sent_are = investor_sent config investor row is (audit_trail config steps) ∙ kept.says.sent_are;
        answers_are = kept.says.items_are ∙ ap (λ (l : List Duty). replies l) all ∙ kept.followed
            ∙ ap (λ (l : List Duty). responses l) all ∙ kept.left_are;
      }
