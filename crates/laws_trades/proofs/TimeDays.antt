-- The moment of a trade, after every list of steps.
use Rattle.std.proofs.Common.{◌≡◌, ◌==◌, ◌&&◌, ℕ, Bool, true, false, not, List, [], ◌∷◌, ◌++◌, map, fold, drop}
use Rattle.std.proofs.Common.{count_by, filter_map, zero, suc, Option, Some, None, is_some, option_map, refl, sym, ap, ◌∙◌}
use Rattle.std.proofs.Common.{subst, inl, inr, if◌then◌else◌}
use Rattle.std.proofs.lemmas.Bool.{cases_Bool, eqb-true, false≢true}
use Rattle.std.proofs.lemmas.List.Elements.{filter_map-append}
use Rattle.std.proofs.lemmas.Option.{same_Some}
use Rattle.market_terms.specs.declared.closes.Close.{Close}
use Rattle.market_terms.specs.declared.closes.Close.TheVariants as closes
use Rattle.market_terms.specs.declared.duties.Duty.{Duty}
use Rattle.market_terms.specs.declared.rooms.RoomRef.{RoomRef}
use Rattle.quote_messages.specs.declared.out_messages.ClosingNotice.{ClosingNotice}
use Rattle.quote_messages.specs.declared.out_messages.OutMessage.{OutMessage}
use Rattle.quote_messages.specs.declared.out_messages.OutMessage.TheVariants as out
use Rattle.quote_word.specs.declared.settled.Settled.{Settled}
use Rattle.venue_rows.specs.Rows.{Configuration, dealer_numbered}
use Rattle.venue_rows.specs.declared.dealer_rows.DealerRow.{DealerRow}
use Rattle.venue_steps.specs.declared.actors.Actor.{Actor}
use Rattle.venue_steps.specs.declared.actors.Actor.TheVariants as actor
use Rattle.dealer_desk.specs.DealerFacts.{DealerBook, DealerFact, Told, quote_to_drop, request_numbered}
use Rattle.dealer_desk.specs.DealerOutput.{closable, drop_message, event_facts, event_message, moment_of}
use Rattle.dealer_desk.specs.DealerOutput.{notice_of, untold, verdict_message}
use Rattle.dealer_desk.specs.DealerRules.{dealer_verdict}
use Rattle.dealer_desk.specs.declared.events.DealerEvent.{DealerEvent}
use Rattle.dealer_desk.specs.declared.events.DealerEvent.TheVariants as at_desk
use Rattle.dealer_desk.specs.declared.standing.StandingQuote.{StandingQuote}
use Rattle.dealer_desk.specs.declared.standing.StandingRequest.{StandingRequest}
use Rattle.dealer_desk.specs.declared.verdicts.DealerVerdict.{DealerVerdict}
use Rattle.dealer_desk.specs.declared.verdicts.DealerVerdict.TheVariants as verdict
use Rattle.request_room.specs.RoomFacts.{Ended, RoomFact, ended_as, first_said, is_awarded_kind}
use Rattle.request_room.specs.RoomFacts.{is_ended, is_ready}
use Rattle.request_room.specs.declared.ends.End.{End}
use Rattle.step_replay.specs.AuditTrail.{AuditTrail, Caused, after_step, after_turn, audit_trail}
use Rattle.step_replay.specs.AuditTrail.{duty_of, is_same_actor, no_steps, pending, with_effect}
use Rattle.step_replay.specs.Actions.{Effect}
use Rattle.step_replay.specs.DealerGrowth.{facts_grown}
use Rattle.step_replay.specs.DealerTrail as dealer_trail
use Rattle.step_replay.specs.DealerTrail.{DealerEntry}
use Rattle.step_replay.specs.DutyEffects.{duty_effect, message_effect, sweep_effect}
use Rattle.step_replay.specs.EachLemmas.{every_both, every_weaker}
use Rattle.step_replay.specs.GrowthLemmas.{all_in, in_left, in_right}
use Rattle.step_replay.specs.Lists.{Every, In}
use Rattle.step_replay.specs.VenueFacts.{AtDealer, Fact, InRoom, of_dealer}
use Rattle.step_replay.specs.VenueFacts.{of_room}
use Rattle.step_replay.specs.declared.steps.Step.{Step}
use Rattle.step_replay.specs.declared.steps.Step.TheVariants as step
use Rattle.laws_trades.specs.Awards.{IsInTime}
use Rattle.laws_trades.specs.TradeTimes.{IsAwarded, IsHitOf, IsToldAt}
use Rattle.laws_trades.specs.Withdrawals.{IsSaid}
use Rattle.laws_trades.proofs.AwardedWords.{found_passes}
use Rattle.laws_trades.proofs.TimeDuties.{duty_brings, message_brings, sweep_brings}
use Rattle.laws_trades.proofs.TimeParts.{Brings, DutyTimed, FactTimed, duty_grown, fact_grown}
use Rattle.laws_trades.proofs.WithdrawalLemmas.{AtOne, Before, Behind, places}
use Rattle.laws_days.proofs.PlainFacts.{at_dealer_all, in_room_all}

-- Lists.

every_found : (config : Configuration) (facts : List Fact) (by : Actor) (caused : List Caused)
    → Every (λ (c : Caused). DutyTimed config facts c.duty) caused
    → Every (DutyTimed config facts) (filter_map (duty_of by) caused)
every_found config facts by [] every = tt
every_found config facts by (c ∷ caused) every = elim (cases_Bool (is_same_actor c.by by)) [
  | inl same ↦ rw same (every.0, every_found config facts by caused every.1)
  | inr differs ↦ rw differs (every_found config facts by caused every.1)
]

every_drop : {A : Type 0} (P : A → Type 0) (n : ℕ) (xs : List A) → Every P xs → Every P (drop n xs)
every_drop P zero xs every = every
every_drop P (suc n) [] every = tt
every_drop P (suc n) (x ∷ xs) every = every_drop P n xs every.1

every_caused : (config : Configuration) (facts : List Fact) (by : Actor) (duties : List Duty)
    → Every (DutyTimed config facts) duties
    → Every (λ (c : Caused). DutyTimed config facts c.duty) (map (λ duty. record { by = by; duty = duty }) duties)
every_caused config facts by [] every = tt
every_caused config facts by (d ∷ duties) every = (every.0, every_caused config facts by duties every.1)

-- A day.
module _ (config : Configuration) where
  pub record Timed (day : AuditTrail) : Type 0 where
    pub facts : Every (FactTimed config day.facts) day.facts
    pub left : Every (λ (c : Caused). DutyTimed config day.facts c.duty) day.caused

  -- more that is brought
  effect_timed : (by : Actor) (day : AuditTrail) (effect : Effect) → Brings config day.facts effect
      → Timed day → Timed (with_effect by day effect)
  effect_timed by day effect brings timed = record {
    facts = every_both (FactTimed config (day.facts ++ effect.facts)) day.facts effect.facts
        (every_weaker (FactTimed config day.facts) (FactTimed config (day.facts ++ effect.facts))
        (fact_grown config day.facts effect.facts) day.facts timed.facts) brings.facts_are;
    left = every_both (λ (c : Caused). DutyTimed config (day.facts ++ effect.facts) c.duty) day.caused
        (map (λ duty. record { by = by; duty = duty }) effect.duties)
        (every_weaker (λ (c : Caused). DutyTimed config day.facts c.duty)
        (λ (c : Caused). DutyTimed config (day.facts ++ effect.facts) c.duty)
        (λ c is. duty_grown config day.facts effect.facts c.duty is) day.caused timed.left)
        (every_caused config (day.facts ++ effect.facts) by effect.duties brings.duties_are);
  }

  turn_timed : (by : Actor) (day : AuditTrail) (duties : List Duty) → pending by day ≡ duties → Timed day
      → Timed (after_turn config by day duties)
  turn_timed by day [] is timed = timed
  turn_timed by day (d ∷ rest) is timed =
      let waits : Every (DutyTimed config day.facts) (d ∷ rest) =
      subst (Every (DutyTimed config day.facts)) is
      (every_drop (DutyTimed config day.facts) (count_by (is_same_actor by) day.done)
      (filter_map (duty_of by) day.caused) (every_found config day.facts by day.caused timed.left)) in
      effect_timed by (record day { done = day.done ++ by ∷ [] }) (duty_effect config day.facts by d)
      (duty_brings config day.facts by d waits.0) (record { facts = timed.facts; left = timed.left })

  step_timed : (day : AuditTrail) (s : Step) → Timed day → Timed (after_step config day s)
  unfolding after_step
  step_timed day (step.In firm moment bytes) timed =
      effect_timed (actor.Firm firm) day (message_effect config day.facts firm moment bytes)
      (message_brings config day.facts firm moment bytes) timed
  step_timed day (step.Turn by) timed = turn_timed by day (pending by day) refl timed
  step_timed day (step.Expire room moment) timed =
      effect_timed actor.Clock day (sweep_effect config day.facts room moment)
      (sweep_brings config day.facts room moment) timed

  steps_timed : (steps : List Step) (day : AuditTrail) → Timed day
      → Timed (fold (after_step config) day steps)
  steps_timed [] day timed = timed
  steps_timed (s ∷ steps) day timed = steps_timed steps (after_step config day s) (step_timed day s timed)

  pub day_timed : (steps : List Step) → Timed (audit_trail config steps)
  unfolding audit_trail
  day_timed steps = steps_timed steps no_steps (record { facts = tt; left = tt })

-- A room.

pub hit_of_award : (config : Configuration) (steps : List Step) (room : RoomRef) (moment : ℕ)
    → (is : IsAwarded (audit_trail config steps).facts room moment)
    → IsHitOf config (audit_trail config steps).facts room is.end moment
hit_of_award config steps room moment is =
    let facts = (audit_trail config steps).facts in
    all_in (λ (f : RoomFact). FactTimed config facts (InRoom room f)) (Ended is.end moment) (of_room room facts)
    (in_room_all (FactTimed config facts) room facts (day_timed config steps).facts) is.stands is.is_award

some_end : (b : List RoomFact) (end : End) (moment : ℕ) (m : List RoomFact)
    → is_some (first_said ended_as (b ++ Ended end moment ∷ m)) ≡ true
some_end [] end moment m = refl
some_end (Ended other at ∷ b) end moment m = refl
some_end (fact ∷ b) end moment m = some_end b end moment m

not_open : (ready ended : Bool) → ended ≡ true → (ready && not ended) ≡ true → ⊥
not_open true true ended is = false≢true is
not_open false true ended is = false≢true is
not_open ready false ended is = false≢true ended

same_moment : (e f : End) (m n : ℕ) → ◌≡◌ {A = RoomFact} (Ended e m) (Ended f n) → m ≡ n
same_moment e f m n is = cc

pub one_moment : (config : Configuration) (steps : List Step) (room : RoomRef) (moment other : ℕ)
    → ((before after : List RoomFact) (award : End) (at : ℕ)
    → of_room room (audit_trail config steps).facts ≡ before ++ Ended award at ∷ after
    → is_awarded_kind award.kind ≡ true → IsInTime before award at)
    → IsAwarded (audit_trail config steps).facts room moment
    → IsAwarded (audit_trail config steps).facts room other → moment ≡ other
one_moment config steps room moment other in_time is also =
    elim (places (Ended is.end moment) (Ended also.end other) (of_room room (audit_trail config steps).facts)
    is.stands also.stands) [
      | AtOne same ↦ same_moment is.end also.end moment other same
      | Before b m a at ↦
          absurd (not_open (is_ready (b ++ Ended is.end moment ∷ m)) (is_ended (b ++ Ended is.end moment ∷ m))
          (some_end b is.end moment m)
          (in_time (b ++ Ended is.end moment ∷ m) a also.end other at also.is_award).was_open)
      | Behind b m a at ↦
          absurd (not_open (is_ready (b ++ Ended also.end other ∷ m)) (is_ended (b ++ Ended also.end other ∷ m))
          (some_end b also.end other m)
          (in_time (b ++ Ended also.end other ∷ m) a is.end moment at is.is_award).was_open)
    ]

-- A dealer's notice.

in_dealer : (fact : DealerFact) (trail : List DealerEntry) → In fact (dealer_trail.facts_of trail)
    → In (dealer_trail.AtDesk fact) trail
in_dealer fact [] is = absurd is
in_dealer fact (dealer_trail.AtDesk other ∷ trail) (inl is) = inl (ap (λ (f : DealerFact). dealer_trail.AtDesk f) is)
in_dealer fact (dealer_trail.AtDesk other ∷ trail) (inr is) = inr (in_dealer fact trail is)
in_dealer fact (entry ∷ trail) is = inr (in_dealer fact trail is)

-- the event that says a notice tells it
record Tells (date : List ℕ) (row : DealerRow) (stood : List DealerEntry) (event : DealerEvent)
    (notice : ClosingNotice) : Type 0 where
  pub told : In (Told notice.request.number notice.close (moment_of event))
      (event_facts date row (dealer_trail.book_by stood) event)

module _ (date : List ℕ) (row : DealerRow) (stood : List DealerEntry) (notice : ClosingNotice) where
  abbrev book : DealerBook
  book = dealer_trail.book_by stood

  no_verdict : (v : DealerVerdict) (settlement : Option Settled)
      → verdict_message v settlement ≡ Some (out.ClosingNotice notice) → ⊥
  no_verdict verdict.Dropped settlement is = cc
  no_verdict (verdict.OutOfSequence reject) settlement is = cc
  no_verdict (verdict.Rejected reject) settlement is = cc
  no_verdict (verdict.QuoteRefused request id refusal) settlement is = cc
  no_verdict (verdict.CancelRefused id refusal) settlement is = cc
  no_verdict (verdict.DeclineRefused request refusal) settlement is = cc
  no_verdict (verdict.QuoteAccepted request id quote replaced) settlement is = cc
  no_verdict (verdict.CancelAccepted id quote request) settlement is = cc
  no_verdict (verdict.DropsFollow last) settlement is = cc
  no_verdict (verdict.DeclineAccepted request number) settlement is = cc

  no_drop : (settlement : Option Settled) (own : Option StandingQuote)
      → option_map (drop_message settlement) own ≡ Some (out.ClosingNotice notice) → ⊥
  no_drop settlement None is = cc
  no_drop settlement (Some own) is = cc

  -- what a notice says of the request and its end
  abbrev number_said : Option OutMessage → ℕ
  number_said (Some (out.ClosingNotice said)) = said.request.number
  number_said other = 0

  abbrev close_said : Option OutMessage → Close
  close_said (Some (out.ClosingNotice said)) = said.close
  close_said other = closes.Pass

  -- what is found to be told
  numbered : (request : ℕ) (found : StandingRequest) → closable book request ≡ Some found → found.number ≡ request
  unfolding closable request_numbered
  numbered request found is = by_found (request_numbered book request) refl is
    where
      by_told : (told : Bool) (one : StandingRequest) → (if told then None else Some one) ≡ Some found
          → one ≡ found
      by_told true one at = cc
      by_told false one at = same_Some one found at

      by_found : (some : Option StandingRequest) → request_numbered book request ≡ some → untold some ≡ Some found
          → found.number ≡ request
      by_found None at so = cc
      by_found (Some one) at so =
          ap (λ (r : StandingRequest). r.number) (sym (by_told one.is_told one so))
          ∙ eqb-true one.number request
          (found_passes (λ (r : StandingRequest). r.number == request) book.requests one at)

  tells_it : (event : DealerEvent)
      → event_message date row book event ≡ Some (out.ClosingNotice notice) → Tells date row stood event notice
  unfolding event_message event_facts
  tells_it (at_desk.Received moment bytes settlement) is =
      absurd (no_verdict (dealer_verdict date row book moment bytes) settlement is)
  tells_it (at_desk.Shown room ask moment) is = cc
  tells_it (at_desk.Drop last moment settlement) is = absurd (no_drop settlement (quote_to_drop book last) is)
  tells_it (at_desk.Told request close moment) is = by_found (closable book request) refl is
    where
      by_found : (found : Option StandingRequest) → closable book request ≡ found
          → option_map (notice_of book close) found ≡ Some (out.ClosingNotice notice)
          → Tells date row stood (at_desk.Told request close moment) notice
      by_found None at so = cc
      by_found (Some found) at so =
          let number : request ≡ notice.request.number = sym (numbered request found at) ∙ ap number_said so in
          let how : close ≡ notice.close = ap close_said so in
          record {
            told = rw at (inl (ap (λ (n : ℕ). Told n close moment) number
                ∙ ap (λ (c : Close). Told notice.request.number c moment) how));
          }

pub notice_told : (config : Configuration) (steps : List Step) (dealer : ℕ) (row : DealerRow) (bytes : List ℕ)
    (notice : ClosingNotice) → dealer_numbered config dealer ≡ Some row
    → (is : IsSaid config.date row (of_dealer dealer (audit_trail config steps).facts) bytes)
    → is.message ≡ out.ClosingNotice notice → notice.close ≡ closes.Hit
    → IsToldAt (audit_trail config steps).facts dealer notice.request.number (moment_of is.event)
notice_told config steps dealer row bytes notice found is says hit =
    let facts = (audit_trail config steps).facts in
    let trail = of_dealer dealer facts in
    let tells = tells_it config.date row is.stood notice is.event
    (is.says ∙ ap (λ (m : OutMessage). Some m) says) in
    let added = event_facts config.date row (dealer_trail.book_by is.stood) is.event in
    let grown : dealer_trail.facts_of trail ≡ dealer_trail.facts_of is.stood ++ added ++ dealer_trail.facts_of is.after =
    ap dealer_trail.facts_of is.trail_is
    ∙ filter_map-append dealer_trail.fact_in (is.stood ++ dealer_trail.entries_of config.date row is.stood is.event) is.after
    ∙ ap (λ (l : List DealerFact). l ++ dealer_trail.facts_of is.after) (facts_grown config.date row is.stood is.event) in
    let told : In (Told notice.request.number closes.Hit (moment_of is.event)) (dealer_trail.facts_of trail) =
    subst (In (Told notice.request.number closes.Hit (moment_of is.event))) (sym grown)
    (in_left (Told notice.request.number closes.Hit (moment_of is.event)) (dealer_trail.facts_of is.stood ++ added)
    (dealer_trail.facts_of is.after)
    (in_right (Told notice.request.number closes.Hit (moment_of is.event)) (dealer_trail.facts_of is.stood) added
    (subst (λ (c : Close). In (Told notice.request.number c (moment_of is.event)) added) hit tells.told))) in
    all_in (λ (e : DealerEntry). FactTimed config facts (AtDealer dealer e))
    (dealer_trail.AtDesk (Told notice.request.number closes.Hit (moment_of is.event))) trail
    (at_dealer_all (FactTimed config facts) dealer facts (day_timed config steps).facts)
    (in_dealer (Told notice.request.number closes.Hit (moment_of is.event)) trail told)
