-- A room that has ended is closed at the desk of its investor where no duty is left, after every list
-- of steps.
use Rattle.std.proofs.Common.{◌≡◌, ◌||◌, Bool, true, false, List, [], ◌∷◌, ◌++◌}
use Rattle.std.proofs.Common.{Option, Some, None, refl, sym, ◌∙◌, subst, inl, inr, ◌⊎◌}
use Rattle.std.specs.List.{list_any}
use Rattle.std.proofs.lemmas.Bool.{false≢true}
use Rattle.std.proofs.lemmas.List.{append-nil, append_assoc}
use Rattle.market_terms.specs.declared.duties.Duty.{Duty}
use Rattle.market_terms.specs.declared.rooms.RoomRef.{RoomRef}
use Rattle.venue_rows.specs.Rows.{Configuration}
use Rattle.venue_steps.specs.declared.actors.Actor.{Actor}
use Rattle.venue_steps.specs.declared.actors.Actor.TheVariants as actor
use Rattle.investor_desk.specs.InvestorFacts.{InvestorFact, StandingRequest, book_of, request_numbered}
use Rattle.request_room.specs.RoomFacts.{RoomFact, is_ended}
use Rattle.step_replay.specs.Actions.{Effect}
use Rattle.step_replay.specs.AuditTrail.{AuditTrail, after_step, after_turn, audit_trail, pending}
use Rattle.step_replay.specs.DutyEffects.{duty_effect, message_effect, sweep_effect}
use Rattle.step_replay.specs.GrowthLemmas.{any_left, any_right}
use Rattle.step_replay.specs.PlaceLemmas.{room_grown}
use Rattle.step_replay.specs.VenueFacts.{of_room}
use Rattle.step_replay.specs.declared.steps.Step.{Step}
use Rattle.step_replay.specs.declared.steps.Step.TheVariants as step
use Rattle.laws_days.specs.LiveDuties.{NoDutyIsLeft}
use Rattle.laws_shown.specs.ShownRequests.{at_investor as market_facts}
use Rattle.laws_days.proofs.ConditionMet.{met}
use Rattle.laws_days.proofs.LiveQuotes.{LoneQuotes}
use Rattle.laws_days.proofs.VenueDay.{venue_ok}
use Rattle.laws_days.proofs.VenueDesk.{WordsOfDay}
use Rattle.laws_days.proofs.VenueInvariant.{VenueOk}
use Rattle.laws_days.proofs.VenueKnown.{pending_ok}
use Rattle.laws_days.proofs.VenueParts.{did_in, duties_by, later_same}
use Rattle.laws_days.proofs.VenueSteps.{Here, day}
use Rattle.laws_days.proofs.VenueTurns.{beside, doing_now, own_left, turn}
use Rattle.laws_rooms.specs.Ends.{IsClosedThere}
use Rattle.laws_rooms.proofs.EndLemmas.{Ends, closes_it, duty_ends, ended_split, message_ends, sweep_ends}
use Rattle.laws_rooms.proofs.EndLemmas.{turn_shuts}
use Rattle.laws_rooms.proofs.RoomLemmas.{did_all, one_more, some_of}
use Rattle.laws_rooms.proofs.ShutLemmas.{shut, shut_grown, shut_in}
use Rattle.laws_rooms.proofs.TellLemmas.{market_grown}
use Rattle.laws_rooms.proofs.TurnShares.{anothers, its_own, share}

-- what holds of one of two lists' items holds of one of the first's, or of the second's
pub any_split : {A : Type 0} (test : A → Bool) (xs ys : List A) → list_any test (xs ++ ys) ≡ true
    → (list_any test xs ≡ true) ⊎ (list_any test ys ≡ true)
any_split test [] ys is = inr is
any_split test (x ∷ xs) ys is = either (test x) (any_split test xs ys) is
  where
    either : (b : Bool)
        → (list_any test (xs ++ ys) ≡ true → (list_any test xs ≡ true) ⊎ (list_any test ys ≡ true))
        → (b || list_any test (xs ++ ys)) ≡ true
        → ((b || list_any test xs) ≡ true) ⊎ (list_any test ys ≡ true)
    either true later so = inl refl
    either false later so = later so

module _ (lone : LoneQuotes) (words : WordsOfDay) (config : Configuration) (room : RoomRef) where
  abbrev ClosesIt : List Duty → Type 0
  ClosesIt duties = list_any (closes_it room) duties ≡ true

  abbrev HasEnded : AuditTrail → Type 0
  HasEnded venue = is_ended (of_room room venue.facts) ≡ true

  abbrev IsShut : AuditTrail → Type 0
  IsShut venue = shut_in room.n (market_facts room.investor venue.facts) ≡ true

  -- what stands: a room that has ended left someone a duty that closes its request, and where one was
  -- done the request is closed
  record Kept (venue : AuditTrail) : Type 0 where
    pub left : HasEnded venue → (by : Actor) × ClosesIt (duties_by by venue.caused)
    pub done : (by : Actor) → ClosesIt (did_in venue by) → IsShut venue

  -- what an action has to bring
  record Adds (h : Here) (effect : Effect) : Type 0 where
    pub ends : Ends config h.venue.facts room effect
    pub shuts : ClosesIt (doing_now h.venue h.by h.doing) → IsShut (day h effect)

  module _ (h : Here) (effect : Effect) (adds : Adds h effect) (kept : Kept h.venue) where
    abbrev then_day : AuditTrail
    then_day = day h effect

    stays_shut : IsShut h.venue → IsShut then_day
    stays_shut is =
        subst (λ (l : List InvestorFact). shut_in room.n l ≡ true)
        (sym (market_grown room.investor h.venue.facts effect.facts))
        (shut_grown room.n (market_facts room.investor h.venue.facts)
        (market_facts room.investor effect.facts) is)

    -- what was left stays so
    still_left : (by : Actor) → ClosesIt (duties_by by h.venue.caused) → ClosesIt (duties_by by then_day.caused)
    still_left by is = elim (share h effect by) [
      | its_own one did_is left_is ↦
          subst ClosesIt (sym left_is)
          (any_left (closes_it room) (duties_by by h.venue.caused) effect.duties is)
      | anothers differs did_is left_is ↦
          subst ClosesIt (sym left_is) (any_left (closes_it room) (duties_by by h.venue.caused) [] is)
    ]

    left_then : HasEnded then_day → (by : Actor) × ClosesIt (duties_by by then_day.caused)
    left_then is =
        let known = of_room room h.venue.facts in
        let added = of_room room effect.facts in
        elim (ended_split known added
        (subst (λ (l : List RoomFact). is_ended l ≡ true) (room_grown room h.venue.facts effect.facts) is)) [
          | inl before ↦ (let was = kept.left before in (was.0, still_left was.0 was.1))
          | inr now ↦ (
            h.by,
            subst ClosesIt (sym (own_left h.venue h.by effect))
                (any_right (closes_it room) (duties_by h.by h.venue.caused) effect.duties (adds.ends.so now)),
          )
        ]

    done_then : (by : Actor) → ClosesIt (did_in then_day by) → IsShut then_day
    done_then by is = elim (share h effect by) [
      | its_own one did_is left_is ↦
          elim (any_split (closes_it room) (did_in h.venue by) (doing_now h.venue h.by h.doing)
          (subst ClosesIt did_is is)) [
            | inl before ↦ stays_shut (kept.done by before)
            | inr now ↦ adds.shuts now
          ]
      | anothers differs did_is left_is ↦
          stays_shut (kept.done by (subst ClosesIt (did_is ∙ append-nil (did_in h.venue by)) is))
    ]

    kept_then : Kept then_day
    kept_then = record { left = left_then; done = done_then }

  -- A turn.

  module _ (venue : AuditTrail) (stood : VenueOk config venue) (by : Actor) (d : Duty) (rest : List Duty)
      (waits : pending by venue ≡ d ∷ rest) where
    abbrev here : Here
    here = record { config = config; venue = venue; stood = stood; by = by; doing = turn d rest waits }

    abbrev brought : Effect
    brought = duty_effect config venue.facts by d

    one_of_it : (b : Bool) → (b || false) ≡ true → b ≡ true
    one_of_it true is = refl
    one_of_it false is = is

    turn_adds : Adds here brought
    turn_adds =
        let fits = pending_ok stood by d rest waits in
        let fit = met stood by words d (fits.0 venue (later_same venue)) fits.1 in
        record {
          ends = duty_ends config venue.facts room by d;
          shuts = λ is. (turn_shuts config venue.facts room by d (one_of_it (closes_it room d) is) fit).so;
        }

  turn_kept : (venue : AuditTrail) (stood : VenueOk config venue) (by : Actor) (duties : List Duty)
      → pending by venue ≡ duties → Kept venue → Kept (after_turn config by venue duties)
  turn_kept venue stood by [] waits kept = kept
  turn_kept venue stood by (d ∷ rest) waits kept =
      kept_then (here venue stood by d rest waits) (brought venue stood by d rest waits)
      (turn_adds venue stood by d rest waits) kept

  -- A message and a sweep.

  beside_kept : (venue : AuditTrail) (stood : VenueOk config venue) (by : Actor) (effect : Effect)
      → Ends config venue.facts room effect → Kept venue
      → Kept (day (record { config = config; venue = venue; stood = stood; by = by; doing = beside }) effect)
  beside_kept venue stood by effect ends kept =
      kept_then (record { config = config; venue = venue; stood = stood; by = by; doing = beside }) effect
      (record { ends = ends; shuts = λ is. absurd (false≢true is) }) kept

  step_kept : (venue : AuditTrail) → VenueOk config venue → (more : Step) → Kept venue
      → Kept (after_step config venue more)
  unfolding after_step
  step_kept venue stood (step.In firm moment bytes) kept =
      beside_kept venue stood (actor.Firm firm) (message_effect config venue.facts firm moment bytes)
      (message_ends config venue.facts room firm moment bytes) kept
  step_kept venue stood (step.Turn by) kept = turn_kept venue stood by (pending by venue) refl kept
  step_kept venue stood (step.Expire at moment) kept =
      beside_kept venue stood actor.Clock (sweep_effect config venue.facts at moment)
      (sweep_ends config venue.facts room at moment) kept

  -- After every list of steps.

  steps_kept : (before steps : List Step) → Kept (audit_trail config before)
      → Kept (audit_trail config (before ++ steps))
  steps_kept before [] kept = rw append-nil kept
  steps_kept before (more ∷ steps) kept =
      subst (λ (l : List Step). Kept (audit_trail config l)) (append_assoc before (more ∷ []) steps)
      (steps_kept (before ++ more ∷ []) steps (subst Kept (sym (one_more lone words config before more))
      (step_kept (audit_trail config before) (venue_ok lone words config before) more kept)))

  start_kept : Kept (audit_trail config [])
  unfolding audit_trail of_room
  start_kept = record { left = λ is. absurd (false≢true is); done = λ by is. absurd (false≢true is) }

  -- a request that was found closed
  closed_there : (facts : List InvestorFact) (found : Option StandingRequest)
      → request_numbered (book_of facts) room.n ≡ found → shut found ≡ true → IsClosedThere facts room.n
  closed_there facts None at is = absurd (false≢true is)
  closed_there facts (Some own) at is =
      let how = some_of own.close is in
      record { own = own; was_accepted = at; how = how.0; is_closed = how.1 }

  pub all_closed : (steps : List Step) → NoDutyIsLeft (audit_trail config steps)
      → HasEnded (audit_trail config steps)
      → IsClosedThere (market_facts room.investor (audit_trail config steps).facts) room.n
  all_closed steps idle ended =
      let venue = audit_trail config steps in
      let kept = steps_kept [] steps start_kept in
      let left = kept.left ended in
      let facts = market_facts room.investor venue.facts in
      closed_there facts (request_numbered (book_of facts) room.n) refl
      (kept.done left.0 (subst ClosesIt (sym (did_all lone words config steps idle room left.0)) left.1))
