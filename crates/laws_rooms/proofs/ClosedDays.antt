-- A request that is closed at the desk of its investor has a room that has ended, after every list of steps.
use Rattle.std.proofs.Common.{◌≡◌, ◌||◌, ℕ, Bool, true, false, List, [], ◌∷◌, ◌++◌, drop, take}
use Rattle.std.proofs.Common.{Option, Some, None, is_some, refl, sym, ap, ◌∙◌, subst, inl, inr}
use Rattle.std.specs.List.{list_any}
use Rattle.std.specs.Option.{option_or}
use Rattle.std.proofs.lemmas.Bool.{cases_Bool, false≢true}
use Rattle.std.proofs.lemmas.List.{append-nil, append_assoc, take-append-drop}
use Rattle.market_terms.specs.declared.duties.Duty.{Duty}
use Rattle.market_terms.specs.declared.rooms.RoomRef.{RoomRef}
use Rattle.venue_rows.specs.Rows.{Configuration}
use Rattle.venue_steps.specs.declared.actors.Actor.{Actor}
use Rattle.venue_steps.specs.declared.actors.Actor.TheVariants as actor
use Rattle.investor_desk.specs.InvestorFacts.{InvestorFact, StandingRequest, request_numbered}
use Rattle.investor_desk.specs.declared.standing.RequestClose.{RequestClose}
use Rattle.request_room.specs.RoomFacts.{RoomFact, end_of, ended_as, first_said, is_ended}
use Rattle.request_room.specs.declared.ends.End.{End}
use Rattle.step_replay.specs.Actions.{Effect}
use Rattle.step_replay.specs.AuditTrail.{AuditTrail, after_step, after_turn, audit_trail, pending}
use Rattle.step_replay.specs.DutyEffects.{duty_effect, message_effect, sweep_effect}
use Rattle.step_replay.specs.GrowthLemmas.{any_left, any_right, said_grown}
use Rattle.step_replay.specs.PlaceLemmas.{room_grown}
use Rattle.step_replay.specs.VenueFacts.{of_investor, of_room}
use Rattle.step_replay.specs.declared.steps.Step.{Step}
use Rattle.step_replay.specs.declared.steps.Step.TheVariants as step
use Rattle.laws_shown.specs.ShownRequests.{at_investor as market_facts}
use Rattle.laws_days.proofs.LiveQuotes.{LoneQuotes}
use Rattle.laws_days.proofs.VenueDay.{venue_ok}
use Rattle.laws_days.proofs.VenueDesk.{WordsOfDay}
use Rattle.laws_days.proofs.VenueInvariant.{VenueOk}
use Rattle.laws_days.proofs.VenueParts.{duties_by}
use Rattle.laws_days.proofs.VenueSteps.{Here, day}
use Rattle.laws_days.proofs.VenueTurns.{beside, doing_now, turn, turns_of}
use Rattle.laws_rooms.specs.Ends.{IsClosedThere}
use Rattle.laws_rooms.proofs.ClosingLemmas.{EndsToo, duty_ends_too, message_ends_too, sweep_ends_too}
use Rattle.laws_rooms.proofs.EndDays.{any_split}
use Rattle.laws_rooms.proofs.EndLemmas.{closes_it}
use Rattle.laws_rooms.proofs.OpenWalk.{StaysOpen, duty_opens, message_opens, sweep_opens}
use Rattle.laws_rooms.proofs.RoomLemmas.{one_more, some_of}
use Rattle.laws_rooms.proofs.ShutLemmas.{shut, shut_before, shut_in}
use Rattle.laws_rooms.proofs.TellLemmas.{market_grown}
use Rattle.laws_rooms.proofs.TurnShares.{anothers, its_own, share}

-- A room that has ended stays so.

ended_left : (known added : List RoomFact) → is_ended known ≡ true → is_ended (known ++ added) ≡ true
ended_left known added is =
    let end = some_of (end_of known) is in
    ap (λ (e : Option End). is_some e) (said_grown ended_as known added end.0 end.1)

ended_right : (known added : List RoomFact) → is_ended added ≡ true → is_ended (known ++ added) ≡ true
ended_right [] added is = is
ended_right (fact ∷ known) added is = either (ended_as fact) (ended_right known added is)
  where
    either : (o : Option End) → is_ended (known ++ added) ≡ true
        → is_some (option_or o (first_said ended_as (known ++ added))) ≡ true
    either None later = later
    either (Some end) later = refl

any_drop : {A : Type 0} (test : A → Bool) (n : ℕ) (xs : List A) → list_any test (drop n xs) ≡ true
    → list_any test xs ≡ true
any_drop {A} test n xs is =
    subst (λ (l : List A). list_any test l ≡ true) (take-append-drop n xs)
    (any_right test (take n xs) (drop n xs) is)

module _ (lone : LoneQuotes) (words : WordsOfDay) (config : Configuration) (room : RoomRef) where
  abbrev ClosesIt : List Duty → Type 0
  ClosesIt duties = list_any (closes_it room) duties ≡ true

  abbrev HasEnded : AuditTrail → Type 0
  HasEnded venue = is_ended (of_room room venue.facts) ≡ true

  abbrev IsShut : AuditTrail → Type 0
  IsShut venue = shut_in room.n (market_facts room.investor venue.facts) ≡ true

  -- what stands: where someone was left a duty that closes the request, or it is closed, the room has
  -- ended
  record Kept (venue : AuditTrail) : Type 0 where
    pub left : (by : Actor) → ClosesIt (duties_by by venue.caused) → HasEnded venue
    pub shut_so : IsShut venue → HasEnded venue

  -- what an action has to bring
  record Adds (h : Here) (effect : Effect) : Type 0 where
    pub ends : EndsToo config h.venue.facts room effect
    pub was_left : ClosesIt (doing_now h.venue h.by h.doing) → ClosesIt (duties_by h.by h.venue.caused)
    pub opens : list_any (closes_it room) (doing_now h.venue h.by h.doing) ≡ false
        → StaysOpen config h.venue.facts room effect

  module _ (h : Here) (effect : Effect) (adds : Adds h effect) (kept : Kept h.venue) where
    abbrev then_day : AuditTrail
    then_day = day h effect

    stays_ended : HasEnded h.venue → HasEnded then_day
    stays_ended is =
        subst (λ (l : List RoomFact). is_ended l ≡ true) (sym (room_grown room h.venue.facts effect.facts))
        (ended_left (of_room room h.venue.facts) (of_room room effect.facts) is)

    ends_now : ClosesIt effect.duties → HasEnded then_day
    ends_now is =
        subst (λ (l : List RoomFact). is_ended l ≡ true) (sym (room_grown room h.venue.facts effect.facts))
        (ended_right (of_room room h.venue.facts) (of_room room effect.facts) (adds.ends.so is))

    left_then : (by : Actor) → ClosesIt (duties_by by then_day.caused) → HasEnded then_day
    left_then by is = elim (share h effect by) [
      | its_own one did_is left_is ↦
          elim (any_split (closes_it room) (duties_by by h.venue.caused) effect.duties
          (subst ClosesIt left_is is)) [
            | inl before ↦ stays_ended (kept.left by before)
            | inr now ↦ ends_now now
          ]
      | anothers differs did_is left_is ↦
          stays_ended (kept.left by (subst ClosesIt (left_is ∙ append-nil (duties_by by h.venue.caused)) is))
    ]

    shut_then : IsShut then_day → HasEnded then_day
    shut_then is = elim (cases_Bool (list_any (closes_it room) (doing_now h.venue h.by h.doing))) [
      | inl closing ↦ stays_ended (kept.left h.by (adds.was_left closing))
      | inr not_so ↦
          stays_ended (kept.shut_so (shut_before room.n (market_facts room.investor h.venue.facts)
          (market_facts room.investor effect.facts) (adds.opens not_so).each
          (subst (λ (l : List InvestorFact). shut_in room.n l ≡ true)
          (market_grown room.investor h.venue.facts effect.facts) is)))
    ]

    kept_then : Kept then_day
    kept_then = record { left = left_then; shut_so = shut_then }

  -- A turn.

  one_of_it : (b : Bool) → (b || false) ≡ false → b ≡ false
  one_of_it true is = is
  one_of_it false is = refl

  module _ (venue : AuditTrail) (stood : VenueOk config venue) (by : Actor) (d : Duty) (rest : List Duty)
      (waits : pending by venue ≡ d ∷ rest) where
    abbrev here : Here
    here = record { config = config; venue = venue; stood = stood; by = by; doing = turn d rest waits }

    abbrev brought : Effect
    brought = duty_effect config venue.facts by d

    turn_adds : Adds here brought
    turn_adds = record {
      ends = duty_ends_too config venue.facts room by d;
      was_left = λ is. any_drop (closes_it room) (turns_of by venue.done) (duties_by by venue.caused)
          (subst ClosesIt (sym waits) (any_left (closes_it room) (d ∷ []) rest is));
      opens = λ isnt. duty_opens config venue.facts room by d (one_of_it (closes_it room d) isnt);
    }

  turn_kept : (venue : AuditTrail) (stood : VenueOk config venue) (by : Actor) (duties : List Duty)
      → pending by venue ≡ duties → Kept venue → Kept (after_turn config by venue duties)
  turn_kept venue stood by [] waits kept = kept
  turn_kept venue stood by (d ∷ rest) waits kept =
      kept_then (here venue stood by d rest waits) (brought venue stood by d rest waits)
      (turn_adds venue stood by d rest waits) kept

  -- A message and a sweep.

  beside_kept : (venue : AuditTrail) (stood : VenueOk config venue) (by : Actor) (effect : Effect)
      → EndsToo config venue.facts room effect → StaysOpen config venue.facts room effect → Kept venue
      → Kept (day (record { config = config; venue = venue; stood = stood; by = by; doing = beside }) effect)
  beside_kept venue stood by effect ends opens kept =
      kept_then (record { config = config; venue = venue; stood = stood; by = by; doing = beside }) effect
      (record { ends = ends; was_left = λ is. absurd (false≢true is); opens = λ isnt. opens }) kept

  step_kept : (venue : AuditTrail) → VenueOk config venue → (more : Step) → Kept venue
      → Kept (after_step config venue more)
  unfolding after_step
  step_kept venue stood (step.In firm moment bytes) kept =
      beside_kept venue stood (actor.Firm firm) (message_effect config venue.facts firm moment bytes)
      (message_ends_too config venue.facts room firm moment bytes)
      (message_opens config venue.facts room firm moment bytes) kept
  step_kept venue stood (step.Turn by) kept = turn_kept venue stood by (pending by venue) refl kept
  step_kept venue stood (step.Expire at moment) kept =
      beside_kept venue stood actor.Clock (sweep_effect config venue.facts at moment)
      (sweep_ends_too config venue.facts room at moment) (sweep_opens config venue.facts room at moment) kept

  -- After every list of steps.

  steps_kept : (before steps : List Step) → Kept (audit_trail config before)
      → Kept (audit_trail config (before ++ steps))
  steps_kept before [] kept = rw append-nil kept
  steps_kept before (more ∷ steps) kept =
      subst (λ (l : List Step). Kept (audit_trail config l)) (append_assoc before (more ∷ []) steps)
      (steps_kept (before ++ more ∷ []) steps (subst Kept (sym (one_more lone words config before more))
      (step_kept (audit_trail config before) (venue_ok lone words config before) more kept)))

  start_kept : Kept (audit_trail config [])
  unfolding audit_trail of_investor request_numbered
  start_kept = record { left = λ by is. absurd (false≢true is); shut_so = λ is. absurd (false≢true is) }

  pub shut_ended : (steps : List Step) → IsShut (audit_trail config steps) → HasEnded (audit_trail config steps)
  shut_ended steps is = (steps_kept [] steps start_kept).shut_so is

  pub all_ended : (steps : List Step)
      → IsClosedThere (market_facts room.investor (audit_trail config steps).facts) room.n
      → HasEnded (audit_trail config steps)
  all_ended steps is =
      shut_ended steps (ap (λ (found : Option StandingRequest). shut found) is.was_accepted
      ∙ ap (λ (close : Option RequestClose). is_some close) is.is_closed)
