-- The clock has no duty left behind a step and the turns of its actor: a sweep leaves it few
-- notices, and none of them leaves more.
use Rattle.std.proofs.Common.{◌≡◌, ◌≤◌, ℕ, zero, suc, Bool, true, false, ◌&&◌, List, [], ◌∷◌, ◌++◌}
use Rattle.std.proofs.Common.{map, length, fold, replicate, refl, ap, ◌∙◌, arith, if◌then◌else◌}
use Rattle.std.proofs.lemmas.List.{append-nil, length-map}
use Rattle.market_terms.specs.declared.closes.Close.{Close}
use Rattle.market_terms.specs.declared.duties.Duty.{Duty}
use Rattle.market_terms.specs.declared.duties.Duty.TheVariants as duty
use Rattle.market_terms.specs.declared.rooms.RoomRef.{RoomRef}
use Rattle.market_terms.specs.declared.rooms.TheConstants.AskedDealers.{MOST}
use Rattle.venue_rows.specs.Rows.{Configuration, has_room}
use Rattle.request_room.specs.RoomFacts.{request_of}
use Rattle.request_room.specs.Book.{event_facts, expired, may_expire}
use Rattle.request_room.specs.declared.events.RoomEvent.TheVariants as at_room
use Rattle.venue_steps.specs.RoomSteps.{close_for, dealers_of, told_in}
use Rattle.venue_steps.specs.declared.actors.Actor.{Actor}
use Rattle.venue_steps.specs.declared.actors.Actor.TheVariants as actor
use Rattle.step_replay.specs.Actions.{Effect, nothing}
use Rattle.step_replay.specs.AuditTrail.{AuditTrail, after_step, after_turn, pending}
use Rattle.step_replay.specs.DutyEffects.{duty_effect, message_effect, sweep_effect}
use Rattle.step_replay.specs.Lists.{Every}
use Rattle.step_replay.specs.LiveDays.{with_turns}
use Rattle.step_replay.specs.QueueLemmas.{other_pending, other_turned, own_pending, own_turned}
use Rattle.step_replay.specs.VenueFacts.{Fact, InRoom, of_room}
use Rattle.step_replay.specs.declared.steps.Step.{Step}
use Rattle.step_replay.specs.declared.steps.Step.TheVariants as step
use Rattle.step_replay.specs.declared.steps.TheConstants.{MOST_TURNS_BEHIND}
use Rattle.laws_days.specs.KeptItems.{every_all}
use Rattle.laws_days.specs.LeftDuties.{duty_leaves, sweep_leaves}
use Rattle.laws_days.specs.MayLeave.{MayLeave}
use Rattle.laws_isolation.proofs.LeftOn.{asked_there}
use Rattle.laws_isolation.proofs.SideSteps.{ClockWithin}
use Rattle.laws_isolation.proofs.ThereFacts.{FactsOn}

-- the day after these steps
abbrev pub after : Configuration → AuditTrail → List Step → AuditTrail
after config trail steps = fold (after_step config) trail steps

-- as many turns of an actor
abbrev turns : Actor → ℕ → List Step
turns by count = replicate count (step.Turn by)

-- Notices.

-- whether a duty is a notice that a request has expired
abbrev is_notice : Duty → Bool
is_notice (duty.Close room moment) = true
is_notice (duty.Tell dealer room close moment) = true
is_notice other = false

-- the same as a fact
abbrev IsNotice : Duty → Type 0
IsNotice more = is_notice more ≡ true

-- what no duty is
abbrev Never : Duty → Type 0
Never more = ⊥

none_of : (duties : List Duty) → Every Never duties → duties ≡ []
none_of [] every = refl
none_of (more ∷ duties) every = absurd every.0

-- as many turns stand behind a step as any sweep leaves notices
enough : (first : Duty) (later : List Duty) (count : ℕ) → length later ≡ count → count ≤ MOST
    → length (first ∷ later) ≤ MOST_TURNS_BEHIND
enough first later count is few =
    let named : MOST ≡ 8 = refl in
    let behind : MOST_TURNS_BEHIND ≡ 18446744073709551615 = refl in
    omega arith

module _ (config : Configuration) where
  never : (facts : List Fact) (by : Actor) (d : Duty) → IsNotice d
      → MayLeave Never config facts by d
  never facts by (duty.Close room moment) is = tt
  never facts by (duty.Tell dealer room close moment) is = tt
  never facts by other is = cc

  notice_leaves : (facts : List Fact) (by : Actor) (d : Duty) → IsNotice d
      → (duty_effect config facts by d).duties ≡ []
  notice_leaves facts by d is =
      none_of (duty_effect config facts by d).duties
      (duty_leaves Never config facts by d (never facts by d is)).each

  sweep_notices : (facts : List Fact) (room : RoomRef) (moment : ℕ)
      → Every IsNotice (sweep_effect config facts room moment).duties
  sweep_notices facts room moment =
      (sweep_leaves IsNotice config facts room moment refl
      (every_all (λ (number : ℕ). (close : Close) → IsNotice (duty.Tell number room close moment))
      (λ number close. refl) (dealers_of (request_of (of_room room facts))))).each

  -- what a sweep does, where there is such a room and it may expire, or where not
  abbrev sweep_where : List Fact → RoomRef → ℕ → Bool → Bool → Effect
  sweep_where facts room moment b c =
      if b
      then record {
        facts = map (InRoom room) (event_facts (of_room room facts) (at_room.Expire moment));
        duties = if c
            then duty.Close room moment ∷ told_in (of_room room facts) room expired moment
            else [];
      }
      else nothing

  sweep_few : (side : ℕ → Bool) (facts : List Fact) → FactsOn side config facts
      → (room : RoomRef) (moment : ℕ)
      → length (sweep_effect config facts room moment).duties ≤ MOST_TURNS_BEHIND
  unfolding sweep_effect
  sweep_few side facts on room moment =
      by_test (has_room config room.investor room.n && true)
      (may_expire (of_room room facts) moment)
    where
      by_test : (b c : Bool)
          → length (sweep_where facts room moment b c).duties ≤ MOST_TURNS_BEHIND
      by_test true true =
          let dealers = dealers_of (request_of (of_room room facts)) in
          enough (duty.Close room moment) (told_in (of_room room facts) room expired moment)
          (length dealers)
          (length-map dealers (λ dealer. duty.Tell dealer room (close_for expired dealer) moment))
          (asked_there side config (side room.investor) facts on room refl).1
      by_test true false = omega arith
      by_test false c = omega arith

  -- Turns of the clock.

  idle_turn : (trail : AuditTrail) → pending actor.Clock trail ≡ []
      → after_step config trail (step.Turn actor.Clock) ≡ trail
  unfolding after_step
  idle_turn trail none = ap (after_turn config actor.Clock trail) none

  notice_turn : (trail : AuditTrail) (d : Duty) (later : List Duty)
      → pending actor.Clock trail ≡ d ∷ later → IsNotice d
      → pending actor.Clock (after_step config trail (step.Turn actor.Clock)) ≡ later
  unfolding after_step
  notice_turn trail d later is notice =
      let effect = duty_effect config trail.facts actor.Clock d in
      ap (λ (duties : List Duty). pending actor.Clock (after_turn config actor.Clock trail duties))
      is
      ∙ own_turned actor.Clock trail effect d later is
      ∙ ap (λ (l : List Duty). later ++ l) (notice_leaves trail.facts actor.Clock d notice)
      ∙ append-nil later

  -- as many turns as there are notices, or more, do them all
  notices_done : (count : ℕ) (duties : List Duty) (trail : AuditTrail)
      → pending actor.Clock trail ≡ duties → Every IsNotice duties → length duties ≤ count
      → pending actor.Clock (after config trail (turns actor.Clock count)) ≡ []
  notices_done zero [] trail is notices few = is
  notices_done zero (d ∷ later) trail is notices few = absurd (omega arith)
  notices_done (suc count) [] trail is notices few =
      notices_done count [] (after_step config trail (step.Turn actor.Clock))
      (ap (pending actor.Clock) (idle_turn trail is) ∙ is) tt (omega arith)
  notices_done (suc count) (d ∷ later) trail is notices few =
      let fewer : length later ≤ count = omega arith in
      notices_done count later (after_step config trail (step.Turn actor.Clock))
      (notice_turn trail d later is notices.0) notices.1 fewer

  -- Turns of a firm.

  firm_turn : (firm : ℕ) (trail : AuditTrail)
      → pending actor.Clock (after_step config trail (step.Turn (actor.Firm firm)))
      ≡ pending actor.Clock trail
  unfolding after_step
  firm_turn firm trail = by_duties (pending (actor.Firm firm) trail)
    where
      by_duties : (duties : List Duty)
          → pending actor.Clock (after_turn config (actor.Firm firm) trail duties)
          ≡ pending actor.Clock trail
      by_duties [] = refl
      by_duties (d ∷ later) =
          other_turned (actor.Firm firm) actor.Clock trail
          (duty_effect config trail.facts (actor.Firm firm) d) refl refl

  firm_turns : (firm count : ℕ) (trail : AuditTrail) → pending actor.Clock trail ≡ []
      → pending actor.Clock (after config trail (turns (actor.Firm firm) count)) ≡ []
  firm_turns firm zero trail idle = idle
  firm_turns firm (suc count) trail idle =
      firm_turns firm count (after_step config trail (step.Turn (actor.Firm firm)))
      (firm_turn firm trail ∙ idle)

  -- A step, and the turns of its actor behind it.

  module _ (side : ℕ → Bool) (trail : AuditTrail) (on : FactsOn side config trail.facts)
      (idle : pending actor.Clock trail ≡ []) (within : ClockWithin trail) where
    -- what a sweep leaves the clock
    left_it : (room : RoomRef) (moment : ℕ)
        → pending actor.Clock (after_step config trail (step.Expire room moment))
        ≡ (sweep_effect config trail.facts room moment).duties
    unfolding after_step
    left_it room moment =
        own_pending actor.Clock trail (sweep_effect config trail.facts room moment) within
        ∙ ap (λ (l : List Duty). l ++ (sweep_effect config trail.facts room moment).duties) idle

    said_idle : (firm moment : ℕ) (bytes : List ℕ)
        → pending actor.Clock (after_step config trail (step.In firm moment bytes)) ≡ []
    unfolding after_step
    said_idle firm moment bytes =
        other_pending (actor.Firm firm) actor.Clock trail
        (message_effect config trail.facts firm moment bytes) refl ∙ idle

    pub unit_idle : (s : Step) → pending actor.Clock (after config trail (with_turns s)) ≡ []
    unfolding with_turns
    unit_idle (step.In firm moment bytes) =
        firm_turns firm MOST_TURNS_BEHIND (after_step config trail (step.In firm moment bytes))
        (said_idle firm moment bytes)
    unit_idle (step.Turn (actor.Firm firm)) =
        firm_turns firm MOST_TURNS_BEHIND
        (after_step config trail (step.Turn (actor.Firm firm))) (firm_turn firm trail ∙ idle)
    unit_idle (step.Turn actor.Clock) =
        notices_done MOST_TURNS_BEHIND [] (after_step config trail (step.Turn actor.Clock))
        (ap (pending actor.Clock) (idle_turn trail idle) ∙ idle) tt (omega arith)
    unit_idle (step.Expire room moment) =
        notices_done MOST_TURNS_BEHIND (sweep_effect config trail.facts room moment).duties
        (after_step config trail (step.Expire room moment)) (left_it room moment)
        (sweep_notices trail.facts room moment) (sweep_few side trail.facts on room moment)
