-- A sweep of a room: where the room is not due nothing happens, and else nothing in another room.
use Rattle.step_replay.proofs.Common.{◌≡◌, ◌≤◌, ℕ, Bool, true, false, ◌&&◌, not, List, [], ◌∷◌}
use Rattle.step_replay.proofs.Common.{◌++◌, map, length, filter_map, count_by, Option, Some, None}
use Rattle.step_replay.proofs.Common.{if◌then◌else◌, refl, sym, ap, ◌∙◌, subst, is_some, option_map}
use Rattle.step_replay.proofs.Common.{AllByRecursion, append-nil, Duty, RoomRef, is_same_room}
use Rattle.step_replay.proofs.Common.{InvestorMarket, may_expire, RoomFact, End, Configuration}
use Rattle.step_replay.proofs.Common.{has_room, Actor, Dealer, Effect, at_dealer, at_market}
use Rattle.step_replay.proofs.Common.{dealer_at, done_by, done_for, nothing, told_of, where_known}
use Rattle.step_replay.proofs.Common.{duty_effect, sweep_effect, AuditTrail, after_step, after_turn}
use Rattle.step_replay.proofs.Common.{duty_of, is_same_actor, pending, with_effect, after_turns}
use Rattle.step_replay.proofs.Common.{has_come, is_due, Fact, of_room}
use Rattle.step_replay.proofs.Common.{MOST_TURNS_BEHIND, own_pending, own_turned, duty_action}
use Rattle.step_replay.proofs.Common.{sweep_action, room_stays}
use Rattle.market_terms.specs.declared.duties.Duty.TheVariants as duty
use Rattle.dealer_desk.specs.declared.events.DealerEvent.TheVariants as at_desk
use Rattle.investor_desk.specs.InvestorDesk as investor_desk
use Rattle.investor_desk.specs.declared.events.InvestorEvent.TheVariants as at_investor
use Rattle.request_room.specs.Book.{event_facts, expired, is_past_deadline}
use Rattle.request_room.specs.RoomFacts.{is_ended, is_ready, request_of}
use Rattle.request_room.specs.declared.requests.RoomRequest.{RoomRequest}
use Rattle.venue_steps.specs.RoomSteps.{close_for, dealers_of, told_in}
use Rattle.venue_steps.specs.Placed.{room_of_line}
use Rattle.venue_steps.specs.Table.{line_of}
use Rattle.venue_steps.specs.declared.actors.Actor.TheVariants as actor
use Rattle.step_replay.specs.Actions.{told_to}
use Rattle.step_replay.specs.declared.steps.Step.TheVariants as step
use Rattle.step_replay.proofs.StartLemmas.{idle_step, idle_turns, swept, turned, turns_keep}
use Rattle.step_replay.proofs.StepEffects.{AreOf, action_there}

-- A room that is not due.

no_effect : (b : Bool) → ◌≡◌ {A = Effect} (if b then nothing else nothing) nothing
no_effect true = refl
no_effect false = refl

nothing_swept : (config : Configuration) (facts : List Fact) (room : RoomRef) (moment : ℕ)
    → may_expire (of_room room facts) moment ≡ false
    → sweep_effect config facts room moment ≡ nothing
unfolding sweep_effect event_facts
nothing_swept config facts room moment none =
    rw none (no_effect (has_room config room.investor room.n && true))

no_room_swept : (config : Configuration) (facts : List Fact) (room : RoomRef) (moment : ℕ)
    → has_room config room.investor room.n ≡ false
    → sweep_effect config facts room moment ≡ nothing
unfolding sweep_effect
no_room_swept config facts room moment none = rw none refl

swept_nothing : (config : Configuration) (trail : AuditTrail) (room : RoomRef) (moment : ℕ)
    → sweep_effect config trail.facts room moment ≡ nothing
    → after_step config trail (step.Expire room moment) ≡ trail
swept_nothing config trail room moment none =
    swept config trail room moment ∙ ap (with_effect actor.Clock trail) none
    ∙ rw (append-nil trail.facts, append-nil trail.caused) refl

-- a sweep of a room that is not due changes nothing
pub sweep_not_due : (config : Configuration) (trail : AuditTrail) (room : RoomRef) (moment : ℕ)
    → may_expire (of_room room trail.facts) moment ≡ false
    → after_step config trail (step.Expire room moment) ≡ trail
sweep_not_due config trail room moment none =
    swept_nothing config trail room moment (nothing_swept config trail.facts room moment none)

-- the same by its deadline
may_not : (moment : ℕ) (ready ended : Bool) (found : Option RoomRequest)
    → has_come moment (if is_some found && not ended
    then option_map (λ (request : RoomRequest). request.ask.deadline) found else None) ≡ false
    → ((ready && not ended) && is_past_deadline found moment) ≡ false
may_not moment false ended found none = refl
may_not moment true true found none = refl
may_not moment true false None none = refl
may_not moment true false (Some request) none = none

late_not_due : (config : Configuration) (trail : AuditTrail) (room : RoomRef) (moment : ℕ)
    → is_due config moment trail.facts room ≡ false
    → after_step config trail (step.Expire room moment) ≡ trail
late_not_due config trail room moment none =
    swept_nothing config trail room moment (by_room (has_room config room.investor room.n) refl)
  where
    known : List RoomFact
    known = of_room room trail.facts

    by_room : (b : Bool) → has_room config room.investor room.n ≡ b
        → sweep_effect config trail.facts room moment ≡ nothing
    by_room false has = no_room_swept config trail.facts room moment has
    by_room true has = nothing_swept config trail.facts room moment
        (may_not moment (is_ready known) (is_ended known) (request_of known) (rw has at none))

-- The duties of the clock: it tells how a request ended. That happens in no room, and leaves nothing.

abbrev is_telling : Duty → Bool
is_telling (duty.Close room moment) = true
is_telling (duty.Tell dealer room close moment) = true
is_telling other = false

abbrev AreTellings : List Duty → Type 0
AreTellings duties = AllByRecursion (λ d. is_telling d ≡ true) duties

nowhere : (config : Configuration) (d : Duty) → is_telling d ≡ true
    → room_of_line (line_of config d) ≡ None
unfolding line_of
nowhere config (duty.Close room moment) tells = refl
nowhere config (duty.Tell dealer room close moment) tells = refl
nowhere config other tells = cc

none_if : (b : Bool) (effect : Effect) → effect.duties ≡ []
    → (if b then effect else nothing).duties ≡ []
none_if true effect none = none
none_if false effect none = refl

leaves_none : (config : Configuration) (facts : List Fact) (by : Actor) (d : Duty)
    → is_telling d ≡ true → (duty_effect config facts by d).duties ≡ []
unfolding duty_effect
leaves_none config facts by (duty.Close room moment) tells =
    by_market (investor_desk.market_for config room.investor)
  where
    by_market : (found : Option InvestorMarket) → (done_for found
        (where_known facts room.n None (at_investor.Closed room.n moment))).duties ≡ []
    by_market None = refl
    by_market (Some market) =
        none_if _ (at_market facts market (at_investor.Closed room.n moment) []) refl
leaves_none config facts by (duty.Tell dealer room close moment) tells =
    by_dealer (dealer_at config dealer)
  where
    told_none : (who : Dealer) (request : Option ℕ)
        → (told_of config facts who close moment request).duties ≡ []
    told_none who None = refl
    told_none who (Some request) =
        none_if _ (at_dealer config facts who (at_desk.Told request close moment) []) refl

    by_dealer : (found : Option Dealer)
        → (done_by found (told_to config facts room close moment)).duties ≡ []
    by_dealer None = refl
    by_dealer (Some who) = told_none who _
leaves_none config facts by other tells = cc

-- what a sweep leaves
tellings_to : (room : RoomRef) (end : End) (dealers : List ℕ) (moment : ℕ)
    → AreTellings (map (λ dealer. duty.Tell dealer room (close_for end dealer) moment) dealers)
tellings_to room end [] moment = tt
tellings_to room end (dealer ∷ dealers) moment = (refl, tellings_to room end dealers moment)

sweep_tells : (config : Configuration) (facts : List Fact) (room : RoomRef) (moment : ℕ)
    → AreTellings (sweep_effect config facts room moment).duties
unfolding sweep_effect
sweep_tells config facts room moment =
    by_tests (has_room config room.investor room.n && true) _
    (by_end (may_expire (of_room room facts) moment))
  where
    by_end : (b : Bool) → AreTellings
        (if b then duty.Close room moment ∷ told_in (of_room room facts) room expired moment else [])
    by_end true = (refl, tellings_to room expired (dealers_of (request_of (of_room room facts))) moment)
    by_end false = tt

    by_tests : (b : Bool) (effect : Effect) → AreTellings effect.duties
        → AreTellings (if b then effect else nothing).duties
    by_tests true effect tells = tells
    by_tests false effect tells = tt

-- A sweep, and the turns of the clock behind it.

unfoldable pub after_sweep : Configuration → ℕ → AuditTrail → RoomRef → AuditTrail
after_sweep config moment trail room =
    after_turns config actor.Clock MOST_TURNS_BEHIND (after_step config trail
    (step.Expire room moment))

pub sweep_idle : (config : Configuration) (moment : ℕ) (trail : AuditTrail) (room : RoomRef)
    → pending actor.Clock trail ≡ [] → after_step config trail (step.Expire room moment) ≡ trail
    → after_sweep config moment trail room ≡ trail
unfolding after_sweep
sweep_idle config moment trail room idle same =
    ap (after_turns config actor.Clock MOST_TURNS_BEHIND) same
    ∙ idle_turns config actor.Clock MOST_TURNS_BEHIND trail idle

pub idle_not_due : (config : Configuration) (moment : ℕ) (trail : AuditTrail) (room : RoomRef)
    → pending actor.Clock trail ≡ [] → is_due config moment trail.facts room ≡ false
    → after_sweep config moment trail room ≡ trail
idle_not_due config moment trail room idle none =
    sweep_idle config moment trail room idle (late_not_due config trail room moment none)

-- the clock only tells, and nothing came to a room
record OnlyTells (room : RoomRef) (known : List RoomFact) (trail : AuditTrail) : Type 0 where
  kept : of_room room trail.facts ≡ known
  tells : AreTellings (pending actor.Clock trail)

turn_tells : (config : Configuration) (room : RoomRef) (known : List RoomFact) (trail : AuditTrail)
    → OnlyTells room known trail
    → OnlyTells room known (after_step config trail (step.Turn actor.Clock))
turn_tells config room known trail had = by_duties (pending actor.Clock trail) refl had.tells
  where
    by_duties : (duties : List Duty) → pending actor.Clock trail ≡ duties → AreTellings duties
        → OnlyTells room known (after_step config trail (step.Turn actor.Clock))
    by_duties [] is all = rw (idle_step config actor.Clock trail is) had
    by_duties (first ∷ later) is all =
        let effect = duty_effect config trail.facts actor.Clock first in
        let there : AreOf None effect.facts =
        subst (λ (r : Option RoomRef). AreOf r effect.facts) (nowhere config first all.0)
        (action_there config trail.facts _ _ _ (duty_action config trail.facts actor.Clock first)) in
        let left = own_turned actor.Clock trail effect first later is
        ∙ ap (λ (l : List Duty). later ++ l) (leaves_none config trail.facts actor.Clock first all.0)
        ∙ append-nil later in
        rw (turned config trail actor.Clock ∙ ap (after_turn config actor.Clock trail) is) (record {
          kept = room_stays room trail.facts effect.facts (there.elsewhere room refl) ∙ had.kept;
          tells = subst AreTellings (sym left) all.1;
        })

-- nothing came to another room
pub other_kept : (config : Configuration) (moment : ℕ) (trail : AuditTrail) (at room : RoomRef)
    → pending actor.Clock trail ≡ []
    → count_by (is_same_actor actor.Clock) trail.done
    ≤ length (filter_map (duty_of actor.Clock) trail.caused)
    → is_same_room at room ≡ false
    → of_room room (after_sweep config moment trail at).facts ≡ of_room room trail.facts
unfolding after_sweep
other_kept config moment trail at room idle within other =
    (turns_keep config actor.Clock (OnlyTells room known) (turn_tells config room known)
    MOST_TURNS_BEHIND (after_step config trail (step.Expire at moment)) (rw (swept config trail at moment) (record {
      kept = room_stays room trail.facts effect.facts
          ((action_there config trail.facts _ _ _ (sweep_action config trail.facts at moment)).elsewhere
          room other);
      tells = subst AreTellings (sym (own_pending actor.Clock trail effect within
          ∙ ap (λ (l : List Duty). l ++ effect.duties) idle))
          (sweep_tells config trail.facts at moment);
    }))).kept
  where
    known : List RoomFact
    known = of_room room trail.facts

    effect : Effect
    effect = sweep_effect config trail.facts at moment
