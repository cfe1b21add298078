-- A venue that answers as steps come: what is told, each step with the duties behind it, and where it
-- stands.
use Rattle.step_replay.proofs.Common.{◌≡◌, ◌≤◌, ℕ, ◌+◌, ◌-◌, true, false, List, [], ◌∷◌, ◌++◌}
use Rattle.step_replay.proofs.Common.{fold, Option, Some, None, refl, sym, ap, ◌∙◌, arith}
use Rattle.step_replay.proofs.Common.{slice_get, append-nil}
use Rattle.step_replay.proofs.Common.{fold-append, Duty, Configuration, Actor, AuditTrail}
use Rattle.step_replay.proofs.Common.{after_step, after_turn, audit_trail, no_steps, is_same_actor}
use Rattle.step_replay.proofs.Common.{pending, ReplayStands, duties_in, Sent, actor_of, live_steps}
use Rattle.step_replay.proofs.Common.{live_trail, messages_in, SendsAllOf, VenueSends, after_turns}
use Rattle.step_replay.proofs.Common.{first_in, IsAt, VenueStands, QueueHas, is_known, queue_of}
use Rattle.step_replay.proofs.Common.{Stands, fault_of, LiveVenue, Replay, Step}
use Rattle.step_replay.proofs.Common.{MOST_TURNS_BEHIND, duty_effect, message_effect, sweep_effect}
use Rattle.step_replay.proofs.Common.{IsEmpty, other_pending, other_turned, Done}
use Rattle.step_replay.proofs.Common.{same_either}
use Rattle.std.specs.Option.{option_and_then}
use Rattle.std.proofs.lemmas.List.Concat.{flat_map-append}
use Rattle.venue_steps.specs.declared.actors.Actor.TheVariants as actor
use Rattle.step_replay.specs.LiveDays.{with_turns}
use Rattle.step_replay.specs.DonePlaces.{IsStepDone}
use Rattle.step_replay.specs.LiveStanding.{next_duty, Answers, TakesIn}
use Rattle.step_replay.specs.declared.steps.Step.TheVariants as step
use Rattle.step_replay.proofs.FollowLemmas.{has_queue}
use Rattle.step_replay.proofs.StartLemmas.{known_actor, idle_turns, turns_both, turns_keep}
use Rattle.step_replay.proofs.DoneLemmas.{step_adds, taken}
use Rattle.step_replay.proofs.OpenRoomLemmas.{rooms_begin}

-- The duty that comes next.

pub next_is : (config : Configuration) (by : Actor) (trail : AuditTrail) (replay : Replay)
    → is_known config by ≡ true → ReplayStands config trail replay
    → next_duty replay by ≡ first_in (pending by trail)
next_is config by trail replay known stands =
    ap (λ (index : Option ℕ). option_and_then first_in
    (option_and_then (slice_get (duties_in replay)) index))
    (has_queue config by trail replay known stands)
    ∙ by_queue (slice_get (duties_in replay) (queue_of config by))
    (stands.queues_stand.queues_are by known)
  where
    by_queue : (queue : Option (List Duty)) → QueueHas (pending by trail) queue
        → option_and_then first_in queue ≡ first_in (pending by trail)
    by_queue None has = absurd has
    by_queue (Some queue) has = ap first_in has

pub actor_known : (config : Configuration) (next : Step) → fault_of config 0 next ≡ None
    → is_known config (actor_of next) ≡ true
actor_known config (step.In firm moment message) none = known_actor config 0 (actor.Firm firm) none
actor_known config (step.Turn by) none = known_actor config 0 by none
actor_known config (step.Expire room moment) none = refl

first_none : (duties : List Duty) → first_in duties ≡ None → duties ≡ []
first_none [] is = refl
first_none (duty ∷ later) is = cc

-- All duties are done.
pub tells_all : (config : Configuration) (by : Actor) (trail : AuditTrail) (count : ℕ)
    (live : LiveVenue) (told : List Sent) → count ≤ MOST_TURNS_BEHIND → is_known config by ≡ true
    → VenueSends config (after_turns config by count trail) live told
    → next_duty live.replay by ≡ None → SendsAllOf config by trail live told
tells_all config by trail count live told within known tells none =
    let left : pending by (after_turns config by count trail) ≡ [] =
    first_none _ (sym (next_is config by (after_turns config by count trail) live.replay known
    tells.stands.replay_stands) ∙ none) in
    let split : MOST_TURNS_BEHIND ≡ count + (MOST_TURNS_BEHIND - count) = omega arith in
    let same : after_turns config by MOST_TURNS_BEHIND trail ≡ after_turns config by count trail =
    ap (λ (k : ℕ). after_turns config by k trail) split
    ∙ turns_both config by count (MOST_TURNS_BEHIND - count) trail
    ∙ idle_turns config by (MOST_TURNS_BEHIND - count) (after_turns config by count trail) left in
    record {
      tells = rw same tells;
      none_left = rw same left;
    }

pub turn_known : (config : Configuration) (by : Actor) → is_known config by ≡ true
    → fault_of config 0 (step.Turn by) ≡ None
turn_known config (actor.Firm number) known = rw known refl
turn_known config actor.Clock known = refl

-- Steps that come one by one.

pub live_begins : (config : Configuration) → live_trail config [] ≡ no_steps
unfolding audit_trail
live_begins config = refl

pub live_more : (config : Configuration) (steps : List Step) (next : Step)
    → live_trail config (steps ++ next ∷ [])
    ≡ after_turns config (actor_of next) MOST_TURNS_BEHIND
    (after_step config (live_trail config steps) next)
unfolding audit_trail with_turns after_turns
live_more config steps next =
    ap (fold (after_step config) no_steps) (flat_map-append with_turns steps (next ∷ []))
    ∙ fold-append (after_step config) no_steps (live_steps steps) (with_turns next ++ [])
    ∙ ap (fold (after_step config) (live_trail config steps)) (append-nil (with_turns next))

-- A step is done, and what it did is taken in.
pub step_told : (config : Configuration) (trail : AuditTrail) (next : Step)
    (before after : LiveVenue) (start old new : List Sent) (done : Done)
    → VenueStands config trail before → messages_in config trail.facts ≡ start ++ old
    → ReplayStands config (after_step config trail next) after.replay
    → IsStepDone next config trail before.replay.floor after.replay.floor done
    → TakesIn done after.replay.floor old new before.open_rooms after.open_rooms
    → VenueSends config (after_step config trail next) after (start ++ new)
step_told config trail next before after start old new done stood told stands done_is takes =
    let adds = step_adds config trail next in
    let grown : Stands config (trail.facts ++ adds.more) after.replay.floor =
    rw adds.grown at stands.floor_stands in
    let all = taken config trail.facts adds.more before.replay.floor after.replay.floor done start
    old new before.open_rooms after.open_rooms
    (adds.says before.replay.floor after.replay.floor stood.replay_stands.floor_stands grown done
    done_is)
    takes stood.rooms_stand told in
    record {
      stands = record { replay_stands = stands; rooms_stand = rw adds.grown all.1 };
      told_is = rw adds.grown all.0;
    }

-- The clock has no duty but behind its own steps.

others_wait : (config : Configuration) (s : Step) (trail : AuditTrail) (other : Actor)
    → is_same_actor (actor_of s) other ≡ false
    → pending other (after_step config trail s) ≡ pending other trail
unfolding after_step
others_wait config (step.In firm moment message) trail other differs =
    other_pending (actor.Firm firm) other trail (message_effect config trail.facts firm moment message)
    differs
others_wait config (step.Expire room moment) trail other differs =
    other_pending actor.Clock other trail (sweep_effect config trail.facts room moment) differs
others_wait config (step.Turn by) trail other differs = by_duties (pending by trail)
  where
    by_duties : (duties : List Duty)
        → pending other (after_turn config by trail duties) ≡ pending other trail
    by_duties [] = refl
    by_duties (duty ∷ later) = other_turned by other trail (duty_effect config trail.facts by duty)
        differs (same_either by other differs)

clock_rests : (config : Configuration) (next : Step) (trail : AuditTrail) (by : Actor)
    → actor_of next ≡ by → pending actor.Clock trail ≡ []
    → pending by (after_turns config by MOST_TURNS_BEHIND (after_step config trail next)) ≡ []
    → pending actor.Clock (after_turns config by MOST_TURNS_BEHIND (after_step config trail next))
    ≡ []
clock_rests config next trail (actor.Firm firm) is idle left =
    turns_keep config (actor.Firm firm) (λ t. pending actor.Clock t ≡ [])
    (λ t had. others_wait config (step.Turn (actor.Firm firm)) t actor.Clock refl ∙ had)
    MOST_TURNS_BEHIND (after_step config trail next) (others_wait config next trail actor.Clock
    (ap (λ (a : Actor). is_same_actor a actor.Clock) is) ∙ idle)
clock_rests config next trail actor.Clock is idle left = left

-- Where a venue is.

pub is_at_start : (config : Configuration) (live : LiveVenue)
    → ReplayStands config no_steps live.replay
    → IsEmpty live.open_rooms → IsAt config [] live
is_at_start config live stands empty =
    let start = live_begins config in
    record {
      stands = rw start (record {
        replay_stands = stands;
        rooms_stand = rooms_begin config live.open_rooms empty;
      });
      clock_idle = ap (pending actor.Clock) start;
    }

pub answered : (config : Configuration) (steps : List Step) (next : Step) (after : LiveVenue)
    (told : List Sent) → pending actor.Clock (live_trail config steps) ≡ []
    → SendsAllOf config (actor_of next) (after_step config (live_trail config steps) next)
    after (messages_in config (live_trail config steps).facts ++ told)
    → Answers config steps next after told
answered config steps next after told idle all =
    let more = live_more config steps next in
    record {
      stands = record {
        stands = rw more all.tells.stands;
        clock_idle = rw more (clock_rests config next (live_trail config steps) (actor_of next) refl
            idle all.none_left);
      };
      told_is = rw more all.tells.told_is;
      none_left = rw more all.none_left;
    }
