-- A day before its first step, its steps one after the other, and a part at a time.
use Rattle.step_replay.proofs.Common.{◌≡◌, ◌<◌, ℕ, ◌+◌, nat_lt, true, false, Bool, if◌then◌else◌}
use Rattle.step_replay.proofs.Common.{List, [], ◌∷◌, ◌++◌, length, take, replicate, get_or, Option}
use Rattle.step_replay.proofs.Common.{Some, None, refl, sym, ap, ◌∙◌, subst, arith, fold, drop, suc}
use Rattle.step_replay.proofs.Common.{zero, slice_get, nat_tests, length-replicate, take_more}
use Rattle.step_replay.proofs.Common.{common_steps, fold-append, Duty, Configuration, has_room}
use Rattle.step_replay.proofs.Common.{RoomRef, Actor, AuditTrail, audit_trail, after_step, no_steps}
use Rattle.step_replay.proofs.Common.{pending, after_turn, with_effect, message_effect}
use Rattle.step_replay.proofs.Common.{sweep_effect, AreKnown, IsLeft, after_steps, ReplayStands}
use Rattle.step_replay.proofs.Common.{duties_in, Opens, QueueHas, QueuesStand, is_known, queue_of}
use Rattle.step_replay.proofs.Common.{AreOneOf, fault_of, first_fault_from, firms_of, first_fault}
use Rattle.step_replay.proofs.Common.{of_dealer, Replay, Step, after_turns}
use Rattle.std.proofs.Common.{append-nil, append_assoc}
use Rattle.std.proofs.lemmas.List.{take-append-drop, replicate-append-replicate}
use Rattle.std.proofs.lemmas.List.Elements.{All-cons, All-nil, All-drop, All-same, All-take}
use Rattle.venue_steps.specs.declared.actors.Actor.TheVariants as actor
use Rattle.step_replay.specs.Following.{Follows}
use Rattle.step_replay.specs.StepFaults.{fault_of_firm, or_else}
use Rattle.step_replay.specs.declared.faults.ReplayFault.{ReplayFault}
use Rattle.step_replay.specs.declared.faults.ReplayFault.TheVariants as fault
use Rattle.step_replay.specs.declared.steps.Step.TheVariants as step
use Rattle.step_replay.proofs.ListEnds.{get_same}
use Rattle.step_replay.proofs.OpeningLemmas.{all_begin}

-- Before the first step.

one_of_none : (config : Configuration) → AreOneOf config []
unfolding of_dealer
one_of_none config number row quote is = refl

queue_within : (config : Configuration) (by : Actor) → is_known config by ≡ true
    → queue_of config by < firms_of config + 1
queue_within config (actor.Firm number) known = grind (arith, nat_tests)
queue_within config actor.Clock known = omega arith

queues_begin : (config : Configuration) (queues : List (List Duty))
    → queues ≡ replicate (firms_of config + 1) [] → QueuesStand config no_steps queues
queues_begin config queues are = record {
  count = ap length are ∙ length-replicate (firms_of config + 1) [];
  queues_are = λ by known.
      subst (QueueHas (pending by no_steps))
      (sym (ap (λ (l : List (List Duty)). slice_get l (queue_of config by)) are
      ∙ get_same (firms_of config + 1) [] (queue_of config by)
      (queue_within config by known)))
      refl;
  done_within = λ by. omega arith;
}

pub replay_begins : (config : Configuration) (replay : Replay) → Opens config replay.floor
    → duties_in replay ≡ replicate (firms_of config + 1) []
    → ReplayStands config no_steps replay
replay_begins config replay opens are = record {
  floor_stands = all_begin config replay.floor opens;
  are_one_of = one_of_none config;
  queues_stand = queues_begin config (duties_in replay) are;
}

-- Steps that name what the venue has.

no_fault : {X : Type 0} (b : Bool) (fault : X) → (if b then None else Some fault) ≡ None → b ≡ true
no_fault true fault none = refl
no_fault false fault none = cc

pub known_firm : (config : Configuration) (k firm : ℕ) → fault_of_firm config k firm ≡ None
    → nat_lt firm (firms_of config) ≡ true
known_firm config k firm none = no_fault (nat_lt firm (firms_of config)) (fault.UnknownFirm k) none

pub known_actor : (config : Configuration) (k : ℕ) (by : Actor)
    → fault_of config k (step.Turn by) ≡ None → is_known config by ≡ true
known_actor config k (actor.Firm number) none = known_firm config k number none
known_actor config k actor.Clock none = refl

-- one step

pub said : (config : Configuration) (trail : AuditTrail) (firm moment : ℕ) (bytes : List ℕ)
    → after_step config trail (step.In firm moment bytes)
    ≡ with_effect (actor.Firm firm) trail (message_effect config trail.facts firm moment bytes)
unfolding after_step
said config trail firm moment bytes = refl

pub turned : (config : Configuration) (trail : AuditTrail) (by : Actor)
    → after_step config trail (step.Turn by) ≡ after_turn config by trail (pending by trail)
unfolding after_step
turned config trail by = refl

pub swept : (config : Configuration) (trail : AuditTrail) (room : RoomRef) (moment : ℕ)
    → after_step config trail (step.Expire room moment)
    ≡ with_effect actor.Clock trail (sweep_effect config trail.facts room moment)
unfolding after_step
swept config trail room moment = refl

-- a step that has no fault in one place has none in another
pub any_place : (config : Configuration) (k : ℕ) (s : Step) → fault_of config k s ≡ None
    → fault_of config 0 s ≡ None
any_place config k (step.In firm moment message) none = rw (known_firm config k firm none) refl
any_place config k (step.Turn (actor.Firm firm)) none = rw (known_firm config k firm none) refl
any_place config k (step.Turn actor.Clock) none = refl
any_place config k (step.Expire room moment) none =
    rw (no_fault (has_room config room.investor room.n) (fault.UnknownRoom k) none) refl

none_of : (one other : Option ReplayFault) → or_else one other ≡ None
    → (one ≡ None) × (other ≡ None)
none_of None other none = (refl, none)
none_of (Some found) other none = cc

-- all steps of a list without a fault are known
pub all_known : (config : Configuration) (k : ℕ) (steps : List Step)
    → first_fault_from config k steps ≡ None → AreKnown steps config
all_known config k [] none = All-nil (λ step. fault_of config 0 step ≡ None)
all_known config k (s ∷ steps) none =
    let each = none_of (fault_of config k s) (first_fault_from config (k + 1) steps) none in
    All-cons (λ step. fault_of config 0 step ≡ None) s steps (any_place config k s each.0)
    (all_known config (k + 1) steps each.1)

-- the same by the way in which a loop reads its list
pub no_fault_at : (config : Configuration) (steps : List Step) (at : ℕ) (s : Step)
    → first_fault_from config 1 steps ≡ None → at < length steps → s ≡ get_or steps at s
    → fault_of config 0 s ≡ None
no_fault_at config steps at s none within is =
    subst (λ (found : Step). fault_of config 0 found ≡ None) (sym is)
    (all_known config 1 steps none at s within)

-- no step
pub day_begins : (config : Configuration) (steps : List Step)
    → audit_trail config (take 0 steps) ≡ no_steps
unfolding audit_trail
day_begins config steps = refl

-- one step more
pub day_more : (config : Configuration) (steps : List Step) (at : ℕ) (s : Step)
    → at < length steps → s ≡ get_or steps at s
    → audit_trail config (take (at + 1) steps)
    ≡ after_step config (audit_trail config (take at steps)) s
unfolding audit_trail
day_more config steps at s within is =
    let more : take (at + 1) steps ≡ take at steps ++ s ∷ [] = grind (arith, common_steps) in
    rw (more, fold-append) refl

-- one step more
steps_longer : (config : Configuration) (trail : AuditTrail) (done : List Step) (step : Step)
    → after_steps (done ++ step ∷ []) config trail
    ≡ after_step config (after_steps done config trail) step
steps_longer config trail done step = fold-append (after_step config) trail done (step ∷ [])

-- one step more is done of steps that are all known
pub step_done : (config : Configuration) (trail : AuditTrail) (steps done : List Step) (step : Step)
    (before after : Replay) → AreKnown steps config → length done < length steps
    → step ≡ get_or steps (length done) step
    → Follows (λ config. fault_of config 0 step ≡ None)
    (λ config trail. after_step config trail step) before after
    → ReplayStands config (after_steps done config trail) before
    → ReplayStands config (after_steps (done ++ step ∷ []) config trail) after
step_done config trail steps done step before after known within is follows stands =
    rw (steps_longer config trail done step) (follows config (after_steps done config trail)
    (subst (λ s. fault_of config 0 s ≡ None) (sym is) (known (length done) step within)) stands)

-- nothing is done
pub all_left : (config : Configuration) (day : List Step) (replay : Replay)
    → first_fault config day ≡ None → ReplayStands config no_steps replay
    → IsLeft config day day replay
unfolding audit_trail
all_left config day replay none stands = record {
  trail = no_steps;
  whole = refl;
  known = all_known config 1 day none;
  stands = stands;
}

-- the first so many of the steps that are left are done
pub part_done : (config : Configuration) (day left front later : List Step) (n : ℕ)
    (before after : Replay) → IsLeft config day left before → front ≡ take n left
    → later ≡ drop n left → Follows (AreKnown front) (after_steps front) before after
    → IsLeft config day later after
part_done config day left front later n before after had first second follows =
    let whole : front ++ later ≡ left =
    ap (λ l. l ++ later) first ∙ ap (λ l. take n left ++ l) second ∙ take-append-drop n left in
    record {
      trail = after_steps front config had.trail;
      whole = sym (fold-append (after_step config) had.trail front later)
          ∙ ap (λ l. after_steps l config had.trail) whole ∙ had.whole;
      known = All-same (λ step. fault_of config 0 step ≡ None) later (drop n left) second
          (All-drop (λ step. fault_of config 0 step ≡ None) n left had.known);
      stands = follows config had.trail (All-same (λ step. fault_of config 0 step ≡ None) front
          (take n left) first (All-take (λ step. fault_of config 0 step ≡ None) n left had.known))
          had.stands;
    }

-- none is left
pub all_done : (config : Configuration) (day left : List Step) (replay : Replay)
    → IsLeft config day left replay → left ≡ []
    → ReplayStands config (audit_trail config day) replay
all_done config day left replay had none =
    subst (λ (trail : AuditTrail). ReplayStands config trail replay)
    (ap (λ l. after_steps l config had.trail) (sym none) ∙ had.whole) had.stands

-- Turns.

pub no_turn : (config : Configuration) (by : Actor) (trail : AuditTrail)
    → after_turns config by 0 trail ≡ trail
unfolding after_turns
no_turn config by trail = refl

pub turns_both : (config : Configuration) (by : Actor) (n m : ℕ) (trail : AuditTrail)
    → after_turns config by (n + m) trail ≡ after_turns config by m (after_turns config by n trail)
unfolding after_turns
turns_both config by n m trail =
    ap (fold (after_step config) trail) (sym (replicate-append-replicate n m (step.Turn by)))
    ∙ fold-append (after_step config) trail (replicate n (step.Turn by)) (replicate m (step.Turn by))

pub turns_more : (config : Configuration) (by : Actor) (n : ℕ) (trail : AuditTrail)
    → after_turns config by (n + 1) trail
    ≡ after_step config (after_turns config by n trail) (step.Turn by)
unfolding after_turns
turns_more config by n trail = turns_both config by n 1 trail

-- what each turn keeps
pub turns_keep : (config : Configuration) (by : Actor) (P : AuditTrail → Type 0)
    → ((trail : AuditTrail) → P trail → P (after_step config trail (step.Turn by)))
    → (n : ℕ) (trail : AuditTrail) → P trail → P (after_turns config by n trail)
unfolding after_turns
turns_keep config by P each zero trail had = had
turns_keep config by P each (suc n) trail had =
    turns_keep config by P each n (after_step config trail (step.Turn by)) (each trail had)

pub idle_step : (config : Configuration) (by : Actor) (trail : AuditTrail) → pending by trail ≡ []
    → after_step config trail (step.Turn by) ≡ trail
unfolding after_step
idle_step config by trail none = ap (after_turn config by trail) none

pub idle_turns : (config : Configuration) (by : Actor) (n : ℕ) (trail : AuditTrail)
    → pending by trail ≡ [] → after_turns config by n trail ≡ trail
idle_turns config by n trail none =
    turns_keep config by (λ t. t ≡ trail) (λ t same. rw same (idle_step config by trail none)) n trail
    refl
