-- A replay follows a day, turn by turn.
use Rattle.step_replay.proofs.Common.{◌≡◌, ℕ, true, List, [], ◌∷◌, ◌++◌, length, slice_set, Option}
use Rattle.step_replay.proofs.Common.{Some, drop, refl, sym, ap, ◌∙◌, arith, ◌≡◌, ◌≢◌, ◌≤◌, ◌<◌, ℕ}
use Rattle.step_replay.proofs.Common.{◌+◌, ◌-◌, Bool, true, false, option_map, List, ◌∷◌, ◌++◌, map}
use Rattle.step_replay.proofs.Common.{filter_map, length, count_by, slice_set, Some, get_or, nat_lt}
use Rattle.step_replay.proofs.Common.{nat_le, refl, sym, ap, ◌∙◌, subst, arith, slice_get}
use Rattle.step_replay.proofs.Common.{slice_get, length-map, same_Some, slice_get_within, Duty}
use Rattle.step_replay.proofs.Common.{Duty, RoomRef, Configuration, Configuration, Actor, Actor}
use Rattle.step_replay.proofs.Common.{IsAction, duty_action, Fact, Effect, Effect, duty_effect}
use Rattle.step_replay.proofs.Common.{AuditTrail, after_turn, pending, with_effect, AuditTrail}
use Rattle.step_replay.proofs.Common.{is_same_actor, duty_of, pending, with_effect, AreOneOf}
use Rattle.step_replay.proofs.Common.{ActsOnce, Does, is_known, queue_of, QueuesStand, QueueHas}
use Rattle.step_replay.proofs.Common.{is_known, queue_of, ReplayStands, duties_in, Replay}
use Rattle.step_replay.proofs.Common.{Floor, Done, IsDone, placed}
use Rattle.step_replay.proofs.Common.{nat_tests, firms_of, get_set_same, lent, own_turned}
use Rattle.step_replay.proofs.Common.{other_turned, own_pending, other_pending, same_either}
use Rattle.std.proofs.lemmas.List.{length-set}
use Rattle.std.proofs.lemmas.Option.{slice_get-map}
use Rattle.step_replay.specs.DonePlaces.{IsTurnDone}
use Rattle.step_replay.specs.Following.{index_in, index_in}
use Rattle.step_replay.specs.StepLemmas.{action_keeps}
use Rattle.step_replay.specs.WordLemmas.{IsOneOf, one_is_kept}
use Rattle.step_replay.proofs.LiftLemmas.{set_same}
use Rattle.venue_steps.specs.declared.actors.Actor.TheVariants as actor
use Rattle.step_replay.specs.declared.done.Done.TheVariants as place
use Rattle.step_replay.specs.PlaceLemmas.{get_set_other}
use Rattle.step_replay.specs.QueueLemmas.{turned, own_within, other_within, grown_within, one_actor}

-- Actors and their queues.

-- an actor's queue is found where the code looks
index_of : (config : Configuration) (count : ℕ) (by : Actor) → is_known config by ≡ true
    → count ≡ firms_of config + 1 → index_in count by ≡ Some (queue_of config by)
index_of config count (actor.Firm number) known are =
    let low : number < firms_of config = grind (arith, nat_tests, known) in
    let inside : nat_lt (number + 1) count ≡ true = grind (arith, nat_tests, low, are) in
    rw inside refl
index_of config count actor.Clock known are =
    let inside : nat_le 1 count ≡ true = grind (arith, nat_tests, are) in
    let last : count - 1 ≡ firms_of config = omega arith in
    rw (inside, last) refl

-- two actors of the venue have two queues
queues_apart : (config : Configuration) (by other : Actor) → is_known config by ≡ true
    → is_known config other ≡ true → is_same_actor by other ≡ false
    → queue_of config other ≢ queue_of config by
queues_apart config (actor.Firm one) (actor.Firm two) known known_too differs =
    grind (arith, nat_tests)
queues_apart config (actor.Firm one) actor.Clock known known_too differs = grind (arith, nat_tests)
queues_apart config actor.Clock (actor.Firm two) known known_too differs = grind (arith, nat_tests)
queues_apart config actor.Clock actor.Clock known known_too differs = cc

-- what a list of queues holds at a place that the code has read
pub queue_at : {Q : Type 0} (items : Q → List Duty) (queues : List Q) (index : ℕ) (queue : Q)
    → index < length queues → queue ≡ get_or queues index queue
    → slice_get (map items queues) index ≡ Some (items queue)
queue_at items queues index queue within is =
    slice_get-map items queues index ∙ ap (option_map items) (lent queues index queue within is)

-- The queues after one of them changes.

module _ {config : Configuration} {trail : AuditTrail} {queues : List (List Duty)} {index : ℕ}
    {queue : List Duty} (by : Actor) (known : is_known config by ≡ true)
    (before : QueuesStand config trail queues) (is : index ≡ queue_of config by)
    (there : slice_get queues index ≡ Some queue) where
  -- the queue of the actor has what is pending
  queue_pending : pending by trail ≡ queue
  queue_pending =
      sym (subst (QueueHas (pending by trail))
      (ap (slice_get queues) (sym is) ∙ there) (before.queues_are by known))

  -- it has what is pending then, and all others what they had
  queues_stand : (after : AuditTrail) (now : List Duty) → now ≡ pending by after
      → ((other : Actor) → is_same_actor by other ≡ false
      → pending other after ≡ pending other trail)
      → ((other : Actor) → count_by (is_same_actor other) after.done
      ≤ length (filter_map (duty_of other) after.caused))
      → QueuesStand config after (slice_set queues index now)
  queues_stand after now has others within = record {
    count = length-set queues index now ∙ before.count;
    queues_are = λ other known_too. by_actor other known_too (is_same_actor by other) refl;
    done_within = within;
  }
    where
      by_actor : (other : Actor) → is_known config other ≡ true → (same : Bool)
          → is_same_actor by other ≡ same
          → QueueHas (pending other after)
          (slice_get (slice_set queues index now) (queue_of config other))
      by_actor other known_too true test =
          subst (λ (a : Actor). QueueHas (pending a after)
          (slice_get (slice_set queues index now) (queue_of config a)))
          (one_actor by other test)
          (subst (QueueHas (pending by after))
          (sym (ap (slice_get (slice_set queues index now)) (sym is)
          ∙ get_set_same queues index now (slice_get_within queues index queue there)))
          has)
      by_actor other known_too false test =
          let apart = queues_apart config by other known known_too test in
          let differs : queue_of config other ≢ index = λ same. apart (same ∙ is) in
          subst (λ (d : List Duty). QueueHas d
          (slice_get (slice_set queues index now) (queue_of config other)))
          (sym (others other test))
          (subst (QueueHas (pending other trail))
          (sym (get_set_other queues index (queue_of config other) now differs))
          (before.queues_are other known_too))

  -- after a turn
  turn_queues : (effect : Effect) (rest now : List Duty) (duty : Duty)
      → queue ≡ duty ∷ rest → now ≡ rest ++ effect.duties
      → QueuesStand config (turned by trail effect) (slice_set queues index now)
  turn_queues effect rest now duty is_queue is_now =
      queues_stand (turned by trail effect) now (is_now ∙ sym (own_turned by trail effect duty rest had))
      (λ other differs. other_turned by other trail effect differs (same_either by other differs))
      (λ other. done_by other (is_same_actor by other) refl)
    where
      had : pending by trail ≡ duty ∷ rest
      had = queue_pending ∙ is_queue

      done_by : (other : Actor) (same : Bool) → is_same_actor by other ≡ same
          → count_by (is_same_actor other) (turned by trail effect).done
          ≤ length (filter_map (duty_of other) (turned by trail effect).caused)
      done_by other true test =
          subst (λ (a : Actor). count_by (is_same_actor a) (turned by trail effect).done
          ≤ length (filter_map (duty_of a) (turned by trail effect).caused))
          (one_actor by other test) (own_within by trail effect duty rest had)
      done_by other false test =
          other_within by other trail effect test (same_either by other test)
          (before.done_within other)

  -- after a step that is no turn
  step_queues : (effect : Effect) (now : List Duty) → now ≡ queue ++ effect.duties
      → QueuesStand config (with_effect by trail effect) (slice_set queues index now)
  step_queues effect now is_now =
      queues_stand (with_effect by trail effect) now
      (is_now ∙ sym (own_pending by trail effect (before.done_within by)
      ∙ ap (λ (l : List Duty). l ++ effect.duties) queue_pending))
      (λ other differs. other_pending by other trail effect differs)
      (λ other. grown_within by other trail effect (before.done_within other))

-- A day, step by step.

-- no action lifts a quote that is withdrawn, nor withdraws one that is lifted
still_one : {config : Configuration} {facts : List Fact} {desk : Option ℕ} {room : Option RoomRef}
    {effect : Effect} → IsAction config facts desk room effect → AreOneOf config facts
    → AreOneOf config (facts ++ effect.facts)
still_one {config} {facts} action one number row quote is =
    action_keeps config number row is IsOneOf (one_is_kept config.date row) facts _ _ _ action
    (λ other. one number row other is) quote

-- a list that is what is left without its first is empty
pub none_left : {X : Type 0} (xs : List X) → xs ≡ drop 1 xs → xs ≡ []
none_left [] same = refl
none_left (x ∷ xs) same =
    let lengths : length (x ∷ xs) ≡ length xs = ap length same in
    absurd (omega arith)

-- an actor of the venue has a queue, which is found where the code looks
pub has_queue : (config : Configuration) (by : Actor) (trail : AuditTrail) (replay : Replay)
    → is_known config by ≡ true → ReplayStands config trail replay
    → index_in (length replay.queues.items) by ≡ Some (queue_of config by)
has_queue config by trail replay known stands =
    index_of config (length replay.queues.items) by known
    (sym (length-map replay.queues.items (λ queue. queue.items)) ∙ stands.queues_stand.count)

module _ {config : Configuration} {trail : AuditTrail} {replay : Replay} {index : ℕ}
    {queue : List Duty} (by : Actor) (known : is_known config by ≡ true)
    (before : ReplayStands config trail replay)
    (found : Some index ≡ index_in (length replay.queues.items) by)
    (there : slice_get (duties_in replay) index ≡ Some queue) where
  is : index ≡ queue_of config by
  is = same_Some index (queue_of config by)
      (found ∙ has_queue config by trail replay known before)

  had : pending by trail ≡ queue
  had = queue_pending by known before.queues_stand is there

  -- a turn that does a duty
  pub full_turn : {after : Replay} {duty : Duty} {rest : List Duty} (left : List Duty)
      → queue ≡ duty ∷ rest
      → ActsOnce (λ config facts. duty_effect config facts by duty) replay.floor after.floor left
      → duties_in after ≡ slice_set (duties_in replay) index (rest ++ left)
      → ReplayStands config (after_turn config by trail (pending by trail)) after
  full_turn {duty} {rest} left is_queue acts queues_are =
      let effect = duty_effect config trail.facts by duty in
      let does = acts config trail.facts before.floor_stands before.are_one_of in
      let was : pending by trail ≡ duty ∷ rest = had ∙ is_queue in
      rw was (record {
        floor_stands = does.stands;
        are_one_of = still_one (duty_action config trail.facts by duty) before.are_one_of;
        queues_stand = rw queues_are
            (turn_queues by known before.queues_stand is there effect rest (rest ++ left) duty
            is_queue (ap (λ (l : List Duty). rest ++ l) does.leaves));
      })

  -- a turn of an actor that has nothing to do
  pub idle_turn : {after : Replay} → queue ≡ [] → after.floor ≡ replay.floor
      → duties_in after ≡ slice_set (duties_in replay) index []
      → ReplayStands config (after_turn config by trail (pending by trail)) after
  idle_turn {after} is_queue floor_is queues_are =
      let was : pending by trail ≡ [] = had ∙ is_queue in
      let same : duties_in after ≡ duties_in replay = queues_are
      ∙ set_same (duties_in replay) index [] (there ∙ ap (λ (l : List Duty). Some l) is_queue) in
      rw was (record {
        floor_stands = rw floor_is before.floor_stands;
        are_one_of = before.are_one_of;
        queues_stand = rw same before.queues_stand;
      })

  -- where a turn was done
  pub full_told : (after : Floor) (done : Done) {duty : Duty} {rest : List Duty}
      → queue ≡ duty ∷ rest → IsDone replay.floor after (placed replay.floor.config by duty) done
      → IsTurnDone config by (pending by trail) replay.floor after done
  full_told after done {duty} {rest} is_queue done_is =
      let was : pending by trail ≡ duty ∷ rest = had ∙ is_queue in
      rw was (subst (λ (venue : Configuration).
      IsDone replay.floor after (placed venue by duty) done) before.floor_stands.config_is done_is)

  pub idle_told : (after : Floor) {done : Done} → queue ≡ [] → done ≡ place.Nowhere
      → IsTurnDone config by (pending by trail) replay.floor after done
  idle_told after is_queue done_is =
      let was : pending by trail ≡ [] = had ∙ is_queue in
      rw was done_is

  -- a step that is no turn
  pub step_follows : {after : Replay} {effect : Effect} {left : List Duty} {desk : Option ℕ}
      {room : Option RoomRef} → IsAction config trail.facts desk room effect
      → Does config trail.facts effect after.floor left
      → duties_in after ≡ slice_set (duties_in replay) index (queue ++ left)
      → ReplayStands config (with_effect by trail effect) after
  step_follows {effect} {left} action does queues_are = record {
    floor_stands = does.stands;
    are_one_of = still_one action before.are_one_of;
    queues_stand = rw queues_are
        (step_queues by known before.queues_stand is there effect (queue ++ left)
        (ap (λ (l : List Duty). queue ++ l) does.leaves));
  }
