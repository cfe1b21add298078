use Rattle.step_replay.proofs.Common.{◌<◌, ◌++◌, length, map, slice_set, arith, sym, ap, refl, ◌∙◌}
use Rattle.step_replay.proofs.Common.{nat_tests, map-set, same_Some, lent, get_set_same}
use Rattle.std.proofs.lemmas.List.{set-set}
use Rattle.step_replay.proofs.FollowLemmas.{full_told, full_turn, idle_told, idle_turn, none_left}
use Rattle.step_replay.proofs.FollowLemmas.{queue_at}
use Rattle.step_replay.proofs.replay.Replay.turn.Goals as goal

pub returns-in_default-pop_front-clause-follows : goal.returns-in_default-pop_front-clause-follows
returns-in_default-pop_front-clause-follows c config trail known before =
    let queues = c.args.self.now.queues.items in
    let queue = c.in-Some-get_mut.queue.now in
    let popped = c.in_default-pop_front.ensures in
    let empty = none_left queue.items (popped.items ∙ popped.rest) in
    idle_turn c.args.by known before c.in-Some.ensures
    (queue_at (λ q. q.items) queues c.in-Some.index queue
    (grind (arith, nat_tests, c.in-Some-get_mut.ensures.item.0)) c.in-Some-get_mut.ensures.item.1)
    empty refl
    (map-set (λ q. q.items) queues c.in-Some.index c.pop_front.new.self
    ∙ ap (slice_set (map (λ q. q.items) queues) c.in-Some.index) (sym popped.items ∙ empty))

pub returns-in_default-pop_front-clause-done : goal.returns-in_default-pop_front-clause-done
returns-in_default-pop_front-clause-done c config trail known before =
    let queues = c.args.self.now.queues.items in
    let queue = c.in-Some-get_mut.queue.now in
    let popped = c.in_default-pop_front.ensures in
    idle_told c.args.by known before c.in-Some.ensures
    (queue_at (λ q. q.items) queues c.in-Some.index queue
    (grind (arith, nat_tests, c.in-Some-get_mut.ensures.item.0)) c.in-Some-get_mut.ensures.item.1)
    _ (none_left queue.items (popped.items ∙ popped.rest)) refl

pub returns-clause-follows : goal.returns-clause-follows
returns-clause-follows c config trail known before =
    let queues = c.args.self.now.queues.items in
    let index = c.in-Some.index in
    let queue = c.in-Some-get_mut.queue.now in
    let popped = c.pop_front.new.self in
    let second = c.in-Some-get_mut-2.queue.now in
    let left = c.in_ok-acted.acted.duties.items in
    let within : index < length queues = grind (arith, nat_tests, c.in-Some-get_mut.ensures.item.0) in
    let within_too : index < length (slice_set queues index popped) =
    grind (arith, nat_tests, c.in-Some-get_mut-2.ensures.item.0) in
    let same = same_Some popped second (sym (get_set_same queues index popped within)
    ∙ lent (slice_set queues index popped) index second within_too
    c.in-Some-get_mut-2.ensures.item.1) in
    full_turn c.args.by known before c.in-Some.ensures
    (queue_at (λ q. q.items) queues index queue within c.in-Some-get_mut.ensures.item.1)
    left c.in-Some-pop_front.ensures.items c.in_ok-acted.ensures.acts
    (ap (map (λ q. q.items)) (set-set queues index popped c.leave.new.queue)
    ∙ map-set (λ q. q.items) queues index c.leave.new.queue
    ∙ ap (slice_set (map (λ q. q.items) queues) index)
    (c.in_ok-leave.ensures ∙ ap (λ q. q.items ++ left) (sym same)))

pub returns-clause-done : goal.returns-clause-done
returns-clause-done c config trail known before =
    let queues = c.args.self.now.queues.items in
    full_told c.args.by known before c.in-Some.ensures
    (queue_at (λ q. q.items) queues c.in-Some.index c.in-Some-get_mut.queue.now
    (grind (arith, nat_tests, c.in-Some-get_mut.ensures.item.0)) c.in-Some-get_mut.ensures.item.1)
    _ _ c.in-Some-pop_front.ensures.items c.in_ok-acted.ensures.done
