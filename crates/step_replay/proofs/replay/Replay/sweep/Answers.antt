use Rattle.step_replay.proofs.Common.{map, slice_set, arith, ap, ◌∙◌, nat_tests, map-set, subst}
use Rattle.step_replay.proofs.Common.{sweep_action, swept, Configuration, IsDone}
use Rattle.venue_steps.specs.declared.actors.Actor.TheVariants as actor
use Rattle.step_replay.proofs.FollowLemmas.{queue_at, step_follows}
use Rattle.step_replay.proofs.replay.Replay.sweep.Goals as goal

pub returns-clause-follows : goal.returns-clause-follows
returns-clause-follows c config trail known before =
    let queues = c.args.self.now.queues.items in
    let index = c.in-Some.index in
    step_follows actor.Clock known before c.in-Some.ensures
    (queue_at (λ q. q.items) queues index c.in-Some-get_mut.queue.now
    (grind (arith, nat_tests, c.in-Some-get_mut.ensures.item.0)) c.in-Some-get_mut.ensures.item.1)
    (sweep_action config trail.facts c.args.room c.args.moment)
    (c.in_ok-acted.ensures.acts config trail.facts before.floor_stands before.are_one_of)
    (map-set (λ q. q.items) queues index c.leave.new.queue
    ∙ ap (slice_set (map (λ q. q.items) queues) index) c.in_ok-leave.ensures)

pub returns-clause-done : goal.returns-clause-done
returns-clause-done c config trail known before =
    subst (λ (venue : Configuration). IsDone c.args.self.now.floor c.sweep.new.floor
    (swept venue c.args.room c.args.moment) c.in_ok-acted.acted.done) before.floor_stands.config_is
    c.in_ok-acted.ensures.done
