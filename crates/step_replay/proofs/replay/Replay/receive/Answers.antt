use Rattle.step_replay.proofs.Common.{map, slice_set, arith, ap, ◌∙◌, nat_tests, map-set}
use Rattle.step_replay.proofs.Common.{message_action}
use Rattle.venue_steps.specs.declared.actors.Actor.TheVariants as actor
use Rattle.step_replay.proofs.FollowLemmas.{queue_at, step_follows}
use Rattle.step_replay.proofs.replay.Replay.receive.Goals as goal

pub returns-clause-follows : goal.returns-clause-follows
returns-clause-follows c config trail known before =
    let queues = c.args.self.now.queues.items in
    let index = c.in-Some.index in
    step_follows (actor.Firm c.args.firm) known before c.in-Some.ensures
    (queue_at (λ q. q.items) queues index c.in-Some-get_mut.queue.now
    (grind (arith, nat_tests, c.in-Some-get_mut.ensures.item.0)) c.in-Some-get_mut.ensures.item.1)
    (message_action config trail.facts c.args.firm c.args.moment c.args.bytes.now)
    (c.in_ok-acted.ensures.acts config trail.facts before.floor_stands)
    (map-set (λ q. q.items) queues index c.leave.new.queue
    ∙ ap (slice_set (map (λ q. q.items) queues) index) c.in_ok-leave.ensures)
