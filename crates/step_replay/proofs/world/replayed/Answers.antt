use Rattle.step_replay.proofs.Common.{take, audit_trail}
use Rattle.step_replay.proofs.StartLemmas.{day_more, no_fault_at, day_begins}
use Rattle.step_replay.proofs.world.replayed.Goals as goal

pub loop-step-init : goal.loop-step-init
loop-step-init c =
    rw (day_begins c.args.config.now c.args.steps.now) c.in_ok-replay.ensures

pub loop-step-preserved : goal.loop-step-preserved
loop-step-preserved c =
    let config = c.args.config.now in
    let steps = c.args.steps.now in
    let at = c.loop-step.step-index in
    rw (day_more config steps at c.step-item.result c.loop-step-test.true c.step-item.is)
    (c.in_ok-follow.ensures config (audit_trail config (take at steps))
    (no_fault_at config steps at c.step-item.result c.requires c.loop-step-test.true
    c.step-item.is)
    c.loop-step.invariant)
