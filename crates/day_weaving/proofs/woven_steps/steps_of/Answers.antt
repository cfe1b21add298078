use Rattle.std.proofs.Common.{arith}
use Rattle.day_weaving.proofs.StepLemmas.{slot_in, steps_more}
use Rattle.day_weaving.proofs.woven_steps.steps_of.Goals as goal

pub put_step-requires-clause-slot : goal.put_step-requires-clause-slot
put_step-requires-clause-slot c =
    slot_in c.args.day.now c.args.slots.now c.loop-index.index _ c.requires.keeps (omega arith)

pub loop-index-preserved : goal.loop-index-preserved
loop-index-preserved c =
    let more =
    steps_more c.args.day.now c.args.slots.now c.loop-index.index _ c.loop-index.came
    c.put_step.new.came c.loop-index.steps.items c.put_step.new.steps.items c.requires.keeps
    (omega arith) c.loop-index.invariant.are c.loop-index.invariant.came
    c.in_ok-put_step.ensures.step c.in_ok-put_step.ensures.came in
    record {
      are = more.0;
      came = more.1;
    }
