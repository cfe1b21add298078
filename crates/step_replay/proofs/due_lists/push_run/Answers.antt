use Rattle.step_replay.proofs.Common.{◌≤◌, arith}
use Rattle.step_replay.proofs.DueListLemmas.{run_pushed}
use Rattle.step_replay.proofs.due_lists.push_run.Goals as goal

pub loop-index-preserved : goal.loop-index-preserved
loop-index-preserved c =
    let since : c.args.from ≤ c.loop-index.index = c.loop-index.invariant.since in
    record {
      since = omega arith;
      no_further = omega arith;
      pushed = run_pushed c.args.dues.now.items c.loop-index.dues.items c.push.new.self.items
          c.args.events.now c.args.from c.loop-index.index c.in-Some.event.now
          c.in_ok-due_by.field-0 c.in_ok-push.ensures.items c.loop-index.invariant.pushed
          c.in_ok-due_by.ensures since c.in-Some.ensures.lookup.3.0 c.in-Some.ensures.lookup.1;
    }
