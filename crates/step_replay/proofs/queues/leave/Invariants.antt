use Rattle.step_replay.proofs.Common.{◌≡◌, ◌++◌}
use Rattle.step_replay.proofs.queues.leave.Given as goal

abbrev pub invariant-loop-duty : goal.invariant-loop-duty
invariant-loop-duty l = l.queue.items ≡ l.fn.queue.items ++ l.yielded
