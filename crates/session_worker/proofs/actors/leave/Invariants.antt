use Rattle.std.proofs.Common.{◌≡◌, ◌++◌}
use Rattle.session_worker.proofs.actors.leave.Given as goal

abbrev pub invariant-loop-duty : goal.invariant-loop-duty
invariant-loop-duty l = l.queue.items ≡ l.fn.queue.items ++ l.yielded
