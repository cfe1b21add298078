use Rattle.std.proofs.Common.{◌≡◌, length}
use Rattle.session_worker.proofs.threads.worked.Given as goal

abbrev pub invariant-loop-inbox : goal.invariant-loop-inbox
invariant-loop-inbox g l = length l.workers.items ≡ l.inbox-index
