use Rattle.std.proofs.Common.{◌≡◌, ◌+◌, length}
use Rattle.std.specs.Vec.Iter.{into_iter_items}
use Rattle.session_worker.proofs.threads.joined.Given as goal

abbrev pub invariant-loop-worker : goal.invariant-loop-worker
invariant-loop-worker g l = record {
  next : (goal.iterator-loop-worker g).can_next l.worker-iterator;
  ends : (goal.iterator-loop-worker g).is_finite l.worker-iterator;
  counted : length l.works.items + length (into_iter_items l.worker-iterator)
      ≡ length l.fn.workers.items;
}
