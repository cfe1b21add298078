use Rattle.step_replay.proofs.Common.{◌≡◌, ◌≤◌, [], map, replicate}
use Rattle.step_replay.proofs.replay.empty_queues.Given as goal

abbrev pub invariant-loop : goal.invariant-loop
invariant-loop l = record {
  items : map (λ queue. queue.items) l.queues.items ≡ replicate l.counter [];
  within : l.counter ≤ l.count;
}
