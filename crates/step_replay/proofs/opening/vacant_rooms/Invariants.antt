use Rattle.step_replay.proofs.Common.{◌≡◌, ◌≤◌, [], replicate}
use Rattle.step_replay.proofs.opening.vacant_rooms.Given as goal

abbrev pub invariant-loop : goal.invariant-loop
invariant-loop l = record {
  items : l.rooms.items ≡ replicate l.counter [];
  within : l.counter ≤ l.count;
}
