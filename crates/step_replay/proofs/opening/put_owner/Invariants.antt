use Rattle.step_replay.proofs.Common.{◌≡◌, ◌≤◌, ◌++◌, replicate}
use Rattle.step_replay.proofs.opening.put_owner.Given as goal

abbrev pub invariant-loop : goal.invariant-loop
invariant-loop l = record {
  items : l.owners.items ≡ l.fn.owners.items ++ replicate l.counter l.number;
  within : l.counter ≤ l.words;
}
