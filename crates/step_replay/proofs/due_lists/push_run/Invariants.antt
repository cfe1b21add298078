-- What was due by the events so far has come behind the dues.
use Rattle.step_replay.proofs.Common.{◌≡◌, ◌≤◌, ◌-◌}
use Rattle.step_replay.proofs.DueListLemmas.{run_behind}
use Rattle.step_replay.proofs.due_lists.push_run.Given as goal

abbrev pub invariant-loop-index : goal.invariant-loop-index
invariant-loop-index l = record {
  since : l.from ≤ l.index;
  no_further : l.index - l.from ≤ l.to - l.from;
  pushed : l.dues.items ≡ run_behind l.initial.dues.items l.events l.from l.index;
}
