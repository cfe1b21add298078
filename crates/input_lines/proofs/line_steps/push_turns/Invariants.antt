use Rattle.std.proofs.Common.{◌≡◌, ◌≤◌, ◌++◌, replicate}
use Rattle.step_replay.specs.declared.steps.Step.TheVariants as step
use Rattle.input_lines.proofs.line_steps.push_turns.Given as goal

abbrev pub invariant-loop : goal.invariant-loop
invariant-loop l = record {
  items : l.steps.items ≡ l.fn.steps.items ++ replicate l.counter (step.Turn l.by);
  within : l.counter ≤ l.count;
}
