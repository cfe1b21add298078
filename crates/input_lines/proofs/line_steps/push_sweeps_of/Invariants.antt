use Rattle.std.proofs.Common.{◌≡◌, ◌≤◌, ◌-◌, ◌++◌}
use Rattle.step_replay.specs.VenueRooms.{rooms_behind}
use Rattle.input_lines.specs.StepLines.{sweeps_at}
use Rattle.input_lines.proofs.line_steps.push_sweeps_of.Given as goal

abbrev pub invariant-loop-before : goal.invariant-loop-before
invariant-loop-before l = record {
  items : l.fn.steps.items ++ sweeps_at l.moment (rooms_behind l.investor 0 l.requests)
      ≡ l.steps.items ++ sweeps_at l.moment (rooms_behind l.investor l.before (l.requests - l.before));
  within : l.before ≤ l.requests;
}
