use Rattle.std.proofs.Common.{◌≡◌, ◌+◌, ◌++◌, drop}
use Rattle.step_replay.specs.VenueRooms.{requests_of, rooms_from}
use Rattle.input_lines.specs.StepLines.{sweeps_at}
use Rattle.input_lines.proofs.line_steps.push_sweeps_from.Given as goal

abbrev pub invariant-loop-row : goal.invariant-loop-row
invariant-loop-row l = record {
  number : l.investor ≡ l.first + l.row-index;
  items : l.fn.steps.items ++ sweeps_at l.moment (rooms_from l.first (requests_of l.investors))
      ≡ l.steps.items ++ sweeps_at l.moment (rooms_from l.investor (requests_of (drop l.row-index l.investors)));
}
