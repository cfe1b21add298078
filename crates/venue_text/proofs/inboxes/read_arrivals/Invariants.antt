use Rattle.std.proofs.Common.{◌≡◌, None}
use Rattle.step_replay.specs.StepFaults.{first_fault}
use Rattle.venue_rows.specs.Rows.{values_of}
use Rattle.venue_text.specs.ArrivingDays.{arrivals_of, arrivals_from}
use Rattle.input_lines.specs.StepLemmas.{behind_steps}
use Rattle.venue_text.proofs.inboxes.read_arrivals.Given as goal

abbrev pub invariant-loop-line : goal.invariant-loop-line
invariant-loop-line l = record {
  next : (goal.iterator-loop-line).can_next l.line-iterator;
  ends : (goal.iterator-loop-line).is_finite l.line-iterator;
  read : arrivals_of (values_of l.config) l.fn.lines ≡ behind_steps l.steps.items (arrivals_from (values_of l.config) l.heard l.line-iterator);
  known : first_fault l.config l.steps.items ≡ None;
}
