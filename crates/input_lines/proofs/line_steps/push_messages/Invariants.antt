use Rattle.std.proofs.Common.{◌≡◌, ◌++◌, map}
use Rattle.std.specs.Vec.Iter.{into_iter_items}
use Rattle.input_lines.specs.StepLines.{in_steps}
use Rattle.input_lines.proofs.line_steps.push_messages.Given as goal

abbrev pub invariant-loop-bytes : goal.invariant-loop-bytes
invariant-loop-bytes l = record {
  next : (goal.iterator-loop-bytes).can_next l.bytes-iterator;
  ends : (goal.iterator-loop-bytes).is_finite l.bytes-iterator;
  items : l.fn.steps.items ++ in_steps l.firm l.moment l.fn.messages ≡ l.steps.items ++ in_steps l.firm l.moment (map (λ bytes. bytes.items) (into_iter_items l.bytes-iterator));
}
