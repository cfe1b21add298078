use Rattle.std.proofs.Common.{◌≡◌, ◌≤◌, ◌-◌, length}
use Rattle.input_lines.proofs.BarLemmas.{IsBarred}
use Rattle.input_lines.proofs.bars.put_in_blocks.Given as goal

abbrev pub decreases-loop-text : goal.decreases-loop-text
decreases-loop-text l = length l.text - l.done

abbrev pub invariant-loop-text : goal.invariant-loop-text
invariant-loop-text l = (l.done ≤ length l.fn.text) × (length l.text ≡ length l.fn.text) × IsBarred l.fn.text l.done l.text
