use Rattle.input_lines.proofs.BarLemmas.{IsBarred}
use Rattle.input_lines.proofs.bars.put_one_by_one.Given as goal

abbrev pub invariant-loop-byte : goal.invariant-loop-byte
invariant-loop-byte l = IsBarred l.fn.text l.byte-index l.text
