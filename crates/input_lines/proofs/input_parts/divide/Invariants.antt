use Rattle.std.proofs.Common.{length}
use Rattle.input_lines.proofs.PartLemmas.{Reached}
use Rattle.input_lines.proofs.input_parts.divide.Given as goal

abbrev pub invariant-loop-rest : goal.invariant-loop-rest
invariant-loop-rest l = Reached l.text l.count l.rest

abbrev pub decreases-loop-rest : goal.decreases-loop-rest
decreases-loop-rest l = length l.rest
