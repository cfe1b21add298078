use Rattle.std.proofs.Common.{length}
use Rattle.fix_fields.specs.Scan.{HoldsFields}
use Rattle.fix_fields.proofs.scan.are_fields.Given as goal

abbrev pub invariant-loop-rest : goal.invariant-loop-rest
invariant-loop-rest l = (HoldsFields l.fn.text → HoldsFields l.rest) × (HoldsFields l.rest → HoldsFields l.fn.text)

abbrev pub decreases-loop-rest : goal.decreases-loop-rest
decreases-loop-rest l = length l.rest
