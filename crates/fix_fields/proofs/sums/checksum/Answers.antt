use Rattle.std.proofs.Common.{arith}
use Rattle.fix_fields.proofs.SumLemmas.{sum_of_parts}
use Rattle.fix_fields.proofs.sums.checksum.Goals as goal

pub returns : goal.returns
returns c = omega (arith, sum_of_parts c.args.bytes.now c.sum_of_blocks-blocks.result.1)
