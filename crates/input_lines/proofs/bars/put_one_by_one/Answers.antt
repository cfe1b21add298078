use Rattle.std.proofs.Common.{arith}
use Rattle.input_lines.proofs.BarLemmas.{barred_more, barred_all, barred_none}
use Rattle.input_lines.proofs.bars.put_one_by_one.Goals as goal

pub loop-byte-init : goal.loop-byte-init
loop-byte-init c = barred_none c.args.text.now

pub loop-byte-preserved : goal.loop-byte-preserved
loop-byte-preserved c =
    let more = barred_more _ c.loop-byte.text c.loop-byte.byte-index (omega arith) (omega arith) c.loop-byte.invariant in
    rw c.with_bar.ensures more

pub returns : goal.returns
returns c = barred_all c.args.text.now c.loop-byte.text c.loop-byte.byte-index (omega arith) (omega arith) c.loop-byte.invariant
