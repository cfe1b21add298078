use Rattle.std.proofs.Common.{inl, arith, length, ap}
use Rattle.input_lines.proofs.CutLemmas.{length-parts_of}
use Rattle.input_lines.proofs.lines.one_past.Goals as goal

pub count-requires-clause-fits : goal.count-requires-clause-fits
count-requires-clause-fits c =
    let same = ap length c.new.ensures in
    inl (omega (arith, length-parts_of 10 c.args.text.now))

pub overflow_add-result : goal.overflow_add-result
overflow_add-result c =
    let same = ap length c.new.ensures in
    let few = c.count.ensures.bound in
    omega (arith, length-parts_of 10 c.args.text.now)
