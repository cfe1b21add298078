use Rattle.std.proofs.Common.{◌+◌, ◌≤◌, length, take, refl, arith}
use Rattle.std.proofs.lemmas.Bool.Decides.{nat_tests}
use Rattle.fix_fields.proofs.SumLemmas.{lanes_more, lanes_begin, lanes_folded, length-added}
use Rattle.fix_fields.proofs.sums.sum_of_blocks.Goals as goal

pub loop-done-init : goal.loop-done-init
loop-done-init c = (omega arith, refl, lanes_begin c.args.bytes.now)

pub loop-done-preserved : goal.loop-done-preserved
loop-done-preserved c =
    let bytes = c.args.bytes.now in
    let lanes = c.loop-done.lanes in
    let done = c.loop-done.done in
    let kept = c.loop-done.invariant in
    let fit : done + 16 ≤ length bytes = grind (arith, nat_tests, c.loop-done-test.true) in
    (omega (arith, fit), length-added lanes bytes done kept.1 fit, lanes_more lanes bytes done kept.1 fit kept.2)

pub returns-clause-value : goal.returns-clause-value
returns-clause-value c =
    lanes_folded c.loop-done.lanes (take c.loop-done.done c.args.bytes.now) c.loop-done.invariant.2
