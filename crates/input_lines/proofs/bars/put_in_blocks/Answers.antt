use Rattle.std.proofs.Common.{◌+◌, ◌≤◌, length, refl, ◌∙◌, arith}
use Rattle.std.proofs.lemmas.Bool.Decides.{nat_tests}
use Rattle.std.proofs.lemmas.Simd.{length-put_chunk}
use Rattle.input_lines.proofs.BarLemmas.{block_more, barred_none, length-barred}
use Rattle.input_lines.proofs.bars.put_in_blocks.Goals as goal

pub loop-text-init : goal.loop-text-init
loop-text-init c = (omega arith, refl, barred_none c.args.text.now)

pub loop-text-preserved : goal.loop-text-preserved
loop-text-preserved c =
    let was = c.args.text.now in
    let now = c.loop-text.text in
    let done = c.loop-text.done in
    let lanes = c.barred_block.result in
    let fit : done + 16 ≤ length now = grind (arith, nat_tests, c.loop-text-test.true) in
    let long = length-barred now lanes done fit c.barred_block.ensures in
    let kept = c.loop-text.invariant in (
      omega (arith, fit, kept.1),
      length-put_chunk done now lanes ∙ kept.1,
      block_more was now lanes done fit long c.barred_block.ensures kept.2,
    )
