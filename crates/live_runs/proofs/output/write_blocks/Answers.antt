use Rattle.std.proofs.Common.{arith, rules}
use Rattle.std.specs.Io.KnownBytes.{Appends}
use Rattle.live_runs.proofs.StreamLemmas.{appends_none, blocks_more, blocks_part, blocks_whole}
use Rattle.live_runs.proofs.output.write_blocks.Goals as goal

pub loop-block-init : goal.loop-block-init
loop-block-init g c = appends_none (g.W.Write.contents c.args.out.now)

pub loop-block-preserved : goal.loop-block-preserved
loop-block-preserved g c =
    let contents = g.W.Write.contents in
    let more : Appends (contents c.loop-block.out) (contents c.write_text.new.out) c.as_slice.result.now = search rules in
    blocks_more (λ block. block.items) _ _ _ c.args.blocks.now c.loop-block.block-index c.block-item.result
    c.as_slice.result.now c.loop-block-test.true c.block-item.is c.as_slice.ensures.value c.loop-block.invariant more

pub returns-then-not-write_text-clause-prefix : goal.returns-then-not-write_text-clause-prefix
returns-then-not-write_text-clause-prefix g c =
    blocks_part (λ block. block.items) _ _ _ c.args.blocks.now c.loop-block.block-index c.block-item.result
    c.as_slice.result.now c.loop-block-test.true c.block-item.is c.as_slice.ensures.value c.loop-block.invariant
    c.write_text.ensures.prefix

pub returns-clause-prefix : goal.returns-clause-prefix
returns-clause-prefix g c =
    blocks_whole (λ block. block.items) _ _ c.args.blocks.now c.loop-block.block-index
    (omega (arith, c.loop-block-test.false)) c.loop-block.invariant
