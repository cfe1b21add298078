use Rattle.std.proofs.lemmas.List.{take_more}
use Rattle.live_runs.proofs.GainLemmas.{same_fault}
use Rattle.live_runs.proofs.ByteLemmas.{feeds_fail_at}
use Rattle.live_runs.proofs.live.LiveRun.feed.Goals as goal

pub returns-in_err-feed_byte-clause-err : goal.returns-in_err-feed_byte-clause-err
returns-in_err-feed_byte-clause-err g c =
    same_fault _ c.from_residual.result c.in_err-feed_byte.field-0.0 c.from_residual.ensures.1
    (feeds_fail_at c.args.self.now c.loop-byte.self c.in_err-feed_byte.field-0.0 c.args.bytes.now c.loop-byte.byte-index
    (g.W.Write.contents c.args.out.now) (g.W.Write.contents c.loop-byte.out) (g.W.Write.contents c.feed_byte.new.out)
    (g.E.Write.contents c.args.err.now) (g.E.Write.contents c.loop-byte.err) (g.E.Write.contents c.feed_byte.new.err)
    c.loop-byte.invariant c.in_err-feed_byte.ensures.err
    (take_more c.args.bytes.now c.loop-byte.byte-index 0 c.loop-byte-test.true))
