use Rattle.std.proofs.Common.{take}
use Rattle.live_runs.specs.LiveCalls.{Feeds}
use Rattle.live_runs.proofs.live.LiveRun.feed.Given as goal

abbrev pub invariant-loop-byte : goal.invariant-loop-byte
invariant-loop-byte g l = Feeds (take l.byte-index l.bytes) l.fn.self l.self
    (record { before = g.W.Write.contents l.fn.out; after = g.W.Write.contents l.out })
    (record { before = g.E.Write.contents l.fn.err; after = g.E.Write.contents l.err })
