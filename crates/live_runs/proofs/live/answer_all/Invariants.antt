use Rattle.std.proofs.Common.{List, ℕ}
use Rattle.std.specs.Io.KnownBytes.{Consumes}
use Rattle.live_runs.specs.LiveCalls.{Feeds}
use Rattle.live_runs.proofs.live.answer_all.Given as goal

abbrev pub invariant-loop : goal.invariant-loop
invariant-loop g l =
    (bytes : List ℕ)
    × Consumes (g.R.Read.remaining l.fn.input) (g.R.Read.remaining l.input) bytes
    × Feeds bytes l.fn.run l.run
    (record { before = g.W.Write.contents l.fn.out; after = g.W.Write.contents l.out })
    (record { before = g.E.Write.contents l.fn.err; after = g.E.Write.contents l.err })
