use Rattle.std.proofs.Common.{◌++◌, take}
use Rattle.live_runs.proofs.StreamLemmas.{appends_both, appends_kept, prefix_taken, split_more}
use Rattle.live_runs.proofs.output.write_text.Goals as goal

pub loop-rest-preserved : goal.loop-rest-preserved
loop-rest-preserved g c =
    let i = c.loop-rest.invariant in
    let n = c.in-Ok.count in
    (i.0 ++ take n c.loop-rest.rest.now, split_more c.args.text.now i.0 c.loop-rest.rest.now n i.1, appends_both _ _ _ i.0 (take n c.loop-rest.rest.now) i.2 c.in-Ok.ensures.bytes)

pub returns-in_default-clause-prefix : goal.returns-in_default-clause-prefix
returns-in_default-clause-prefix g c =
    let i = c.loop-rest.invariant in
    prefix_taken _ c.args.text.now i.0 c.loop-rest.rest.now (appends_kept _ _ _ i.0 i.2 c.in_default.ensures.bytes) i.1

pub returns-then-count-eq0-clause-prefix : goal.returns-then-count-eq0-clause-prefix
returns-then-count-eq0-clause-prefix g c =
    let i = c.loop-rest.invariant in
    let n = c.in-Ok.count in
    prefix_taken _ c.args.text.now (i.0 ++ take n c.loop-rest.rest.now) _
    (appends_both _ _ _ i.0 (take n c.loop-rest.rest.now) i.2 c.in-Ok.ensures.bytes) (split_more c.args.text.now i.0 c.loop-rest.rest.now n i.1)

pub returns-clause-prefix : goal.returns-clause-prefix
returns-clause-prefix g c =
    let i = c.loop-rest.invariant in
    prefix_taken _ c.args.text.now i.0 c.loop-rest.rest.now i.2 i.1
