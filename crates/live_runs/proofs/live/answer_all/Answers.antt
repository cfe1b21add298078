use Rattle.std.proofs.Common.{◌++◌, rules, take}
use Rattle.std.specs.Io.KnownBytes.{IsAtEnd}
use Rattle.live_runs.proofs.GainLemmas.{same_fault}
use Rattle.live_runs.proofs.ByteLemmas.{feeds_both}
use Rattle.live_runs.proofs.RunLemmas.{all_answered, all_ended, all_failed, all_unread}
use Rattle.live_runs.proofs.RunLemmas.{consumes_end, consumes_more}
use Rattle.live_runs.proofs.StreamLemmas.{keeps_same}
use Rattle.live_runs.proofs.live.answer_all.Goals as goal

pub returns-in_default-clause-err : goal.returns-in_default-clause-err
returns-in_default-clause-err g c =
    let i = c.loop.invariant in
    all_unread c.args.run.now c.loop.run i.0 (g.W.Write.contents c.args.out.now) (g.W.Write.contents c.loop.out)
    (g.E.Write.contents c.args.err.now) (g.E.Write.contents c.loop.err) (g.R.Read.remaining c.args.input.now)
    (g.R.Read.remaining c.loop.input) (g.R.Read.remaining c.read.new.self) i.2 i.1 c.in_default.ensures.bytes

pub returns-then-count-eq0-clause-ok : goal.returns-then-count-eq0-clause-ok
returns-then-count-eq0-clause-ok g c =
    let i = c.loop.invariant in
    let end : IsAtEnd (g.R.Read.remaining c.read.new.self) = search rules in
    all_answered c.args.run.now c.loop.run i.0 (g.W.Write.contents c.args.out.now) (g.W.Write.contents c.loop.out)
    (g.W.Write.contents c.end.new.out) (g.E.Write.contents c.args.err.now) (g.E.Write.contents c.loop.err) (g.E.Write.contents c.end.new.err)
    i.2 (g.R.Read.remaining c.args.input.now) (g.R.Read.remaining c.read.new.self)
    (consumes_end (g.R.Read.remaining c.args.input.now) (g.R.Read.remaining c.loop.input) (g.R.Read.remaining c.read.new.self) i.0 _ c.in-Ok.count i.1
    c.in-Ok.ensures.bytes.0 c.if-count-eq0.true) end c.in_ok-end.ensures.ok

pub returns-in_err-end-clause-err : goal.returns-in_err-end-clause-err
returns-in_err-end-clause-err g c =
    let i = c.loop.invariant in
    let end : IsAtEnd (g.R.Read.remaining c.read.new.self) = search rules in
    same_fault _ c.from_residual.result c.in_err-end.field-0.0 c.from_residual.ensures.1
    (all_ended c.args.run.now c.loop.run i.0 (g.W.Write.contents c.args.out.now) (g.W.Write.contents c.loop.out)
    (g.W.Write.contents c.end.new.out) (g.E.Write.contents c.args.err.now) (g.E.Write.contents c.loop.err) (g.E.Write.contents c.end.new.err)
    i.2 c.in_err-end.field-0.0 (g.R.Read.remaining c.args.input.now) (g.R.Read.remaining c.read.new.self)
    (consumes_end (g.R.Read.remaining c.args.input.now) (g.R.Read.remaining c.loop.input) (g.R.Read.remaining c.read.new.self) i.0 _ c.in-Ok.count i.1
    c.in-Ok.ensures.bytes.0 c.if-count-eq0.true) end c.in_err-end.ensures.err)

pub returns-in_err-feed-clause-err : goal.returns-in_err-feed-clause-err
returns-in_err-feed-clause-err g c =
    let i = c.loop.invariant in
    let more = take c.in-Ok.count c.read.new.buf in
    same_fault _ c.from_residual-in_err-feed.result c.in_err-feed.field-0.0 c.from_residual-in_err-feed.ensures.1
    (all_failed c.args.run.now c.loop.run i.0 (g.W.Write.contents c.args.out.now) (g.W.Write.contents c.loop.out)
    (g.W.Write.contents c.feed.new.out) (g.E.Write.contents c.args.err.now) (g.E.Write.contents c.loop.err) (g.E.Write.contents c.feed.new.err)
    i.2 c.in_err-feed.field-0.0 more (g.R.Read.remaining c.args.input.now) (g.R.Read.remaining c.read.new.self)
    (consumes_more (g.R.Read.remaining c.args.input.now) (g.R.Read.remaining c.loop.input) (g.R.Read.remaining c.read.new.self) i.0 more i.1
    c.in-Ok.ensures.bytes.0) c.in_err-feed.ensures.err)

pub loop-preserved : goal.loop-preserved
loop-preserved g c =
    let i = c.loop.invariant in
    let more = take c.in-Ok.count c.read.new.buf in (
      i.0 ++ more,
      consumes_more (g.R.Read.remaining c.args.input.now) (g.R.Read.remaining c.loop.input) (g.R.Read.remaining c.read.new.self) i.0 more i.1
          c.in-Ok.ensures.bytes.0,
      feeds_both c.args.run.now c.loop.run c.feed.new.self i.0 more (g.W.Write.contents c.args.out.now) (g.W.Write.contents c.loop.out)
          (g.W.Write.contents c.feed.new.out) (g.E.Write.contents c.args.err.now) (g.E.Write.contents c.loop.err) (g.E.Write.contents c.feed.new.err)
          i.2 c.in_ok-feed.ensures.ok,
    )

pub returns-clause-err : goal.returns-clause-err
returns-clause-err g c =
    let i = c.loop.invariant in
    all_unread c.args.run.now c.loop.run i.0 (g.W.Write.contents c.args.out.now) (g.W.Write.contents c.loop.out)
    (g.E.Write.contents c.args.err.now) (g.E.Write.contents c.loop.err) (g.R.Read.remaining c.args.input.now)
    (g.R.Read.remaining c.loop.input) (g.R.Read.remaining c.loop.input) i.2 i.1 (keeps_same (g.R.Read.remaining c.loop.input))
