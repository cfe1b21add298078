use Rattle.std.proofs.Common.{◌≡◌, ◌==◌, false, rules}
use Rattle.std.proofs.lemmas.Bool.Decides.{nat_tests}
use Rattle.live_runs.proofs.GainLemmas.{same_fault}
use Rattle.live_runs.proofs.ByteLemmas.{put_fails, take_end, take_fails}
use Rattle.live_runs.proofs.live.LiveRun.feed_byte.Goals as goal

pub returns-in_err-output_line-clause-err : goal.returns-in_err-output_line-clause-err
returns-in_err-output_line-clause-err g c =
    same_fault _ c.from_residual.result c.in_err-output_line.field-0.0 c.from_residual.ensures.1
    (take_fails c.args.self.now c.args.byte c.in_err-output_line.field-0.0 _ _ c.if-byte-eq10.true c.in_err-output_line.ensures.err)

pub returns-then-byte-eq10-clause-ok : goal.returns-then-byte-eq10-clause-ok
returns-then-byte-eq10-clause-ok g c =
    take_end c.args.self.now c.output_line.new.self c.args.byte _ _ c.if-byte-eq10.true c.in_ok-output_line.ensures.ok
    c.in_ok-output_line.ensures.empty

pub returns-in_err-put-clause-err : goal.returns-in_err-put-clause-err
returns-in_err-put-clause-err g c =
    let goes : (c.args.byte == 10) ≡ false = search (rules, nat_tests) in
    same_fault _ c.from_residual-in_err-put.result c.in_err-put.field-0.0 c.from_residual-in_err-put.ensures.1
    (put_fails c.args.self.now c.args.byte c.in_err-put.field-0.0 _ _ goes c.in_err-put.ensures.err)
