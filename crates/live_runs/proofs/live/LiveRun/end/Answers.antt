use Rattle.std.proofs.Common.{sym}
use Rattle.live_runs.proofs.GainLemmas.{empty_line, same_fault}
use Rattle.live_runs.proofs.EndLemmas.{end_bare, end_fails, end_here, end_last, end_last_bare}
use Rattle.live_runs.proofs.live.LiveRun.end.Goals as goal

pub returns-in_err-close-clause-err : goal.returns-in_err-close-clause-err
returns-in_err-close-clause-err g c =
    same_fault _ c.from_residual.result c.in_err-close.field-0.0 c.from_residual.ensures.1
    (end_bare c.args.self.now (g.W.Write.contents c.args.out.now) (g.W.Write.contents c.close.new.out) (g.E.Write.contents c.args.err.now)
    (empty_line c.args.self.now.line.items c.if-is_bare.ensures) c.replace-stage.result c.replace-stage.ensures.value
    c.in_err-close.field-0.0 c.in_err-close.ensures.err)

pub returns-then-is_bare-clause-ok : goal.returns-then-is_bare-clause-ok
returns-then-is_bare-clause-ok g c =
    end_here c.args.self.now (g.W.Write.contents c.args.out.now) (g.W.Write.contents c.close.new.out) (g.E.Write.contents c.args.err.now)
    (empty_line c.args.self.now.line.items c.if-is_bare.ensures) c.replace-stage.result c.replace-stage.ensures.value c.in_ok-close.ensures.ok

pub returns-in_err-output_line-clause-err : goal.returns-in_err-output_line-clause-err
returns-in_err-output_line-clause-err g c =
    same_fault _ c.from_residual-in_err-output_line.result c.in_err-output_line.field-0.0 c.from_residual-in_err-output_line.ensures.1
    (end_fails c.args.self.now (sym c.if-is_bare.ensures) c.in_err-output_line.field-0.0
    (record { before = g.W.Write.contents c.args.out.now; after = g.W.Write.contents c.output_line.new.out })
    (record { before = g.E.Write.contents c.args.err.now; after = g.E.Write.contents c.output_line.new.err })
    c.in_err-output_line.ensures.err)

pub returns-in_err-close-2-clause-err : goal.returns-in_err-close-2-clause-err
returns-in_err-close-2-clause-err g c =
    same_fault _ c.from_residual-in_err-close-2.result c.in_err-close-2.field-0.0 c.from_residual-in_err-close-2.ensures.1
    (end_last_bare c.args.self.now (sym c.if-is_bare.ensures) c.output_line.new.self (g.W.Write.contents c.args.out.now)
    (g.W.Write.contents c.output_line.new.out) (g.W.Write.contents c.close-2.new.out) (g.E.Write.contents c.args.err.now)
    (g.E.Write.contents c.output_line.new.err) c.in_ok-output_line.ensures.ok c.replace-stage-2.result c.replace-stage-2.ensures.value
    c.in_err-close-2.field-0.0 c.in_err-close-2.ensures.err)

pub returns-clause-ok : goal.returns-clause-ok
returns-clause-ok g c =
    end_last c.args.self.now (sym c.if-is_bare.ensures) c.output_line.new.self (g.W.Write.contents c.args.out.now)
    (g.W.Write.contents c.output_line.new.out) (g.W.Write.contents c.close-2.new.out) (g.E.Write.contents c.args.err.now)
    (g.E.Write.contents c.output_line.new.err) c.in_ok-output_line.ensures.ok c.replace-stage-2.result c.replace-stage-2.ensures.value
    c.in_ok-close-2.ensures.ok
