use Rattle.live_runs.specs.LineForms.{meant_form}
use Rattle.live_runs.proofs.RunLemmas.{run_answered, run_failed}
use Rattle.live_runs.proofs.live.run_live.Goals as goal

pub returns-in_default : goal.returns-in_default
returns-in_default g c =
    run_answered (meant_form c.args.form) c.args.argument.now c.new-run.result (g.R.Read.remaining c.args.input.now) (g.R.Read.remaining c.answer_all.new.input)
    (record { before = g.W.Write.contents c.args.out.now; after = g.W.Write.contents c.answer_all.new.out })
    (record { before = g.E.Write.contents c.args.err.now; after = g.E.Write.contents c.answer_all.new.err }) c.new-run.ensures.first
    c.in_default.ensures.ok

pub returns : goal.returns
returns g c =
    run_failed (meant_form c.args.form) c.args.argument.now c.new-run.result (g.R.Read.remaining c.args.input.now) (g.R.Read.remaining c.answer_all.new.input)
    (g.W.Write.contents c.args.out.now) (g.W.Write.contents c.answer_all.new.out) (g.E.Write.contents c.args.err.now) (g.E.Write.contents c.answer_all.new.err)
    (g.E.Write.contents c.report.new.err) c.in-Err.fault c.report.result c.new-run.ensures.first c.in-Err.ensures.err c.report.ensures.status
    c.report.ensures.told
