use Rattle.std.proofs.Common.{ap}
use Rattle.investor_texts.specs.SoughtDays.{whom_meant}
use Rattle.live_runs.specs.LineForms.{meant_form}
use Rattle.live_runs.proofs.GainLemmas.{same_fault}
use Rattle.live_runs.proofs.RefusalLemmas.{turn_refused}
use Rattle.live_runs.proofs.stages.Stage.turned.Goals as goal

pub returns-in_err-other-in-Between-clause-err : goal.returns-in_err-other-in-Between-clause-err
returns-in_err-other-in-Between-clause-err c =
    let fault = c.in_err-other-in-Between.field-0.0 in
    same_fault _ c.from_residual.result fault c.from_residual.ensures.1
    (turn_refused (meant_form c.args.form) (whom_meant c.in-Compared.whom) c.args.self
    c.in-Between.one c.in-Between.text c.as_slice.result.now fault (ap meant_form c.in-Compared.is)
    c.in-Between.is c.as_slice.ensures.value c.in_err-other-in-Between.ensures.err)
