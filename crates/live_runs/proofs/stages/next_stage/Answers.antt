use Rattle.std.proofs.Common.{◌≡◌, ◌≢◌, List, ℕ, rules, subst, true}
use Rattle.input_lines.specs.VenueParts.{is_divider}
use Rattle.input_lines.specs.declared.faults.ProgramFault.TheVariants.{Memory}
use Rattle.live_runs.specs.LineForms.{meant_form}
use Rattle.live_runs.specs.LiveCalls.{OpensNone}
use Rattle.live_runs.proofs.GainLemmas.{same_fault}
use Rattle.live_runs.proofs.RefusalLemmas.{bad_by}
use Rattle.live_runs.proofs.stages.next_stage.Goals as goal

pub returns-in_err-stage-clause-err : goal.returns-in_err-stage-clause-err
returns-in_err-stage-clause-err c =
    let form = meant_form c.args.form in
    let fault = c.in_err-stage.field-0.0 in
    let here : is_divider c.args.line.now ≡ true = search rules in
    let why = subst (λ (t : List ℕ). fault ≢ Memory → OpensNone form t fault) c.as_slice.ensures.value c.in_err-stage.ensures.err in
    same_fault _ c.from_residual-in_err-stage.result fault c.from_residual-in_err-stage.ensures.1
    (bad_by form c.args.line.now c.args.text.now.items fault here why)
