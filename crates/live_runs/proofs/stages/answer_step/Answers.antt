use Rattle.std.proofs.Common.{List, ℕ, refl, subst}
use Rattle.std.specs.Io.KnownBytes.{Appends}
use Rattle.input_lines.specs.declared.faults.ProgramFault.TheVariants.{Memory}
use Rattle.live_runs.specs.Written.{GainsPart}
use Rattle.live_runs.proofs.GainLemmas.{same_fault}
use Rattle.live_runs.proofs.DayLineLemmas.{day_answered, day_out_of_memory, day_unprinted}
use Rattle.live_runs.proofs.StreamLemmas.{keeps_same}
use Rattle.live_runs.proofs.stages.answer_step.Goals as goal

pub returns-in_err-output-clause-err : goal.returns-in_err-output-clause-err
returns-in_err-output-clause-err g c =
    let out = g.W.Write.contents c.args.out.now in
    let err = g.E.Write.contents c.args.err.now in
    same_fault _ c.from_residual.result Memory c.from_residual.ensures.1
    (λ form lines start at had more.
    day_out_of_memory form lines c.args.line.now c.args.day.now (record { before = start.out; after = out })
    start.err err err more Memory refl had (keeps_same err))

pub returns-in_err-print_output-clause-err : goal.returns-in_err-print_output-clause-err
returns-in_err-print_output-clause-err g c =
    let output = c.in_ok-output.output in
    let old = g.W.Write.contents c.args.out.now in
    let new = g.W.Write.contents c.print_output.new.out in
    let part = subst (λ (t : List ℕ). GainsPart t (record { before = old; after = new })) c.as_slice.ensures.value
    c.in_err-print_output.ensures.part in
    same_fault _ c.from_residual-in_err-print_output.result c.in_err-print_output.field-0.0 c.from_residual-in_err-print_output.ensures.1
    (λ form lines start at had more.
    day_unprinted form lines c.args.number c.args.line.now output.text.items output.fault c.args.day.now c.output.new.self
    c.in_ok-output.ensures at start.out old new start.err (g.E.Write.contents c.args.err.now) (g.E.Write.contents c.report_fault.new.err)
    had c.report_fault.ensures more c.in_err-print_output.field-0.0 c.in_err-print_output.ensures.err part)

pub returns-clause-ok : goal.returns-clause-ok
returns-clause-ok g c form lines start at had =
    let output = c.in_ok-output.output in
    let old = g.W.Write.contents c.args.out.now in
    let new = g.W.Write.contents c.print_output.new.out in
    let gained = subst (λ (t : List ℕ). Appends old new t) c.as_slice.ensures.value c.in_ok-print_output.ensures.ok in
    day_answered form lines c.args.number c.args.line.now output.text.items output.fault c.args.day.now c.output.new.self
    c.in_ok-output.ensures at start.out old new start.err (g.E.Write.contents c.args.err.now) (g.E.Write.contents c.report_fault.new.err)
    had c.report_fault.ensures gained
