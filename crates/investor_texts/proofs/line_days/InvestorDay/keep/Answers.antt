use Rattle.std.proofs.Common.{◌≡◌, ◌≢◌, Some, refl, sym}
use Rattle.venue_rows.specs.Rows.{values_of}
use Rattle.input_lines.specs.StepReading.{steps_in}
use Rattle.input_lines.specs.declared.faults.ProgramFault.TheVariants.{Memory}
use Rattle.investor_texts.proofs.LineLemmas.{both_ok, takes_fault, takes_nothing, takes_steps}
use Rattle.investor_texts.proofs.line_days.InvestorDay.keep.Goals as goal

pub returns-then-is_skipped : goal.returns-then-is_skipped
returns-then-is_skipped c name config taken keeps =
    takes_nothing name config taken c.args.line c.args.text.now c.args.self.now c.args.self.now
    keeps refl refl (sym c.if-is_skipped.ensures) refl refl

pub returns-in-Err : goal.returns-in-Err
returns-in-Err c =
    let fault = c.in-Err.fault in
    both_ok c.refused.result (λ told. told ≡ Some fault) (λ _. fault ≢ Memory) _
    c.refused.ensures.told c.refused.ensures.other
    (λ told is other name config taken keeps.
    takes_fault name config taken c.args.line c.args.text.now c.args.self.now _ keeps refl refl
    (sym c.if-is_skipped.ensures) fault told is (c.in-Err.ensures.err other)
    (c.in-Err.ensures.unheard other) refl)

pub returns : goal.returns
returns c name config taken keeps =
    takes_steps name config taken c.args.line c.args.text.now c.args.self.now _ keeps refl refl
    (sym c.if-is_skipped.ensures)
    (steps_in (values_of c.args.self.now.config) c.in-Ok.spelled)
    c.in-Ok.ensures.ok c.in_ok-follow.ensures
