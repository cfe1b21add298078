use Rattle.std.proofs.Common.{Some, true, false, sym, arith}
use Rattle.investor_texts.proofs.AloneLemmas.{fault_is, noted_by}
use Rattle.investor_texts.proofs.FaultLemmas.{same_fault}
use Rattle.investor_texts.proofs.noted_command.noted_alone_command_text.Goals as goal

pub returns-then-is_investors-clause-ok : goal.returns-then-is_investors-clause-ok
returns-then-is_investors-clause-ok c =
    noted_by true c.args.with_frames c.args.input.now _ (omega arith)
    (sym c.if-is_investors.ensures) c.in_ok-investors.ensures.ok

pub returns-in_err-investors-clause-err : goal.returns-in_err-investors-clause-err
returns-in_err-investors-clause-err c =
    let fault = c.in_err-investors.field-0.0 in
    same_fault _ c.from_residual.result fault c.from_residual.ensures.1
    (λ other. fault_is true c.args.input.now (Some fault) (omega arith)
    (sym c.if-is_investors.ensures) (c.in_err-investors.ensures.err other))

pub returns-clause-ok : goal.returns-clause-ok
returns-clause-ok c =
    noted_by false c.args.with_frames c.args.input.now _ (omega arith)
    (sym c.if-is_investors.ensures) c.in_ok-dealers.ensures.ok

pub returns-in_err-dealers-clause-err : goal.returns-in_err-dealers-clause-err
returns-in_err-dealers-clause-err c =
    let fault = c.in_err-dealers.field-0.0 in
    same_fault _ c.from_residual-in_err-dealers.result fault
    c.from_residual-in_err-dealers.ensures.1
    (λ other. fault_is false c.args.input.now (Some fault) (omega arith)
    (sym c.if-is_investors.ensures) (c.in_err-dealers.ensures.err other))
