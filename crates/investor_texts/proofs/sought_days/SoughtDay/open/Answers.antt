use Rattle.std.proofs.Common.{ap}
use Rattle.investor_texts.specs.SoughtDays.{meant}
use Rattle.investor_texts.proofs.FaultLemmas.{same_fault}
use Rattle.investor_texts.proofs.SoughtLemmas.{fault_of_firms, fault_of_investor, opens_firms}
use Rattle.investor_texts.proofs.SoughtLemmas.{opens_investor}
use Rattle.investor_texts.proofs.sought_days.SoughtDay.open.Goals as goal

pub returns-in_ok-day-in-Firms-clause-ok : goal.returns-in_ok-day-in-Firms-clause-ok
returns-in_ok-day-in-Firms-clause-ok c =
    opens_firms c.args.sought _ c.args.text.now _ c.in-Firms.is c.in_ok-day-in-Firms.ensures.ok

pub returns-in_err-day-in-Firms-clause-err : goal.returns-in_err-day-in-Firms-clause-err
returns-in_err-day-in-Firms-clause-err c =
    let fault = c.in_err-day-in-Firms.field-0.0 in
    same_fault _ c.from_residual.result fault c.from_residual.ensures.1
    (λ other. fault_of_firms c.args.sought _ c.args.text.now fault c.in-Firms.is
    (c.in_err-day-in-Firms.ensures.err other))

pub returns-in_ok-day-in-Investor-clause-ok : goal.returns-in_ok-day-in-Investor-clause-ok
returns-in_ok-day-in-Investor-clause-ok c =
    opens_investor (meant c.args.sought) _ c.args.text.now _ (ap meant c.in-Investor.is)
    c.in_ok-day-in-Investor.ensures.ok

pub returns-in_err-day-in-Investor-clause-err : goal.returns-in_err-day-in-Investor-clause-err
returns-in_err-day-in-Investor-clause-err c =
    let fault = c.in_err-day-in-Investor.field-0.0 in
    same_fault _ c.from_residual-in_err-day-in-Investor.result fault
    c.from_residual-in_err-day-in-Investor.ensures.1
    (λ other. fault_of_investor (meant c.args.sought) _ c.args.text.now fault
    (ap meant c.in-Investor.is) (c.in_err-day-in-Investor.ensures.err other))
