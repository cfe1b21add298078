use Rattle.std.proofs.Common.{◌≡◌, Err, subst}
use Rattle.investor_texts.specs.SoughtDays.{OpensSought, Sought, asked_venue}
use Rattle.investor_texts.proofs.FaultLemmas.{same_fault}
use Rattle.investor_texts.proofs.sought_days.SoughtDay.open_for.Goals as goal

pub returns-clause-ok : goal.returns-clause-ok
returns-clause-ok c =
    subst (λ (s : Sought). OpensSought s c.args.text.now c.in_ok-day.day) c.sought.ensures
    c.in_ok-day.ensures.ok

pub returns-in_err-day-clause-err : goal.returns-in_err-day-clause-err
returns-in_err-day-clause-err c =
    let fault = c.in_err-day.field-0.0 in
    same_fault _ c.from_residual.result fault c.from_residual.ensures.1
    (λ other. subst (λ (s : Sought). asked_venue s c.args.text.now ≡ Err fault) c.sought.ensures
    (c.in_err-day.ensures.err other))
