use Rattle.std.proofs.Common.{[], ◌∙◌, ap, sym}
use Rattle.quote_messages.specs.SessionLines.{unless_fault}
use Rattle.quote_messages.specs.SessionChecks.{investor_session_verdict, investor_tables, types_of}
use Rattle.quote_messages.specs.SessionChecks.{verdict_by}
use Rattle.quote_messages.proofs.investor_checks.judge_investor.Goals as goal

pub read_typed-requires : goal.read_typed-requires
read_typed-requires c = (c.in-Ok.ensures []).1

pub returns : goal.returns
unfolding investor_session_verdict
returns c =
    c.read_typed.ensures
    ∙ ap (λ found. unless_fault found (verdict_by investor_tables c.args.date.now c.args.message.now)) (sym (c.in-Ok.ensures (types_of investor_tables)).0)

pub returns-in-Err : goal.returns-in-Err
unfolding investor_session_verdict
returns-in-Err c =
    ap (λ found. unless_fault found (verdict_by investor_tables c.args.date.now c.args.message.now)) (sym (c.in-Err.ensures (types_of investor_tables)))
