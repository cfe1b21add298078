use Rattle.step_replay.specs.AuditTrail as venue
use Rattle.laws_trades.proofs.WithdrawalLemmas.{never_lifted, never_traded, sent_said}
use Rattle.laws_trades.proofs.withdrawals.what_is_withdrawn_is_never_traded.Goals as goal

pub returns-clause-said : goal.returns-clause-said
returns-clause-said c = sent_said

pub returns-clause-unlifted : goal.returns-clause-unlifted
returns-clause-unlifted c config steps dealer row bytes quote found is confirms quoted =
    never_lifted config.date row (venue.audit_trail config steps).facts dealer
    (λ number. c.no_quote_is_lifted_and_withdrawn.ensures config steps dealer row number found)
    (c.quotes_are_shown_once.ensures.own config steps dealer row found) bytes is quote confirms quoted

pub returns-clause-untraded : goal.returns-clause-untraded
returns-clause-untraded c config steps dealer row bytes quote found is confirms quoted trade at same =
    never_traded config row (venue.audit_trail config steps).facts dealer
    (λ number. c.no_quote_is_lifted_and_withdrawn.ensures config steps dealer row number found)
    (c.quotes_are_shown_once.ensures.own config steps dealer row found) bytes is quote confirms quoted
    trade at same
