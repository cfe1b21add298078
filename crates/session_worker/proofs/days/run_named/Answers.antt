use Rattle.std.proofs.Common.{rules, ◌≡◌, ◌∙◌, sym, ap, subst, length, map}
use Rattle.std.proofs.lemmas.List.{length-map}
use Rattle.day_checks.specs.DayFaults.{IsFaultOf}
use Rattle.session_worker.proofs.FaultLemmas.{same_fault}
use Rattle.session_worker.proofs.days.run_named.Goals as goal

-- as many sessions as inboxes
pub recorded-requires-clause-sessions : goal.recorded-requires-clause-sessions
recorded-requires-clause-sessions g c =
    let same : length c.in_ok-sessions.sessions.items ≡ length c.args.inboxes.items =
    sym (length-map c.in_ok-sessions.sessions.items (λ session. session.inbox.items))
    ∙ ap length c.in_ok-sessions.ensures
    ∙ length-map c.args.inboxes.items (λ inbox. inbox.items) in
    same ∙ c.requires.inboxes

-- the fault is of the same inboxes and sweeps
pub returns-in_err-record-clause-true_of : goal.returns-in_err-record-clause-true_of
returns-in_err-record-clause-true_of g c =
    let config = g.J.Naming.config in
    let why = c.in_err-record.field-0.0 in
    let sessions = map (λ session. session.inbox.items) c.in_ok-sessions.sessions.items in
    let read : c.as_slice-3.result.now ≡ c.args.sweeps.items = search rules in
    same_fault _ c.from_residual-in_err-record.result why c.from_residual-in_err-record.ensures.1
    (subst (λ own. IsFaultOf config own c.args.sweeps.items why) c.in_ok-sessions.ensures
    (subst (λ own. IsFaultOf config sessions own why) read c.in_err-record.ensures.true_of))
