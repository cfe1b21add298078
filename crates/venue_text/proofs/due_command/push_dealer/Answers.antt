use Rattle.std.proofs.Common.{◌++◌, List, ℕ, ap, ◌∙◌}
use Rattle.step_replay.specs.AuditTrail.{audit_trail}
use Rattle.step_replay.specs.declared.dues.Due.{Due}
use Rattle.venue_text.specs.DueCommand.{due_text}
use Rattle.venue_text.proofs.DueLemmas.{dealer_at, no_dealer_at}
use Rattle.venue_text.proofs.due_command.push_dealer.Goals as goal

pub returns-in_default-clause-ok : goal.returns-in_default-clause-ok
returns-in_default-clause-ok c =
    let config = c.args.venue.now in
    no_dealer_at config (audit_trail config c.args.steps.now) c.args.dealer c.args.text.now.items c.in_default.ensures

pub returns-clause-ok : goal.returns-clause-ok
returns-clause-ok c =
    let config = c.args.venue.now in
    let row = c.in-Some.row.now in
    c.in_ok-push_due_text.ensures
    ∙ ap (λ (t : List ℕ). c.args.text.now.items ++ t)
    (ap (λ (date : List ℕ). due_text date row c.as_slice.result.now) c.date.ensures
    ∙ ap (λ (dues : List Due). due_text config.date row dues) (c.as_slice.ensures.value ∙ c.in_ok-dues.ensures.ok)
    ∙ dealer_at config (audit_trail config c.args.steps.now) c.args.dealer row c.in-Some.ensures)
