use Rattle.step_replay.proofs.Common.{◌∙◌, ℕ, List, ap, sym, dealer_view, Due, is_sent_its_view}
use Rattle.step_replay.specs.AuditTrail as venue
use Rattle.step_replay.proofs.laws.dealers_are_isolated.Goals as goal

pub returns : goal.returns
returns c one other steps others dealer number row dates here there due_alike =
    let due_here = venue.due_to dealer (venue.audit_trail one steps) in
    is_sent_its_view one steps dealer row here
    ∙ ap (λ (date : List ℕ). dealer_view date row due_here) dates
    ∙ ap (λ (dues : List Due). dealer_view other.date row dues) due_alike
    ∙ sym (is_sent_its_view other others number row there)
