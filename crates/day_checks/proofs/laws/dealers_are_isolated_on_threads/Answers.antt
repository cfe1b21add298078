use Rattle.std.proofs.Common.{◌∙◌, ℕ, List, Some, ap, sym}
use Rattle.std.specs.Option.{option_map}
use Rattle.step_replay.specs.AuditTrail as venue
use Rattle.recorded_days.specs.DayDues.{day_dues_of}
use Rattle.step_replay.specs.DealerView.{dealer_view}
use Rattle.day_checks.proofs.ViewLemmas.{is_sent_on}
use Rattle.day_checks.proofs.laws.dealers_are_isolated_on_threads.Goals as goal

pub returns-clause-days : goal.returns-clause-days
returns-clause-days c one other inboxes others sweeps clocked day later dealer number row keeps kept dates here there alike =
    is_sent_on one day dealer row keeps.dealers_keep here
    ∙ ap (λ (date : List ℕ). option_map (dealer_view date row) (day_dues_of one day dealer)) dates
    ∙ ap (option_map (dealer_view other.date row)) alike
    ∙ sym (is_sent_on other later number row kept.dealers_keep there)

pub returns-clause-replayed : goal.returns-clause-replayed
returns-clause-replayed c one other steps inboxes sweeps day dealer number row kept dates here there alike =
    let due = venue.due_to dealer (venue.audit_trail one steps) in
    ap Some (c.dealers_are_sent_their_view.ensures one steps dealer row here)
    ∙ ap (λ (date : List ℕ). Some (dealer_view date row due)) dates
    ∙ ap (option_map (dealer_view other.date row)) alike
    ∙ sym (is_sent_on other day number row kept.dealers_keep there)
