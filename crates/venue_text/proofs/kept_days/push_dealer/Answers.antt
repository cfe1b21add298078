use Rattle.std.proofs.Common.{ℕ, List, ◌++◌, ap, sym, ◌∙◌}
use Rattle.std.specs.Prelude.{is_some}
use Rattle.step_replay.specs.LiveDays.{live_trail}
use Rattle.step_replay.specs.declared.dues.Due.{Due}
use Rattle.venue_text.specs.DueCommand.{due_text}
use Rattle.venue_text.proofs.DueLemmas.{dealer_at, no_dealer_at}
use Rattle.venue_text.proofs.kept_days.push_dealer.Goals as goal

pub returns-in_default : goal.returns-in_default
returns-in_default c steps at =
    let config = c.args.day.now.config in
    no_dealer_at config (live_trail config steps) c.args.dealer c.args.text.now.items c.in_default.ensures

pub returns : goal.returns
returns c steps at =
    let config = c.args.day.now.config in
    let row = c.in-Some.row.now in
    let is = c.in-Some.ensures in
    c.in_ok-push_due_text.ensures
    ∙ ap (λ (t : List ℕ). c.args.text.now.items ++ t)
    (ap (λ (date : List ℕ). due_text date row c.as_slice.result.now) c.date.ensures
    ∙ ap (λ (dues : List Due). due_text config.date row dues)
    (c.as_slice.ensures.value ∙ c.in_ok-dues.ensures.dues config steps at (ap is_some (sym is)))
    ∙ dealer_at config (live_trail config steps) c.args.dealer row is)
