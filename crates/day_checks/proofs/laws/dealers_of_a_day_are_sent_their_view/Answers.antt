use Rattle.day_checks.proofs.ViewLemmas.{is_sent_on}
use Rattle.day_checks.proofs.laws.dealers_of_a_day_are_sent_their_view.Goals as goal

pub returns : goal.returns
returns c config inboxes sweeps day dealer row keeps here =
    is_sent_on config day dealer row keeps.dealers_keep here
