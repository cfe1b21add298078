use Rattle.laws_rooms.proofs.AskLemmas.{shown_once}
use Rattle.laws_rooms.proofs.asked.each_accepted_request_is_shown.Goals as goal

pub returns : goal.returns
returns c config steps investor request dealer idle accepted named =
    let asked = c.what_is_asked_is_of_the_day.ensures in
    shown_once c.limits_are_kept.ensures.lone record { asks = asked.message; drops = asked.drop } config
    steps idle investor request accepted dealer named
