use Rattle.laws_rooms.proofs.AskLemmas.{declined_to_it}
use Rattle.laws_rooms.proofs.declines.each_decline_comes_to_its_investor.Goals as goal

pub returns : goal.returns
returns c config steps room dealer idle there =
    let asked = c.what_is_asked_is_of_the_day.ensures in
    declined_to_it c.limits_are_kept.ensures.lone record { asks = asked.message; drops = asked.drop } config
    steps idle room dealer there
