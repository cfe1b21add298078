use Rattle.laws_rooms.proofs.AskLemmas.{came_to_it}
use Rattle.laws_rooms.proofs.quotes.each_quote_comes_to_its_investor.Goals as goal

pub returns : goal.returns
returns c config steps room quote idle there =
    let asked = c.what_is_asked_is_of_the_day.ensures in
    came_to_it c.limits_are_kept.ensures.lone record { asks = asked.message; drops = asked.drop } config
    steps idle room quote there
