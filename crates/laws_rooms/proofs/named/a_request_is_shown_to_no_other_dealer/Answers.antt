use Rattle.laws_rooms.proofs.NamedLemmas.{has_asked, only_named}
use Rattle.laws_rooms.proofs.named.a_request_is_shown_to_no_other_dealer.Goals as goal

pub returns-clause-only : goal.returns-clause-only
returns-clause-only c config steps investor request dealer accepted is =
    let asked = c.what_is_asked_is_of_the_day.ensures in
    only_named c.limits_are_kept.ensures.lone record { asks = asked.message; drops = asked.drop } config
    steps investor request dealer accepted is

pub returns-clause-accepted : goal.returns-clause-accepted
returns-clause-accepted c config steps room dealer is =
    let asked = c.what_is_asked_is_of_the_day.ensures in
    has_asked c.limits_are_kept.ensures.lone record { asks = asked.message; drops = asked.drop } config
    steps room dealer is
