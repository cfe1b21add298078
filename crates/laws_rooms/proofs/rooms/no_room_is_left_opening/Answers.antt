use Rattle.laws_rooms.proofs.RoomLemmas.{is_shown, none_opening}
use Rattle.laws_rooms.proofs.rooms.no_room_is_left_opening.Goals as goal

pub returns-clause-opening : goal.returns-clause-opening
returns-clause-opening c config steps room idle =
    let asked = c.what_is_asked_is_of_the_day.ensures in
    none_opening c.limits_are_kept.ensures.lone record { asks = asked.message; drops = asked.drop } config
    steps idle room

pub returns-clause-shown : goal.returns-clause-shown
returns-clause-shown c config steps room dealer idle named =
    let asked = c.what_is_asked_is_of_the_day.ensures in
    is_shown c.limits_are_kept.ensures.lone record { asks = asked.message; drops = asked.drop } config
    steps idle room dealer named
