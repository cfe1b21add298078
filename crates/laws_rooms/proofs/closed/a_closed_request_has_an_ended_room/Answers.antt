use Rattle.laws_rooms.proofs.ClosedDays.{all_ended}
use Rattle.laws_rooms.proofs.closed.a_closed_request_has_an_ended_room.Goals as goal

pub returns : goal.returns
returns c config steps room closed =
    let asked = c.what_is_asked_is_of_the_day.ensures in
    all_ended c.limits_are_kept.ensures.lone record { asks = asked.message; drops = asked.drop } config
    room steps closed
