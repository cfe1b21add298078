use Rattle.laws_rooms.proofs.EndDays.{all_closed}
use Rattle.laws_rooms.proofs.ends.an_ended_room_is_closed_at_its_desk.Goals as goal

pub returns : goal.returns
returns c config steps room idle ended =
    let asked = c.what_is_asked_is_of_the_day.ensures in
    all_closed c.limits_are_kept.ensures.lone record { asks = asked.message; drops = asked.drop } config
    room steps idle ended
