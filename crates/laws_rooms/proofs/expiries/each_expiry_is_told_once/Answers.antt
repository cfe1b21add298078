use Rattle.laws_rooms.proofs.CloseDays.{all_told}
use Rattle.laws_rooms.proofs.expiries.each_expiry_is_told_once.Goals as goal

pub returns : goal.returns
returns c config steps investor row is idle =
    let asked = c.what_is_asked_is_of_the_day.ensures in
    all_told c.limits_are_kept.ensures.lone record { asks = asked.message; drops = asked.drop } config
    investor row is steps idle
