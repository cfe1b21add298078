use Rattle.laws_rooms.proofs.ReplyDays.{all_answered}
use Rattle.laws_rooms.proofs.responses.each_response_is_answered.Goals as goal

pub returns : goal.returns
returns c config steps investor row is idle =
    let asked = c.what_is_asked_is_of_the_day.ensures in
    all_answered c.limits_are_kept.ensures.lone record { asks = asked.message; drops = asked.drop } config
    investor row is steps idle
