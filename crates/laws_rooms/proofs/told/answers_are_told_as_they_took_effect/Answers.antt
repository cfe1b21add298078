use Rattle.laws_rooms.proofs.FollowLemmas.{untold}
use Rattle.laws_rooms.proofs.TellingDays.{all_told}
use Rattle.laws_rooms.proofs.told.answers_are_told_as_they_took_effect.Goals as goal

pub returns : goal.returns
returns c config steps dealer row room investor is is_investor idle =
    let asked = c.what_is_asked_is_of_the_day.ensures in
    all_told c.limits_are_kept.ensures.lone record { asks = asked.message; drops = asked.drop } config
    dealer row is room investor is_investor (untold dealer config row is room) steps idle
