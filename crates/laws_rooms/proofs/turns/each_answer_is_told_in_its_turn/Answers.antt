use Rattle.laws_rooms.proofs.FollowLemmas.{untold}
use Rattle.laws_rooms.proofs.TellingDays.{told_in_turn}
use Rattle.laws_rooms.proofs.turns.each_answer_is_told_in_its_turn.Goals as goal

pub returns : goal.returns
returns c config steps dealer row room investor limits is is_investor idle =
    let asked = c.what_is_asked_is_of_the_day.ensures in
    told_in_turn c.limits_are_kept.ensures.lone record { asks = asked.message; drops = asked.drop } config
    dealer row is room investor is_investor (untold dealer config row is room) steps limits idle
