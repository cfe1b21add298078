use Rattle.laws_rooms.proofs.FollowLemmas.{untold}
use Rattle.laws_rooms.proofs.LiveTellings.{live_in_turn}
use Rattle.laws_rooms.proofs.turns.each_answer_is_told_on_a_live_day.Goals as goal

pub returns : goal.returns
returns c config steps dealer row room investor limits is is_investor live =
    let asked = c.what_is_asked_is_of_the_day.ensures in
    live_in_turn c.limits_are_kept.ensures.lone record { asks = asked.message; drops = asked.drop } config
    dealer row is room investor is_investor (untold dealer config row is room) steps live limits
