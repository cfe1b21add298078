use Rattle.laws_rooms.proofs.LiveAnswers.{all_even}
use Rattle.laws_rooms.proofs.answers.each_answer_takes_effect_on_a_live_day.Goals as goal

pub returns : goal.returns
returns c config steps dealer row room is live =
    let asked = c.what_is_asked_is_of_the_day.ensures in
    all_even c.limits_are_kept.ensures.lone record { asks = asked.message; drops = asked.drop } config
    dealer row is room steps live
