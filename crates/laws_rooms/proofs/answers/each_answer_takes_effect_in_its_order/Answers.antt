use Rattle.laws_rooms.proofs.AnswerDays.{all_took}
use Rattle.laws_rooms.proofs.answers.each_answer_takes_effect_in_its_order.Goals as goal

pub returns : goal.returns
returns c config steps dealer row room is idle =
    let asked = c.what_is_asked_is_of_the_day.ensures in
    all_took c.limits_are_kept.ensures.lone record { asks = asked.message; drops = asked.drop } config
    dealer row is room steps idle
