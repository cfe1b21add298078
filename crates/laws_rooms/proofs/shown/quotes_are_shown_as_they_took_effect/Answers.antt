use Rattle.laws_rooms.proofs.OfferDays.{all_shown}
use Rattle.laws_rooms.proofs.OfferLemmas.{unrelayed}
use Rattle.laws_rooms.proofs.shown.quotes_are_shown_as_they_took_effect.Goals as goal

pub returns : goal.returns
returns c config steps dealer row room is idle =
    let asked = c.what_is_asked_is_of_the_day.ensures in
    all_shown c.limits_are_kept.ensures.lone record { asks = asked.message; drops = asked.drop } config
    dealer row is room (unrelayed dealer config row is room) steps idle
