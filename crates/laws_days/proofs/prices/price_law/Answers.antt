use Rattle.laws_days.proofs.BlindDues.{is_blind}
use Rattle.laws_days.proofs.VenueDesk.{WordsOfDay}
use Rattle.laws_days.proofs.prices.price_law.Goals as goal

pub returns : goal.returns
returns c config steps others dealer alike =
    let words : WordsOfDay = record {
      asks = c.what_is_asked_is_of_the_day.ensures.message;
      drops = c.what_is_asked_is_of_the_day.ensures.drop;
    } in
    is_blind c.limits_are_kept.ensures.lone words
    (λ bytes fields is. (c.frame_of_is_the_reading.ensures.reads bytes fields).1 is) config steps
    others dealer alike
