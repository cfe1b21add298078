use Rattle.laws_days.proofs.VenueDesk.{WordsOfDay}
use Rattle.laws_isolation.proofs.LiveDayPairs.{live_presence}
use Rattle.laws_isolation.proofs.presence.presence_is_not_told_on_live_days.Goals as goal

pub returns : goal.returns
returns c config days dealer alike =
    let words : WordsOfDay = record {
      asks = c.what_is_asked_is_of_the_day.ensures.message;
      drops = c.what_is_asked_is_of_the_day.ensures.drop;
    } in
    live_presence config dealer c.limits_are_kept.ensures.lone words
    (λ bytes fields is. (c.frame_of_is_the_reading.ensures.reads bytes fields).1 is) days alike
