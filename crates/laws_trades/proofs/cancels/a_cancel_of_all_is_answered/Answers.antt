use Rattle.laws_trades.proofs.CancelDays.{answered}
use Rattle.laws_trades.proofs.cancels.a_cancel_of_all_is_answered.Goals as goal

pub returns : goal.returns
returns c config steps dealer moment last row bytes is drops before behind =
    let asked = c.what_is_asked_is_of_the_day.ensures in
    answered c.limits_are_kept.ensures.lone record { asks = asked.message; drops = asked.drop } config
    dealer row is steps moment bytes last drops before behind
