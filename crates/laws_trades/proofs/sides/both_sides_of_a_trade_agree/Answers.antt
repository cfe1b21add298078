use Rattle.laws_days.proofs.VenueDay.{venue_ok}
use Rattle.laws_trades.proofs.BothSides.{trade_of, trade_told}
use Rattle.laws_trades.proofs.QuoteNumbers.{quotes_fit}
use Rattle.laws_trades.proofs.TradeDay.{trade_ok}
use Rattle.laws_trades.proofs.sides.both_sides_of_a_trade_agree.Goals as goal

pub returns-clause-answers : goal.returns-clause-answers
returns-clause-answers c config steps investor request quote price dealer idle answer =
    let lone = c.limits_are_kept.ensures.lone in
    let asked = c.what_is_asked_is_of_the_day.ensures in
    trade_of (venue_ok lone record { asks = asked.message; drops = asked.drop } config steps)
    (trade_ok lone record { asks = asked.message; drops = asked.drop } config steps)
    (quotes_fit config steps) idle investor request quote dealer price answer

pub returns-clause-notices : goal.returns-clause-notices
returns-clause-notices c config steps dealer row request moment idle is told =
    let lone = c.limits_are_kept.ensures.lone in
    let asked = c.what_is_asked_is_of_the_day.ensures in
    trade_told (venue_ok lone record { asks = asked.message; drops = asked.drop } config steps)
    (trade_ok lone record { asks = asked.message; drops = asked.drop } config steps)
    (quotes_fit config steps) idle dealer row request moment is told
