use Rattle.laws_trades.proofs.NameDay.{names_one}
use Rattle.laws_trades.proofs.names.a_trade_has_one_name.Goals as goal

pub returns : goal.returns
returns c config steps investor dealer investor_row dealer_row limits is_investor is_dealer =
    let asked = c.what_is_asked_is_of_the_day.ensures in
    names_one c.limits_are_kept.ensures.lone record { asks = asked.message; drops = asked.drop }
    config limits investor dealer investor_row dealer_row is_investor is_dealer steps
