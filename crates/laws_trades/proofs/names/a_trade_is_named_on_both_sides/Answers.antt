use Rattle.venue_steps.specs.declared.actors.Actor.TheVariants as actor
use Rattle.laws_trades.proofs.NameDay.{names_both}
use Rattle.laws_trades.proofs.names.a_trade_is_named_on_both_sides.Goals as goal

pub returns : goal.returns
returns c config steps investor dealer investor_row dealer_row limits is_investor is_dealer idle =
    let asked = c.what_is_asked_is_of_the_day.ensures in
    names_both c.limits_are_kept.ensures.lone record { asks = asked.message; drops = asked.drop }
    config limits investor dealer investor_row dealer_row is_investor is_dealer steps (idle (actor.Firm investor))
