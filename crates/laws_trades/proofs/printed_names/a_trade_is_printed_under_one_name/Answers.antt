use Rattle.std.proofs.Common.{ℕ, ◌≤◌, List, ap, length, subst, sym}
use Rattle.market_terms.specs.declared.rooms.RoomRef.{RoomRef}
use Rattle.laws_trades.proofs.FewTrades.{few_trades}
use Rattle.laws_trades.proofs.NamedPairs.{named_alike, one_trade}
use Rattle.laws_trades.proofs.printed_names.a_trade_is_printed_under_one_name.Goals as goal

pub returns-clause-both : goal.returns-clause-both
returns-clause-both c config steps investor_row limits idle trade is_investor =
    named_alike c.the_same_facts_have_the_same_notes.ensures config steps investor_row trade is_investor
    (c.a_trade_is_named_on_both_sides.ensures config steps trade.deal.investor trade.deal.dealer investor_row
    trade.deal.row limits is_investor trade.deal.is_dealer idle)

pub returns-clause-no_other : goal.returns-clause-no_other
returns-clause-no_other c config steps name one other investor_row another limits idle is_investor is_another is
    is_too =
    let few = few_trades c.both_sides_of_a_trade_agree.ensures.notices c.limits_are_kept.ensures.quotes
    config steps idle one.dealer one.row one.is_dealer investor_row.name in
    let same = c.a_trade_is_named_on_both_sides.ensures config steps one.investor one.dealer investor_row one.row
    limits is_investor one.is_dealer idle in
    one_trade config limits steps name investor_row another one other is_investor is_another
    (subst (λ (l : List RoomRef). length l ≤ 4096) (sym same) few) is is_too
