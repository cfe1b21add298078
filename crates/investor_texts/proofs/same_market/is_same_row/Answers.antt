use Rattle.std.proofs.Common.{◌≡◌, rules}
use Rattle.investor_texts.proofs.MarketLemmas.{same_by_quantity}
use Rattle.investor_texts.proofs.same_market.is_same_row.Goals as goal

pub returns : goal.returns
returns c =
    let named : c.args.one.now.name ≡ c.args.other.now.name = search rules in
    let traders = c.are_same_traders.ensures.0 c.if-not-are_same_traders.false in
    same_by_quantity c.args.one.now c.args.other.now named traders c.if-one-other.false
    c.if-one-other-2.false
