use Rattle.venue_config.proofs.RowLemmas.{found_in_front, found_behind}
use Rattle.venue_config.proofs.rows.has_firm.Goals as goal

pub returns-then-has_dealer : goal.returns-then-has_dealer
returns-then-has_dealer c =
    found_in_front c.args.dealers.now c.args.investors.now c.args.name.now _ c.has_dealer.ensures c.if-has_dealer.true

pub returns-else-has_dealer : goal.returns-else-has_dealer
returns-else-has_dealer c =
    found_behind c.args.dealers.now c.args.investors.now c.args.name.now _ _ c.has_dealer.ensures c.if-has_dealer.false c.has_investor.ensures
