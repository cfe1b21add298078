use Rattle.investor_desk.proofs.KeptLemmas.{kept_empty}
use Rattle.investor_desk.proofs.desks.InvestorDesk.of_seen.Goals as goal

pub invariant_of-result : goal.invariant_of-result
invariant_of-result c = rw (c.new.ensures.items, c.new-2.ensures.items, c.new-3.ensures.items, c.new-4.ensures) (kept_empty c.seen-market.result)
