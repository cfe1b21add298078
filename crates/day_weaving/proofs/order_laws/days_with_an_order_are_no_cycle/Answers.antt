use Rattle.day_weaving.proofs.OrderLawLemmas.{told_with_an_order}
use Rattle.day_weaving.proofs.order_laws.days_with_an_order_are_no_cycle.Goals as goal

pub returns : goal.returns
returns c config day slots fault well keeps true_of = told_with_an_order config day slots fault well keeps true_of
