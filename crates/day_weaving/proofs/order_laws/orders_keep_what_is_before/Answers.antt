use Rattle.day_weaving.proofs.ActorOrderLemmas.{stands_once}
use Rattle.day_weaving.proofs.OrderLawLemmas.{comes_before, no_cycle}
use Rattle.day_weaving.proofs.order_laws.orders_keep_what_is_before.Goals as goal

pub returns-clause-once : goal.returns-clause-once
returns-clause-once c day slots keeps action is = stands_once day slots keeps action is

pub returns-clause-before : goal.returns-clause-before
returns-clause-before c day slots named keeps one other before =
    comes_before day slots named keeps one other before

pub returns-clause-cycle : goal.returns-clause-cycle
returns-clause-cycle c day slots actions named cycle keeps =
    no_cycle day slots named keeps actions cycle
