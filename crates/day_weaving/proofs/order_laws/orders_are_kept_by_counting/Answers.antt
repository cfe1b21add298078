use Rattle.day_weaving.specs.DayForm.{AreNamedOnce}
use Rattle.day_weaving.specs.DayOrder.{KeepsOrder}
use Rattle.day_weaving.specs.OrderLaws.{IsOrder}
use Rattle.day_weaving.specs.declared.weave_plan.Slot.{Slot}
use Rattle.recorded_days.specs.Records.{RecordedDay}
use Rattle.std.proofs.Common.{List}
use Rattle.day_weaving.proofs.ActorOrderLemmas.{stands_once}
use Rattle.day_weaving.proofs.CountedOrders.{keeps_order}
use Rattle.day_weaving.proofs.OrderLawLemmas.{comes_before, no_cycle}
use Rattle.day_weaving.proofs.order_laws.orders_are_kept_by_counting.Goals as goal

is_order : (day : RecordedDay) (slots : List Slot) → AreNamedOnce day → KeepsOrder day slots
    → IsOrder day slots
is_order day slots named keeps = record {
  stand = λ place now there. (keeps.turns place now there).stands;
  once = λ action is. stands_once day slots keeps action is;
  behind = λ one other before. comes_before day slots named keeps one other before;
}

pub returns-clause-kept : goal.returns-clause-kept
returns-clause-kept c day slots named keeps = is_order day slots named keeps

pub returns-clause-counted : goal.returns-clause-counted
returns-clause-counted c day slots named order = keeps_order day slots named order

pub returns-clause-woven : goal.returns-clause-woven
returns-clause-woven c config day steps woven =
    (woven.order, is_order day woven.order woven.well_formed.named woven.keeps, woven.are_steps)

pub returns-clause-cycle : goal.returns-clause-cycle
returns-clause-cycle c day slots actions named cycle order =
    no_cycle day slots named (keeps_order day slots named order) actions cycle
