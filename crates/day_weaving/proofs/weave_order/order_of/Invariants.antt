use Rattle.std.proofs.Common.{◌≡◌, ◌<◌, ℕ, Some, slice_get}
use Rattle.day_weaving.specs.OrderSearch.{HasCome, Stands}
use Rattle.day_weaving.specs.declared.weave_plan.Slot.{Slot}
use Rattle.day_weaving.proofs.weave_order.order_of.Given as goal

abbrev pub invariant-loop-index : goal.invariant-loop-index
invariant-loop-index l = record {
  stands : Stands l.day l.table l.state;
  come : (place : ℕ) (slot : Slot) → place < l.index
      → slice_get l.table.slots.items place ≡ Some slot → HasCome l.state.done slot.action;
}
