use Rattle.std.proofs.Common.{take}
use Rattle.std.specs.List.{AllZip}
use Rattle.day_weaving.specs.OrderCounts.{AreOfInboxes}
use Rattle.day_weaving.specs.Weaving.{IsStepOf}
use Rattle.day_weaving.proofs.woven_steps.steps_of.Given as goal

abbrev pub invariant-loop-index : goal.invariant-loop-index
invariant-loop-index l = record {
  are : AllZip (IsStepOf l.day) (take l.index l.slots) l.steps.items;
  came : AreOfInboxes l.day l.came (take l.index l.slots);
}
