use Rattle.std.proofs.Common.{◌≤◌, ◌+◌, ◌*◌, length}
use Rattle.day_weaving.specs.OrderSearch.{Grows, Stands, steps_left}
use Rattle.day_weaving.proofs.weave_search.Search.bring.Given as goal

abbrev pub invariant-loop : goal.invariant-loop
invariant-loop l = record {
  stands : Stands l.day l.table l.self;
  grows : Grows l.fn.self.done l.self.done;
  less : steps_left l.self + l.counter ≤ 2 * length l.table.slots.items;
}
