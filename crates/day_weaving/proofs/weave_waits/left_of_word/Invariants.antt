use Rattle.std.proofs.Common.{◌≤◌, ◌+◌, length}
use Rattle.day_weaving.proofs.WaitLemmas.{IsHead}
use Rattle.day_weaving.proofs.weave_waits.left_of_word.Given as goal

abbrev pub invariant-loop : goal.invariant-loop
invariant-loop l = record {
  head : IsHead l.day l.done l.table.slots.items l.word l.bound;
  less : l.bound + l.counter ≤ length l.table.slots.items;
}
