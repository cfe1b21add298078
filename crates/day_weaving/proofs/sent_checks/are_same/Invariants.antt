use Rattle.std.proofs.Common.{◌≡◌, length, take}
use Rattle.day_weaving.proofs.sent_checks.are_same.Given as goal

abbrev pub invariant-loop-index : goal.invariant-loop-index
invariant-loop-index l = record {
  long : length l.some ≡ length l.others;
  same : take l.index l.some ≡ take l.index l.others;
}
