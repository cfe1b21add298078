use Rattle.std.proofs.Common.{◌≡◌, drop}
use Rattle.market_terms.specs.Dealers.{are_distinct}
use Rattle.market_terms.proofs.rooms.are_distinct.Given as goal

abbrev pub invariant-loop-i : goal.invariant-loop-i
invariant-loop-i l = are_distinct l.dealers ≡ are_distinct (drop l.i l.dealers)
