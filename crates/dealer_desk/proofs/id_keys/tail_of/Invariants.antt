use Rattle.std.proofs.Common.{◌≡◌, fold, take}
use Rattle.dealer_desk.specs.DealerTable.{tail_with}
use Rattle.dealer_desk.proofs.id_keys.tail_of.Given as goal

abbrev pub invariant-loop-c : goal.invariant-loop-c
invariant-loop-c l = l.tail ≡ fold tail_with 0 (take l.c-index l.text)
