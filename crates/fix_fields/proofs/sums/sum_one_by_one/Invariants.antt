use Rattle.std.proofs.Common.{◌≡◌, ◌%◌, sum, take}
use Rattle.fix_fields.proofs.sums.sum_one_by_one.Given as goal

abbrev pub invariant-loop-byte : goal.invariant-loop-byte
invariant-loop-byte l = l.sum ≡ sum (take l.byte-index l.bytes) % 256
