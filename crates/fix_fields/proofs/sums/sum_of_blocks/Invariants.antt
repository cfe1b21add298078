use Rattle.std.proofs.Common.{◌≡◌, ◌≤◌, ◌-◌, ◌%◌, length, sum, take}
use Rattle.fix_fields.proofs.sums.sum_of_blocks.Given as goal

abbrev pub decreases-loop-done : goal.decreases-loop-done
decreases-loop-done l = length l.bytes - l.done

abbrev pub invariant-loop-done : goal.invariant-loop-done
invariant-loop-done l = (l.done ≤ length l.bytes) × (length l.lanes ≡ 16) × (sum l.lanes % 256 ≡ sum (take l.done l.bytes) % 256)
