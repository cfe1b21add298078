use Rattle.std.proofs.Common.{◌==◌, ℕ, ◌≡◌, ◌-◌, ◌<◌, ◌≤◌, false, get_or, length}
use Rattle.fix_fields.proofs.scan.short_value_len.Given as goal

abbrev pub invariant-loop-len : goal.invariant-loop-len
invariant-loop-len l = (l.len ≤ length l.text) × ((k : ℕ) → k < l.len → (get_or l.text k 0 == 1) ≡ false)

abbrev pub decreases-loop-len : goal.decreases-loop-len
decreases-loop-len l = length l.text - l.len
