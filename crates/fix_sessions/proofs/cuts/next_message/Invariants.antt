use Rattle.std.proofs.Common.{◌≡◌, ◌≤◌, ◌-◌, length, drop}
use Rattle.fix_sessions.specs.Cuts.{next_message, behind}
use Rattle.fix_sessions.proofs.cuts.next_message.Given as goal

abbrev pub invariant-loop-skip : goal.invariant-loop-skip
invariant-loop-skip l =
    (l.skip ≤ length l.bytes) × (next_message l.bytes ≡ behind l.skip (next_message (drop l.skip l.bytes)))

abbrev pub decreases-loop-skip : goal.decreases-loop-skip
decreases-loop-skip l = length l.bytes - l.skip
