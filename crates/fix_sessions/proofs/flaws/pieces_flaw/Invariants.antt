use Rattle.std.proofs.Common.{◌≡◌, ◌≤◌, ◌+◌, ◌-◌, length}
use Rattle.fix_sessions.specs.Flaws.{flaw_from}
use Rattle.fix_sessions.proofs.flaws.pieces_flaw.Given as goal

abbrev pub invariant-loop-at : goal.invariant-loop-at
invariant-loop-at l =
    (flaw_from (length l.body) l.body l.start ≡ flaw_from (length l.body) l.body l.at) × (l.at ≤ length l.body + 1)

abbrev pub decreases-loop-at : goal.decreases-loop-at
decreases-loop-at l = length l.body - l.at
