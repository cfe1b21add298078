use Rattle.std.proofs.Common.{◌≡◌, ◌≤◌, ◌+◌, length}
use Rattle.fix_sessions.specs.Flaws.{added_within}
use Rattle.fix_sessions.proofs.flaws.added_len.Given as goal

abbrev pub invariant-loop-rest : goal.invariant-loop-rest
invariant-loop-rest l =
    (added_within (length l.body) l.body ≡ l.len + added_within (length l.rest) l.rest)
    × (l.len + length l.rest ≤ length l.body)

abbrev pub decreases-loop-rest : goal.decreases-loop-rest
decreases-loop-rest l = length l.rest
