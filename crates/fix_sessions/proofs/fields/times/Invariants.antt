use Rattle.std.proofs.Common.{◌≡◌, ◌≤◌, ◌+◌, length}
use Rattle.fix_fields.specs.Frame.{times_of}
use Rattle.fix_sessions.specs.Fields.{fields_in}
use Rattle.fix_sessions.proofs.fields.times.Given as goal

abbrev pub invariant-loop-rest : goal.invariant-loop-rest
invariant-loop-rest l =
    (times_of l.tag (fields_in l.fn.body) ≡ l.count + times_of l.tag (fields_in l.rest))
    × (l.count + length l.rest ≤ length l.fn.body)

abbrev pub decreases-loop-rest : goal.decreases-loop-rest
decreases-loop-rest l = length l.rest
