use Rattle.std.proofs.Common.{◌≡◌, length}
use Rattle.fix_fields.specs.Frame.{value_of}
use Rattle.fix_sessions.specs.Fields.{fields_in}
use Rattle.fix_sessions.proofs.fields.value.Given as goal

abbrev pub invariant-loop-rest : goal.invariant-loop-rest
invariant-loop-rest l = value_of l.tag (fields_in l.fn.body) ≡ value_of l.tag (fields_in l.rest)

abbrev pub decreases-loop-rest : goal.decreases-loop-rest
decreases-loop-rest l = length l.rest
