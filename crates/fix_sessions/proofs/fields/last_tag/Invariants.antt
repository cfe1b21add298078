use Rattle.std.proofs.Common.{◌≡◌, length, None}
use Rattle.fix_sessions.specs.Fields.{fields_in}
use Rattle.fix_sessions.specs.Flaws.{last_of}
use Rattle.fix_sessions.proofs.fields.last_tag.Given as goal

abbrev pub invariant-loop-rest : goal.invariant-loop-rest
invariant-loop-rest l = last_of None (fields_in l.body) ≡ last_of l.last (fields_in l.rest)

abbrev pub decreases-loop-rest : goal.decreases-loop-rest
decreases-loop-rest l = length l.rest
