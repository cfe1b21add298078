use Rattle.std.proofs.Common.{◌≡◌}
use Rattle.fix_fields.specs.Frame.{value_of}
use Rattle.fix_fields.proofs.frames.Frame.get.Given as goal

abbrev pub invariant-loop-found : goal.invariant-loop-found
invariant-loop-found l =
    (goal.iterator-loop-found).can_next l.found-iterator ×
    (goal.iterator-loop-found).is_finite l.found-iterator ×
    (value_of l.tag l.found-iterator ≡ value_of l.tag l.self)
