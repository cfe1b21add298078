use Rattle.std.proofs.Common.{◌≡◌}
use Rattle.input_lines.specs.SayLine.{fields_in, said_fields}
use Rattle.input_lines.proofs.SpellLemmas.{behind_fields}
use Rattle.input_lines.proofs.fields.read_fields.Given as goal

abbrev pub invariant-loop-text : goal.invariant-loop-text
invariant-loop-text l =
    (goal.iterator-loop-text).can_next l.text-iterator ×
    (goal.iterator-loop-text).is_finite l.text-iterator ×
    (said_fields l.body ≡ behind_fields l.fields.items (fields_in l.text-iterator))
