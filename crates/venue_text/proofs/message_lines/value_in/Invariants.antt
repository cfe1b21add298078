use Rattle.std.proofs.Common.{◌≡◌, map, drop}
use Rattle.fix_fields.specs.Frame.{value_of}
use Rattle.venue_text.proofs.message_lines.value_in.Given as goal

abbrev pub invariant-loop-field : goal.invariant-loop-field
invariant-loop-field l =
    value_of l.tag (map (λ field. (field.0, field.1.now)) (drop l.field-index l.fields))
    ≡ value_of l.tag (map (λ field. (field.0, field.1.now)) l.fields)
