use Rattle.std.proofs.Common.{◌≡◌, map, drop}
use Rattle.fix_fields.specs.Frame.{value_of}
use Rattle.fix_sessions.proofs.scanned.listed_value.Given as goal

abbrev pub invariant-loop-field : goal.invariant-loop-field
invariant-loop-field l =
    value_of l.tag (map (λ f. (f.0, f.1.now)) (drop l.field-index l.listed))
    ≡ value_of l.tag (map (λ f. (f.0, f.1.now)) l.listed)
