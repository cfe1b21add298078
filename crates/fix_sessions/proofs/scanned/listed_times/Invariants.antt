use Rattle.std.proofs.Common.{◌≡◌, ◌≤◌, ◌+◌, map, drop}
use Rattle.fix_fields.specs.Frame.{times_of}
use Rattle.fix_sessions.proofs.scanned.listed_times.Given as goal

abbrev pub invariant-loop-field : goal.invariant-loop-field
invariant-loop-field l =
    (times_of l.tag (map (λ f. (f.0, f.1.now)) l.listed)
    ≡ l.count + times_of l.tag (map (λ f. (f.0, f.1.now)) (drop l.field-index l.listed)))
    × (l.count ≤ l.field-index)
