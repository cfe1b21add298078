use Rattle.std.proofs.Common.{◌≡◌, ◌+◌, ◌≤◌, length}
use Rattle.fix_fields.specs.Frame.{times_of}
use Rattle.quote_messages.specs.GroupReading.{run_of}
use Rattle.quote_messages.proofs.party_group.measured.Given as goal

abbrev pub invariant-loop-tag : goal.invariant-loop-tag
invariant-loop-tag l =
    (l.len + length (run_of l.tag-iterator) ≡ length (run_of l.fn.fields))
    × (l.entries + times_of 448 (run_of l.tag-iterator) ≡ times_of 448 (run_of l.fn.fields))
    × (l.len + length l.tag-iterator ≤ length l.fn.fields)
    × (l.entries ≤ l.len)
