use Rattle.std.proofs.Common.{◌≡◌, ◌-◌, ◌≤◌, length, take}
use Rattle.std.specs.Str.Parse.{digits_value}
use Rattle.fix_fields.proofs.FieldLemmas.{tag_len}
use Rattle.fix_fields.proofs.scan.lawful_tag.Given as goal

abbrev pub invariant-loop-count : goal.invariant-loop-count
invariant-loop-count l = (l.count ≤ tag_len l.text) × (l.value ≡ digits_value 10 (take l.count l.text))

abbrev pub decreases-loop-count : goal.decreases-loop-count
decreases-loop-count l = length l.text - l.count
