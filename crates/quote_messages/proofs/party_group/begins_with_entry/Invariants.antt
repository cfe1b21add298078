use Rattle.std.proofs.Common.{◌≡◌}
use Rattle.quote_messages.specs.PartyGroup.{begins_with_entry}
use Rattle.quote_messages.specs.GroupReading.{run_of}
use Rattle.quote_messages.proofs.party_group.begins_with_entry.Given as goal

abbrev pub invariant-loop-tag : goal.invariant-loop-tag
invariant-loop-tag l = begins_with_entry (run_of l.tag-iterator) ≡ begins_with_entry (run_of l.fn.fields)
