use Rattle.std.proofs.Common.{◌≡◌}
use Rattle.quote_messages.specs.SessionLines.{occurrence_of}
use Rattle.quote_messages.specs.PartyGroup.{before_entry}
use Rattle.quote_messages.proofs.party_group.next_before_entry.Given as goal

abbrev pub invariant-loop-tag : goal.invariant-loop-tag
invariant-loop-tag l =
    ((goal.iterator-loop-tag).can_next l.rest × (goal.iterator-loop-tag).is_finite l.rest)
    × (occurrence_of l.fn.wanted (before_entry l.rest) ≡ occurrence_of l.fn.wanted (before_entry l.fn.fields))
