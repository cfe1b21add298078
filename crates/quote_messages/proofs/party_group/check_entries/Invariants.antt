use Rattle.std.proofs.Common.{◌≡◌, ℕ, List}
use Rattle.quote_messages.specs.PartyGroup.{entries_of, entries_fault}
use Rattle.quote_messages.proofs.party_group.check_entries.Given as goal

abbrev pub invariant-loop-tag : goal.invariant-loop-tag
invariant-loop-tag l =
    ((goal.iterator-loop-tag).can_next l.rest × (goal.iterator-loop-tag).is_finite l.rest)
    × ((date : List ℕ) → entries_fault date (entries_of l.rest) ≡ entries_fault date (entries_of l.fn.fields))
