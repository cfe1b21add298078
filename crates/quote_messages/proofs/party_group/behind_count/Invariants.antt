use Rattle.std.proofs.Common.{◌≡◌, ◌≤◌, length}
use Rattle.quote_messages.specs.PartyGroup.{group_of}
use Rattle.quote_messages.proofs.party_group.behind_count.Given as goal

abbrev pub invariant-loop-tag : goal.invariant-loop-tag
invariant-loop-tag l =
    ((goal.iterator-loop-tag).can_next l.rest × (goal.iterator-loop-tag).is_finite l.rest)
    × ((group_of l.rest ≡ group_of l.fn.fields) × (length l.rest ≤ length l.fn.fields))
