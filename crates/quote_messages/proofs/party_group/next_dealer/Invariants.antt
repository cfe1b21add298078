use Rattle.std.proofs.Common.{◌≡◌}
use Rattle.quote_messages.specs.PartyGroup.{named_dealers, entries_of, AreWhole}
use Rattle.quote_messages.proofs.party_group.next_dealer.Given as goal

abbrev pub invariant-loop-tag : goal.invariant-loop-tag
invariant-loop-tag l =
    ((goal.iterator-loop-tag).can_next l.fields × (goal.iterator-loop-tag).is_finite l.fields)
    × ((named_dealers l.fields ≡ named_dealers l.initial.fields) × AreWhole (entries_of l.fields))
