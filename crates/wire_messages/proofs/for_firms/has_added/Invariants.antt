use Rattle.std.proofs.Common.{◌≡◌}
use Rattle.wire_messages.specs.ToFirm.{has_added}
use Rattle.wire_messages.proofs.for_firms.has_added.Given as goal

abbrev pub invariant-loop-tag : goal.invariant-loop-tag
invariant-loop-tag l = has_added l.told l.tag-iterator ≡ has_added l.told l.message.behind
