use Rattle.quote_messages.specs.Slots.{AreFilledBefore}
use Rattle.quote_messages.proofs.slots.filled.Given as goal

abbrev pub invariant-loop-tag : goal.invariant-loop-tag
invariant-loop-tag l = AreFilledBefore l.slots l.tag-iterator l.fn.fields
