use Rattle.quote_messages.proofs.SlotLemmas.{filled-step, filled-none}
use Rattle.quote_messages.proofs.slots.filled.Goals as goal

pub loop-tag-init : goal.loop-tag-init
loop-tag-init c = rw c.into_iter-tag-iterator.ensures.into_iter_gives (filled-none c.empty-slots.result _ c.empty-slots.ensures)

pub loop-tag-preserved : goal.loop-tag-preserved
loop-tag-preserved c = filled-step c.loop-tag.slots c.place_of-place.result c.note.new.self (c.in-Some.tag, c.in-Some.value.now) c.next.new.self c.args.fields c.place_of-place.ensures.place c.place_of-place.ensures.within c.note.ensures (rw (← c.in-Some.ensures.steps) c.loop-tag.invariant)
