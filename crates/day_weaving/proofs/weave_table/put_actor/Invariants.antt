use Rattle.std.proofs.Common.{◌≡◌, ◌<◌, ℕ, ◌+◌, length}
use Rattle.venue_steps.specs.declared.actors.Actor.{Actor}
use Rattle.day_weaving.specs.OrderCounts.{count_in, key_of}
use Rattle.day_weaving.specs.OrderLaws.{StandsIn}
use Rattle.day_weaving.specs.OrderSearch.{HasActor, IsBuilt}
use Rattle.day_weaving.proofs.weave_table.put_actor.Given as goal

abbrev pub invariant-loop-index : goal.invariant-loop-index
invariant-loop-index l = record {
  built : IsBuilt l.day l.table;
  first : count_in l.table.firsts (key_of l.actor) ≡ length l.fn.table.slots.items;
  long : length l.table.slots.items ≡ length l.fn.table.slots.items + l.index;
  has : (n : ℕ) → n < l.index
      → StandsIn l.table.slots.items (l.actor, n + 1) (length l.fn.table.slots.items + n);
  others : (other : Actor) → (other ≡ l.actor → ⊥) → HasActor l.day l.fn.table other
      → HasActor l.day l.table other;
}
