use Rattle.std.proofs.Common.{◌<◌, ℕ}
use Rattle.venue_steps.specs.declared.actors.Actor.TheVariants as actor
use Rattle.day_weaving.specs.OrderSearch.{HasActor, IsBuilt}
use Rattle.day_weaving.proofs.weave_table.table_of.Given as goal

abbrev pub invariant-loop-firm : goal.invariant-loop-firm
invariant-loop-firm l = record {
  built : IsBuilt l.day l.table;
  has : (firm : ℕ) → firm < l.firm → HasActor l.day l.table (actor.Firm firm);
}
