use Rattle.std.proofs.Common.{◌≡◌, ℕ, ◌+◌, arith, ap, length, sym, ◌∙◌}
use borrow.Author.Count.{below_more}
use Rattle.std.proofs.lemmas.List.{length_push}
use Rattle.day_weaving.specs.OrderCounts.{Counts, count_in, key_of}
use Rattle.day_weaving.specs.OrderLaws.{StandsIn}
use Rattle.recorded_days.specs.Records.{ActionRef}
use Rattle.day_weaving.proofs.TableLemmas.{actor_whole, in_table_more, one_more, stand_more}
use Rattle.day_weaving.proofs.weave_table.put_actor.Goals as goal

pub loop-index-preserved : goal.loop-index-preserved
loop-index-preserved c =
    let before = c.loop-index.table in
    let after = c.put_action.new.table in
    let index = c.loop-index.index in
    let first = length c.args.table.now.slots.items in
    let now : ActionRef = (c.args.actor, index + 1) in
    let puts = c.in_ok-put_action.ensures.puts in
    let stood = c.loop-index.invariant in
    let one : length after.slots.items ≡ length before.slots.items + 1 =
    ap length puts.slots_are ∙ length_push before.slots.items puts.slot in
    let was : length before.slots.items ≡ first + index = stood.long in
    record {
      built = c.in_ok-put_action.ensures.built;
      first = ap (λ (firsts : Counts). count_in firsts (key_of c.args.actor)) puts.firsts_are
          ∙ stood.first;
      long = omega (arith, one, was);
      has = below_more
          (λ (n : ℕ). StandsIn after.slots.items (c.args.actor, n + 1) (first + n)) index
          (λ n under. stand_more before after now (c.args.actor, n + 1) (first + n) puts
          (stood.has n under))
          (one_more before after now (first + index) puts was);
      others = λ other apart has number is. in_table_more before after now (other, number) puts
          (stood.others other apart has number is);
    }

pub returns-clause-has : goal.returns-clause-has
returns-clause-has c =
    actor_whole c.args.day.now c.loop-index.table c.args.actor c.in-Some.actions.now
    c.loop-index.index (length c.args.table.now.slots.items) (sym c.in-Some.ensures) (omega arith)
    c.loop-index.invariant.first c.loop-index.invariant.has
