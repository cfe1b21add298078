use Rattle.std.proofs.Common.{◌<◌, ◌≤◌, arith}
use Rattle.step_replay.specs.StepFaults.{firms_of}
use Rattle.venue_steps.specs.declared.actors.Actor.TheVariants as actor
use Rattle.day_weaving.proofs.TableLemmas.{firms_more, table_whole}
use Rattle.day_weaving.proofs.weave_table.table_of.Goals as goal

pub put_actor-requires-clause-noted : goal.put_actor-requires-clause-noted
put_actor-requires-clause-noted c = c.requires.noted (actor.Firm c.loop-firm.firm)

pub loop-firm-preserved : goal.loop-firm-preserved
loop-firm-preserved c = record {
  built = c.in_ok-put_actor.ensures.built;
  has = firms_more c.args.day.now c.loop-firm.table c.put_actor.new.table c.loop-firm.firm
      c.in_ok-put_actor.ensures.others c.in_ok-put_actor.ensures.has c.loop-firm.invariant.has;
}

pub put_actor-requires-2-clause-noted : goal.put_actor-requires-2-clause-noted
put_actor-requires-2-clause-noted c = c.requires.noted actor.Clock

pub returns : goal.returns
returns c =
    let ended : firms_of c.args.config.now ≤ c.loop-firm.firm = omega arith in
    table_whole c.args.config.now c.args.day.now c.loop-firm.table c.put_actor-2.new.table
    c.requires.firms c.requires.once c.in_ok-put_actor-2.ensures.built
    c.in_ok-put_actor-2.ensures.others c.in_ok-put_actor-2.ensures.has
    (λ firm within. let below : firm < c.loop-firm.firm = omega arith in
    c.loop-firm.invariant.has firm below)
