use Rattle.step_replay.proofs.Common.{◌++◌, arith, sym, after_turns}
use Rattle.step_replay.proofs.LiveLemmas.{tells_all, turn_known}
use Rattle.step_replay.proofs.StartLemmas.{no_turn, turns_more}
use Rattle.step_replay.proofs.live.send_duties.Goals as goal

pub loop-init : goal.loop-init
loop-init c = record {
  within = omega arith;
  tells = λ config trail start known stood told.
      rw (no_turn config c.args.by trail) (record { stands = stood; told_is = told });
}

pub returns-in_default : goal.returns-in_default
returns-in_default c config trail start known stood told =
    tells_all config c.args.by trail c.loop.counter c.loop.venue (start ++ c.loop.told.items)
    c.loop.invariant.within known (c.loop.invariant.tells config trail start known stood told)
    (sym c.in_default.ensures)

pub loop-preserved : goal.loop-preserved
loop-preserved c = record {
  within = omega (arith, c.loop-test.true);
  tells = λ config trail start known stood told.
      let had = c.loop.invariant.tells config trail start known stood told in
      rw (turns_more config c.args.by c.loop.counter trail)
      (c.in_ok-do_step.ensures config (after_turns config c.args.by c.loop.counter trail) start
      (turn_known config c.args.by known) had.stands had.told_is);
}
