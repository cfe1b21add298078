use Rattle.step_replay.proofs.Common.{sym, subst, ReplayStands}
use Rattle.step_replay.proofs.SteppedLemmas.{steps_begin}
use Rattle.step_replay.proofs.stepped.SteppedVenue.open.Goals as goal

pub returns : goal.returns
returns c = record {
  stands = subst (λ trail. ReplayStands c.args.config.now trail c.in_ok-replay.replay)
      (sym (steps_begin c.args.config.now)) c.in_ok-replay.ensures;
}
