use Rattle.step_replay.proofs.Common.{sym, audit_trail}
use Rattle.step_replay.proofs.StartLemmas.{any_place}
use Rattle.step_replay.proofs.SteppedLemmas.{one_step_more}
use Rattle.step_replay.proofs.stepped.SteppedVenue.step.Goals as goal

pub returns-clause-named : goal.returns-clause-named
returns-clause-named c =
    any_place c.args.config.now 1 c.args.step.now (sym c.in_default.ensures)

pub returns-clause-ok : goal.returns-clause-ok
returns-clause-ok c steps at =
    let config = c.args.config.now in
    let none = any_place config 1 c.args.step.now (sym c.in_default.ensures) in
    record {
      stands = rw (one_step_more config steps c.args.step.now)
          (c.in_ok-follow.ensures config (audit_trail config steps) none at.stands);
    }
