use Rattle.step_replay.proofs.Common.{audit_trail}
use Rattle.step_replay.proofs.DayLemmas.{days_stand}
use Rattle.step_replay.proofs.world.run_once.Goals as goal

pub returns-clause-ok : goal.returns-clause-ok
returns-clause-ok c =
    days_stand c.args.config.now (audit_trail c.args.config.now c.args.steps.items).facts
    c.in_ok-floor.floor c.in_ok-floor.ensures
