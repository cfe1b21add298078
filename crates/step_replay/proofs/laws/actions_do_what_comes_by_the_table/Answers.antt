use Rattle.step_replay.proofs.ComingLemmas.{duty_comes, sweep_comes}
use Rattle.step_replay.proofs.laws.actions_do_what_comes_by_the_table.Goals as goal

pub returns-clause-duties : goal.returns-clause-duties
returns-clause-duties c = duty_comes

pub returns-clause-sweeps : goal.returns-clause-sweeps
returns-clause-sweeps c = sweep_comes
