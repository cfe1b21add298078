use Rattle.step_replay.proofs.SweepLemmas.{sweep_not_due}
use Rattle.step_replay.proofs.SweptLemmas.{live_not_due}
use Rattle.step_replay.proofs.sweep_laws.sweeps_of_rooms_that_are_not_due_do_nothing.Goals as goal

pub returns-clause-one : goal.returns-clause-one
returns-clause-one c config trail room moment none = sweep_not_due config trail room moment none

pub returns-clause-live : goal.returns-clause-live
returns-clause-live c config steps venue room moment at none =
    live_not_due config steps venue room moment at none
