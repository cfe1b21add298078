use Rattle.step_replay.proofs.Common.{◌≡◌, ◌+◌, drop, first_fault, first_fault_from}
use Rattle.step_replay.proofs.faults.first_fault.Given as goal

abbrev pub invariant-loop-index : goal.invariant-loop-index
invariant-loop-index l = first_fault l.config l.steps
    ≡ first_fault_from l.config (l.index + 1) (drop l.index l.steps)
