use Rattle.std.proofs.Common.{◌≡◌, [], map, take}
use Rattle.recorded_days.specs.Kinds.{is_expire, is_in}
use Rattle.recorded_days.specs.declared.actions.Sweep.{Sweep}
use Rattle.session_worker.specs.Shifts.{moments_of}
use Rattle.session_worker.proofs.actors.clock_actions.Given as goal

abbrev pub invariant-loop-sweep : goal.invariant-loop-sweep
invariant-loop-sweep g l = record {
  messages : moments_of is_in l.shift.actions.items ≡ [];
  sweeps : moments_of is_expire l.shift.actions.items
      ≡ map (λ (sweep : Sweep). sweep.moment) (take l.sweep-index l.sweeps);
}
