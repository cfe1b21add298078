use Rattle.std.proofs.Common.{◌≡◌}
use Rattle.recorded_days.specs.Kinds.{is_expire, is_in}
use Rattle.session_worker.specs.Shifts.{moments_of}
use Rattle.session_worker.proofs.actors.Shift.turns.Given as goal

-- duties are no messages and no sweeps
abbrev pub invariant-loop : goal.invariant-loop
invariant-loop g l = record {
  messages : moments_of is_in l.self.actions.items ≡ moments_of is_in l.fn.self.actions.items;
  sweeps : moments_of is_expire l.self.actions.items
      ≡ moments_of is_expire l.fn.self.actions.items;
}
