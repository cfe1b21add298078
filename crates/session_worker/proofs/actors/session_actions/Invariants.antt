use Rattle.std.proofs.Common.{◌≡◌, [], map, take}
use Rattle.recorded_days.specs.Kinds.{is_expire, is_in}
use Rattle.recorded_days.specs.declared.actions.Inbound.{Inbound}
use Rattle.session_worker.specs.Shifts.{moments_of}
use Rattle.session_worker.proofs.actors.session_actions.Given as goal

abbrev pub invariant-loop-inbound : goal.invariant-loop-inbound
invariant-loop-inbound g l = record {
  messages : moments_of is_in l.shift.actions.items
      ≡ map (λ (inbound : Inbound). inbound.moment) (take l.inbound-index l.inbox);
  sweeps : moments_of is_expire l.shift.actions.items ≡ [];
}
