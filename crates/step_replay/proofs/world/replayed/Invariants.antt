use Rattle.step_replay.proofs.Common.{take, audit_trail, ReplayStands}
use Rattle.step_replay.proofs.world.replayed.Given as goal

abbrev pub invariant-loop-step : goal.invariant-loop-step
invariant-loop-step l =
    ReplayStands l.config (audit_trail l.config (take l.step-index l.steps)) l.replay
