-- The steps so far are done.
use Rattle.step_replay.proofs.Common.{AreKnown, after_steps, ReplayStands, AuditTrail}
use Rattle.step_replay.proofs.Common.{Configuration}
use Rattle.step_replay.proofs.replay.Replay.run.Given as goal

abbrev pub invariant-loop-step : goal.invariant-loop-step
invariant-loop-step l = (config : Configuration) (trail : AuditTrail)
    → AreKnown l.fn.steps.items config → ReplayStands config trail l.fn.self
    → ReplayStands config (after_steps l.yielded config trail) l.self
