use Rattle.std.proofs.Common.{take}
use Rattle.step_replay.specs.SteppedStanding.{IsAfter}
use Rattle.investor_dues.proofs.days.after.Given as goal

abbrev pub invariant-loop-step : goal.invariant-loop-step
invariant-loop-step l = IsAfter l.config (take l.step-index l.steps) l.venue
