use Rattle.std.proofs.Common.{List, ◌++◌, take}
use Rattle.step_replay.specs.LiveStanding.{IsAt}
use Rattle.step_replay.specs.declared.steps.Step.{Step}
use Rattle.investor_texts.proofs.line_days.follow_all.Given as goal

abbrev pub invariant-loop-step : goal.invariant-loop-step
invariant-loop-step l = (steps : List Step) → IsAt l.config steps l.fn.venue
    → IsAt l.config (steps ++ take l.step-index l.more) l.venue
