use Rattle.std.proofs.Common.{List, take}
use Rattle.step_replay.specs.LiveStanding.{IsAt}
use Rattle.step_replay.specs.declared.steps.Step.{Step}
use Rattle.venue_text.specs.LiveAnswers.{AreTold}
use Rattle.venue_text.proofs.live_lines.taken_all.Given as goal

abbrev pub invariant-loop-step : goal.invariant-loop-step
invariant-loop-step l = (taken : List Step) → IsAt l.config taken l.fn.venue
    → AreTold l.config taken (take l.step-index l.steps) l.venue l.told.items
