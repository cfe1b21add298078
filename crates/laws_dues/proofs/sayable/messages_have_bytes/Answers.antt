use Rattle.step_replay.specs.LiveDays.{live_steps}
use Rattle.laws_dues.proofs.SpelledSteps.{all_have_bytes, are_said, each_has_bytes, live_said}
use Rattle.laws_dues.proofs.sayable.messages_have_bytes.Goals as goal

pub returns-clause-lines : goal.returns-clause-lines
returns-clause-lines c config lines steps is =
    all_have_bytes steps (are_said config lines steps is)

pub returns-clause-live : goal.returns-clause-live
returns-clause-live c steps said =
    all_have_bytes (live_steps steps) (live_said steps (each_has_bytes steps said))
