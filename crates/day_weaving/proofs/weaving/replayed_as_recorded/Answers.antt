use Rattle.std.proofs.Common.{ap, ◌∙◌}
use Rattle.step_replay.specs.StepFaults.{first_fault}
use Rattle.day_weaving.proofs.StepLemmas.{steps_known}
use Rattle.day_weaving.proofs.weaving.replayed_as_recorded.Goals as goal

pub replayed-requires : goal.replayed-requires
replayed-requires c =
    ap (first_fault c.args.config.now) c.as_slice.ensures.value
    ∙ steps_known c.args.config.now c.args.day.now c.args.slots.now c.in_ok-steps.steps.items
    c.requires.well_formed c.requires.keeps c.in_ok-steps.ensures
