use Rattle.day_weaving.proofs.WaitLemmas.{before_of_actor}
use Rattle.day_weaving.proofs.weave_waits.left_before.Goals as goal

pub returns-in-Some-clause-some : goal.returns-in-Some-clause-some
returns-in-Some-clause-some c =
    let told = c.in-Some.ensures.some in
    before_of_actor c.args.day.now c.args.done.now c.in-Some.one c.args.slot.now.action
    c.requires.slot.is_action told.0 told.1 told.2 told.3
