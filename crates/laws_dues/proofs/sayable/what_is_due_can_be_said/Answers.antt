use Rattle.venue_rows.specs.Rows.{values_of}
use Rattle.laws_dues.proofs.SayableDays.{day_is_sayable}
use Rattle.laws_dues.proofs.SpelledSteps.{are_said, each_has_bytes}
use Rattle.laws_dues.proofs.sayable.what_is_due_can_be_said.Goals as goal

pub returns-clause-steps : goal.returns-clause-steps
returns-clause-steps c config steps dealer limits said =
    day_is_sayable config limits c.limits_are_kept.ensures.quotes steps (each_has_bytes steps said)
    dealer

pub returns-clause-lines : goal.returns-clause-lines
returns-clause-lines c config lines steps dealer limits spelled =
    day_is_sayable config limits c.limits_are_kept.ensures.quotes steps
    (are_said (values_of config) lines steps spelled) dealer
