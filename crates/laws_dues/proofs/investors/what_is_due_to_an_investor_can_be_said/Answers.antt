use Rattle.venue_rows.specs.Rows.{values_of}
use Rattle.laws_dues.proofs.SpelledSteps.{are_said, each_has_bytes}
use Rattle.laws_dues.proofs.SayableDues.{investor_sayable}
use Rattle.laws_dues.proofs.investors.what_is_due_to_an_investor_can_be_said.Goals as goal

pub returns-clause-steps : goal.returns-clause-steps
returns-clause-steps c config steps investor limits said =
    investor_sayable config limits c.limits_are_kept.ensures.quotes
    c.desks_send_their_view.ensures.by_trail investor steps (each_has_bytes steps said)

pub returns-clause-lines : goal.returns-clause-lines
returns-clause-lines c config lines steps investor limits spelled =
    investor_sayable config limits c.limits_are_kept.ensures.quotes
    c.desks_send_their_view.ensures.by_trail investor steps
    (are_said (values_of config) lines steps spelled)
