use Rattle.step_replay.proofs.Common.{◌∙◌, ap, Some, audit_trail, live_steps, live_trail}
use Rattle.step_replay.proofs.Common.{is_sent_its_view}
use Rattle.step_replay.proofs.StepEffects.{dealer_within}
use Rattle.step_replay.proofs.FirmSent.{own_part}
use Rattle.step_replay.proofs.DayLemmas.{sent_on_its_day}
use Rattle.step_replay.proofs.laws.dealers_are_given_their_view.Goals as goal

pub returns-clause-days : goal.returns-clause-days
returns-clause-days c config steps dealer row is =
    sent_on_its_day config (audit_trail config steps).facts dealer (dealer_within config dealer row is)
    ∙ ap Some (is_sent_its_view config steps dealer row is)

pub returns-clause-live : goal.returns-clause-live
returns-clause-live c config steps dealer row is =
    own_part config dealer (live_trail config steps).facts
    ∙ is_sent_its_view config (live_steps steps) dealer row is
