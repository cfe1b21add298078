use Rattle.step_replay.proofs.Common.{audit_trail, live_trail}
use Rattle.step_replay.proofs.FirmSent.{own_part}
use Rattle.step_replay.proofs.DayLemmas.{sent_on_its_day}
use Rattle.step_replay.proofs.laws.firms_are_sent_one_list.Goals as goal

pub returns-clause-days : goal.returns-clause-days
returns-clause-days c config steps firm known =
    sent_on_its_day config (audit_trail config steps).facts firm known

pub returns-clause-live : goal.returns-clause-live
returns-clause-live c config steps firm =
    own_part config firm (live_trail config steps).facts
