use Rattle.step_replay.proofs.Common.{audit_trail}
use Rattle.step_replay.proofs.stepped.SteppedVenue.investor_events.Goals as goal

pub returns : goal.returns
returns c config steps at =
    c.events_on.ensures config (audit_trail config steps).facts at.stands.floor_stands
