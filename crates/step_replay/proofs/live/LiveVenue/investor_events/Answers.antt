use Rattle.step_replay.proofs.Common.{live_trail}
use Rattle.step_replay.proofs.live.LiveVenue.investor_events.Goals as goal

pub returns : goal.returns
returns c config steps at =
    c.events_on.ensures config (live_trail config steps).facts
    at.stands.replay_stands.floor_stands
