use Rattle.step_replay.proofs.Common.{live_trail}
use Rattle.step_replay.proofs.DayLemmas.{days_stand}
use Rattle.step_replay.proofs.live.LiveVenue.into_world.Goals as goal

pub returns : goal.returns
returns c config steps at =
    days_stand config (live_trail config steps).facts c.args.self.replay.floor
    at.stands.replay_stands.floor_stands
