use Rattle.step_replay.proofs.Common.{live_trail}
use Rattle.step_replay.proofs.OpenDeadlines.{earliest_is}
use Rattle.step_replay.proofs.live.LiveVenue.next_deadline.Goals as goal

pub returns : goal.returns
returns c config steps at =
    earliest_is config (live_trail config steps).facts c.args.self.now.open_rooms at.stands.rooms_stand
    c.earliest.result c.earliest.ensures
