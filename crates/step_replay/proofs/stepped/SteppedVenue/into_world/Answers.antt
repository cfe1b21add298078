use Rattle.step_replay.proofs.Common.{audit_trail}
use Rattle.step_replay.proofs.DayLemmas.{days_stand}
use Rattle.step_replay.proofs.stepped.SteppedVenue.into_world.Goals as goal

pub returns : goal.returns
returns c config steps at =
    days_stand config (audit_trail config steps).facts c.args.self.replay.floor
    at.stands.floor_stands
