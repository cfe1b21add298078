use Rattle.step_replay.proofs.LiveLemmas.{is_at_start}
use Rattle.step_replay.proofs.live.LiveVenue.open.Goals as goal

pub returns : goal.returns
returns c =
    is_at_start c.args.config.now _ c.in_ok-replay.ensures c.none-open_rooms.ensures
