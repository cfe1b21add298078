use Rattle.step_replay.proofs.Common.{List, ap, option_map, slice_get, ◌∙◌, FirmDay, live_trail}
use Rattle.step_replay.proofs.DayLemmas.{days_stand}
use Rattle.step_replay.proofs.live.LiveVenue.sent.Goals as goal

pub returns : goal.returns
returns c config steps at =
    c.sent_on.ensures
    ∙ ap (λ (days : List FirmDay). option_map (λ (day : FirmDay). day.sent)
    (slice_get days c.args.firm))
    (days_stand config (live_trail config steps).facts c.args.self.now.replay.floor
    at.stands.replay_stands.floor_stands)
