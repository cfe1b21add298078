use Rattle.step_replay.proofs.Common.{map, ap, ◌∙◌, FirmDay}
use Rattle.step_replay.proofs.DayLemmas.{all_sent}
use Rattle.step_replay.proofs.world.World.into_sent.Goals as goal

pub returns : goal.returns
returns c =
    all_sent (λ sent. sent.items) c.self.inside.floor.dealers.items
    c.self.inside.floor.investors.items c.new-all.result.items _ _ c.new-all.ensures.items
    c.in_ok-push_sent_to_dealers.ensures c.in_ok-push_sent_to_investors.ensures
    ∙ ap (map (λ (day : FirmDay). day.sent)) c.self.view_is
