use Rattle.step_replay.proofs.Common.{◌+◌, List, [], replicate, ap, ◌∙◌, length, Duty}
use Rattle.step_replay.proofs.StartLemmas.{replay_begins}
use Rattle.step_replay.proofs.replay.Replay.new.Goals as goal

pub returns : goal.returns
returns c =
    replay_begins c.args.config.now _ c.in_ok-floor.ensures
    (c.in_ok-queues.ensures
    ∙ ap (λ l. replicate {A = List Duty} (length l + length c.investors.result.now + 1) [])
    c.dealers.ensures.value
    ∙ ap (λ l. replicate {A = List Duty} (length c.args.config.now.dealers + length l + 1) [])
    c.investors.ensures.value)
