use Rattle.step_replay.proofs.Common.{◌≡◌, ◌++◌, map, take}
use Rattle.step_replay.proofs.live.push_all.Given as goal

abbrev pub invariant-loop-message : goal.invariant-loop-message
invariant-loop-message l =
    l.told.items ≡ l.fn.told.items ++ map (λ message. (l.firm, message)) (take l.message-index l.messages)
