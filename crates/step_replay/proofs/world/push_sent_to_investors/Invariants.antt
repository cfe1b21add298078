use Rattle.step_replay.proofs.Common.{◌≡◌, ◌++◌, map, investor_day_at}
use Rattle.step_replay.proofs.world.push_sent_to_investors.Given as goal

abbrev pub invariant-loop-place : goal.invariant-loop-place
invariant-loop-place l = map (λ sent. sent.items) l.all.items
    ≡ map (λ sent. sent.items) l.fn.all.items ++ map (λ place. (investor_day_at place).sent) l.yielded
