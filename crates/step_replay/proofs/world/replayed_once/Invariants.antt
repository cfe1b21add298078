-- Some of the day is done, and the rest is left.
use Rattle.step_replay.proofs.Common.{length, IsLeft}
use Rattle.step_replay.proofs.world.replayed_once.Given as goal

abbrev pub invariant-loop-left : goal.invariant-loop-left
invariant-loop-left l = IsLeft l.config l.fn.day.items l.left.items l.replay

abbrev pub decreases-loop-left : goal.decreases-loop-left
decreases-loop-left l = length l.left.items
