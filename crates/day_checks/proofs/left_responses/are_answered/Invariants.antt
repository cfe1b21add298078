use Rattle.std.proofs.Common.{◌≡◌, ◌↔◌, length}
use Rattle.day_checks.specs.LeftResponses.{responses_answered}
use Rattle.day_checks.proofs.left_responses.are_answered.Given as goal

abbrev pub invariant-loop-event : goal.invariant-loop-event
invariant-loop-event l =
    (responses_answered l.fn.events ≡ l.fn.left) ↔ (responses_answered l.events ≡ l.left)

abbrev pub decreases-loop-event : goal.decreases-loop-event
decreases-loop-event l = length l.events
