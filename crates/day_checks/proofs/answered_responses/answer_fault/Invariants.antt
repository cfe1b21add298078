use Rattle.std.proofs.Common.{◌≡◌, length}
use Rattle.day_checks.specs.AnsweredResponses.{first_unanswered}
use Rattle.day_checks.proofs.answered_responses.answer_fault.Given as goal

abbrev pub invariant-loop-room : goal.invariant-loop-room
invariant-loop-room l =
    first_unanswered (length l.config.dealers) l.investors l.rooms
    ≡ first_unanswered (length l.config.dealers) l.investors l.rest

abbrev pub decreases-loop-room : goal.decreases-loop-room
decreases-loop-room l = length l.rest
