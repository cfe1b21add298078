use Rattle.std.proofs.Common.{◌≡◌, length}
use Rattle.day_checks.specs.AnsweredResponses.{have_replies}
use Rattle.day_checks.proofs.answered_responses.have_replies.Given as goal

abbrev pub invariant-loop-output : goal.invariant-loop-output
invariant-loop-output l =
    have_replies l.fn.outputs l.fn.arrivals ≡ have_replies l.outputs l.arrivals

abbrev pub decreases-loop-output : goal.decreases-loop-output
decreases-loop-output l = length l.outputs
