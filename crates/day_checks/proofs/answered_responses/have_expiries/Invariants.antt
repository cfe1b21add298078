use Rattle.std.proofs.Common.{◌≡◌, length}
use Rattle.day_checks.specs.AnsweredResponses.{have_expiries}
use Rattle.day_checks.proofs.answered_responses.have_expiries.Given as goal

abbrev pub invariant-loop-output : goal.invariant-loop-output
invariant-loop-output l =
    have_expiries l.fn.outputs l.fn.arrivals ≡ have_expiries l.outputs l.arrivals

abbrev pub decreases-loop-output : goal.decreases-loop-output
decreases-loop-output l = length l.outputs
