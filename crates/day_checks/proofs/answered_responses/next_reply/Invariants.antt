use Rattle.std.proofs.Common.{◌≡◌, length}
use Rattle.std.specs.List.{filter_map}
use Rattle.day_checks.specs.AnsweredResponses.{reply_arrived}
use Rattle.day_checks.proofs.answered_responses.next_reply.Given as goal

abbrev pub invariant-loop-arrival : goal.invariant-loop-arrival
invariant-loop-arrival l = filter_map reply_arrived l.arrivals ≡ filter_map reply_arrived l.rest

abbrev pub decreases-loop-arrival : goal.decreases-loop-arrival
decreases-loop-arrival l = length l.rest
