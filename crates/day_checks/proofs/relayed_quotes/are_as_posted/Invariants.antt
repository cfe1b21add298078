use Rattle.std.proofs.Common.{◌≡◌, length}
use Rattle.std.specs.List.{filter_map}
use Rattle.day_checks.specs.RelayedQuotes.{are_as_posted, offer_under, quote_by}
use Rattle.day_checks.proofs.relayed_quotes.are_as_posted.Given as goal

abbrev pub invariant-loop-output : goal.invariant-loop-output
invariant-loop-output l =
    are_as_posted (filter_map (quote_by l.dealer) l.fn.outputs)
    (filter_map (offer_under l.name) l.fn.arrivals)
    ≡ are_as_posted (filter_map (quote_by l.dealer) l.outputs)
    (filter_map (offer_under l.name) l.arrivals)

abbrev pub decreases-loop-output : goal.decreases-loop-output
decreases-loop-output l = length l.outputs
