use Rattle.std.proofs.Common.{◌≡◌, length}
use Rattle.std.specs.List.{filter_map}
use Rattle.day_checks.specs.RelayedQuotes.{offer_under}
use Rattle.day_checks.proofs.relayed_quotes.next_under.Given as goal

abbrev pub invariant-loop-arrival : goal.invariant-loop-arrival
invariant-loop-arrival l =
    filter_map (offer_under l.name) l.arrivals ≡ filter_map (offer_under l.name) l.rest

abbrev pub decreases-loop-arrival : goal.decreases-loop-arrival
decreases-loop-arrival l = length l.rest
