use Rattle.std.proofs.Common.{◌≡◌, length}
use Rattle.day_checks.specs.RelayedQuotes.{first_unrelayed}
use Rattle.day_checks.proofs.relayed_quotes.relay_fault.Given as goal

abbrev pub invariant-loop-room : goal.invariant-loop-room
invariant-loop-room l =
    first_unrelayed l.config (length l.config.dealers) l.investors l.rooms
    ≡ first_unrelayed l.config (length l.config.dealers) l.investors l.rest

abbrev pub decreases-loop-room : goal.decreases-loop-room
decreases-loop-room l = length l.rest
