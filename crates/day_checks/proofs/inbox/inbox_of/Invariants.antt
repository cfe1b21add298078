use Rattle.std.proofs.Common.{◌≡◌, length}
use Rattle.day_checks.specs.Inbox.{arrivals_behind, arrivals_of}
use Rattle.day_checks.proofs.InboxLemmas.{behind}
use Rattle.day_checks.proofs.inbox.inbox_of.Given as goal

abbrev pub invariant-loop-piece : goal.invariant-loop-piece
invariant-loop-piece l =
    arrivals_of l.pieces ≡ behind l.inbox.items (arrivals_behind l.stream l.rest)

abbrev pub decreases-loop-piece : goal.decreases-loop-piece
decreases-loop-piece l = length l.rest
