use Rattle.std.proofs.Common.{◌≡◌, ◌+◌, length}
use Rattle.day_checks.specs.ShownRequests.{first_unshown, unshown_from}
use Rattle.day_checks.proofs.shown_checks.shown_fault.Given as goal

abbrev pub invariant-loop-dealer : goal.invariant-loop-dealer
invariant-loop-dealer l = record {
  same : first_unshown l.rooms l.dealers ≡ unshown_from l.rooms l.number l.rest;
  counted : l.number + length l.rest ≡ length l.dealers;
}

abbrev pub decreases-loop-dealer : goal.decreases-loop-dealer
decreases-loop-dealer l = length l.rest
