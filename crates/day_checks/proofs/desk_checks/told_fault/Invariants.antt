use Rattle.std.proofs.Common.{◌≡◌, ◌+◌, length}
use Rattle.day_checks.specs.DayChecks.{first_untold, untold_from}
use Rattle.day_checks.proofs.desk_checks.told_fault.Given as goal

abbrev pub invariant-loop-dealer : goal.invariant-loop-dealer
invariant-loop-dealer l = record {
  same : first_untold l.rooms l.dealers ≡ untold_from l.rooms l.number l.rest;
  counted : l.number + length l.rest ≡ length l.dealers;
}

abbrev pub decreases-loop-dealer : goal.decreases-loop-dealer
decreases-loop-dealer l = length l.rest
