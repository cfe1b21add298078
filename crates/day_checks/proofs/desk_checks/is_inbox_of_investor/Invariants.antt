use Rattle.std.proofs.Common.{◌≡◌, ◌↔◌, length}
use Rattle.day_checks.specs.DayChecks.{came_from_investor}
use Rattle.day_checks.proofs.desk_checks.is_inbox_of_investor.Given as goal

abbrev pub invariant-loop-event : goal.invariant-loop-event
invariant-loop-event l =
    (came_from_investor l.fn.events ≡ l.fn.inbox) ↔ (came_from_investor l.events ≡ l.inbox)

abbrev pub decreases-loop-event : goal.decreases-loop-event
decreases-loop-event l = length l.events
