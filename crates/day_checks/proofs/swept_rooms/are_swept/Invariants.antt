use Rattle.std.proofs.Common.{◌≡◌, length}
use Rattle.std.specs.Str.{bytes_eq}
use Rattle.day_checks.specs.DayChecks.{times_swept}
use Rattle.day_checks.proofs.swept_rooms.are_swept.Given as goal

abbrev pub invariant-loop-event : goal.invariant-loop-event
invariant-loop-event l =
    bytes_eq (times_swept l.fn.events) l.fn.times ≡ bytes_eq (times_swept l.events) l.times

abbrev pub decreases-loop-event : goal.decreases-loop-event
decreases-loop-event l = length l.events
