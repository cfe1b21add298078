use Rattle.std.proofs.Common.{◌≡◌, length}
use Rattle.day_checks.specs.DayActions.{are_left}
use Rattle.day_checks.proofs.day_actions.are_left.Given as goal

abbrev pub invariant-loop-one : goal.invariant-loop-one
invariant-loop-one g l =
    are_left g.E.PlaceEvent.left l.day l.fn.order l.fn.events
    ≡ are_left g.E.PlaceEvent.left l.day l.order l.events

abbrev pub decreases-loop-one : goal.decreases-loop-one
decreases-loop-one g l = length l.order
