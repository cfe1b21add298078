use Rattle.std.proofs.Common.{◌≡◌, ◌++◌, length}
use Rattle.venue_text.specs.ArrivingDays.{inbox_of}
use Rattle.venue_text.proofs.inboxes.inbox_of.Given as goal

abbrev pub invariant-loop-step : goal.invariant-loop-step
invariant-loop-step l = inbox_of l.fn.steps l.firm ≡ l.inbox.items ++ inbox_of l.rest l.firm

abbrev pub decreases-loop-step : goal.decreases-loop-step
decreases-loop-step l = length l.rest
