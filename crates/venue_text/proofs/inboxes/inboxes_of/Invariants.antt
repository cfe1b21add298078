use Rattle.std.proofs.Common.{◌≡◌, map}
use Rattle.venue_text.specs.ArrivingDays.{inboxes_of}
use Rattle.venue_text.proofs.inboxes.inboxes_of.Given as goal

abbrev pub invariant-loop-firm : goal.invariant-loop-firm
invariant-loop-firm l = map (λ inbox. inbox.items) l.inboxes.items ≡ inboxes_of l.steps l.firm
