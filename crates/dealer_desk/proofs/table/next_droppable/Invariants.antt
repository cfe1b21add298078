-- No quote before this one is droppable.
use Rattle.std.proofs.Common.{◌≡◌, ◌<◌, ℕ, Some, false, slice_get}
use Rattle.dealer_desk.specs.DealerFacts.{is_droppable}
use Rattle.dealer_desk.specs.declared.standing.StandingQuote.{StandingQuote}
use Rattle.dealer_desk.proofs.table.next_droppable.Given as goal

abbrev pub invariant-loop-i : goal.invariant-loop-i
invariant-loop-i l = (k : ℕ) (own : StandingQuote) → k < l.i → slice_get l.quotes k ≡ Some own → is_droppable own ≡ false
