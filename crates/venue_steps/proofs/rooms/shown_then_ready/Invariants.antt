use Rattle.std.proofs.Common.{◌≡◌, map, take}
use Rattle.market_terms.specs.declared.duties.Duty.TheVariants as duty
use Rattle.venue_steps.proofs.rooms.shown_then_ready.Given as goal

abbrev pub invariant-loop-dealer : goal.invariant-loop-dealer
invariant-loop-dealer l =
    l.duties.items ≡ map (λ dealer. duty.Show dealer l.at l.ask l.moment) (take l.dealer-index l.named)
