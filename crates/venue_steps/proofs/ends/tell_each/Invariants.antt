use Rattle.std.proofs.Common.{◌≡◌, ◌++◌, ◌+◌, length, map, take}
use Rattle.std.specs.Prelude.{vec_capacity}
use Rattle.market_terms.specs.declared.duties.Duty.TheVariants as duty
use Rattle.venue_steps.specs.RoomSteps.{close_for}
use Rattle.venue_steps.proofs.ends.tell_each.Given as goal

abbrev pub invariant-loop-dealer : goal.invariant-loop-dealer
invariant-loop-dealer l =
    (l.duties.items ≡ l.fn.duties.items
    ++ map (λ dealer. duty.Tell dealer l.at (close_for l.end dealer) l.moment)
    (take l.dealer-index l.dealers))
    × (length l.duties.items ≡ length l.fn.duties.items + l.dealer-index)
    × (vec_capacity l.duties ≡ vec_capacity l.fn.duties)
