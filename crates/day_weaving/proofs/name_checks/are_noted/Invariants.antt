use Rattle.std.proofs.Common.{◌≡◌, ◌<◌, ℕ, ◌+◌, is_some, true}
use Rattle.day_weaving.specs.OrderPlaces.{place_in}
use Rattle.day_weaving.proofs.name_checks.are_noted.Given as goal

abbrev pub invariant-loop-index : goal.invariant-loop-index
invariant-loop-index l =
    (n : ℕ) → n < l.index → is_some (place_in l.places (l.actor, n + 1)) ≡ true
