use Rattle.std.proofs.Common.{◌<◌, ℕ}
use Rattle.day_weaving.specs.OrderPlaces.{AreNotedOf, AreTrue}
use Rattle.day_weaving.proofs.name_checks.places_of.Given as goal

abbrev pub invariant-loop-firm : goal.invariant-loop-firm
invariant-loop-firm l = record {
  sound : AreTrue l.day l.places;
  noted : (firm : ℕ) → firm < l.firm → AreNotedOf l.config l.day l.places firm;
}
