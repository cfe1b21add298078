use Rattle.std.proofs.Common.{◌<◌, ℕ}
use Rattle.venue_steps.specs.declared.actors.Actor.TheVariants as actor
use Rattle.day_weaving.specs.OrderPlaces.{AreNotedBy}
use Rattle.day_weaving.proofs.name_checks.are_all_noted.Given as goal

abbrev pub invariant-loop-firm : goal.invariant-loop-firm
invariant-loop-firm l =
    (firm : ℕ) → firm < l.firm → AreNotedBy l.day l.places (actor.Firm firm)
