use Rattle.std.proofs.Common.{◌<◌, ℕ}
use Rattle.day_weaving.specs.OrderPlaces.{AreTrue, Grow, IsNotedAt}
use Rattle.day_weaving.proofs.name_checks.note_site.Given as goal

abbrev pub invariant-loop-spot : goal.invariant-loop-spot
invariant-loop-spot l = record {
  sound : AreTrue l.day l.places;
  grow : Grow l.fn.places l.places;
  noted : (spot : ℕ) → spot < l.spot → IsNotedAt l.day l.places l.site spot;
}
