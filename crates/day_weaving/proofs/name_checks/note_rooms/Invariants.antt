use Rattle.std.proofs.Common.{◌<◌, ℕ, ◌+◌}
use Rattle.day_weaving.specs.OrderPlaces.{AreNoted, AreTrue, Grow}
use Rattle.day_weaving.specs.declared.sites.Site.TheVariants as site
use Rattle.day_weaving.proofs.name_checks.note_rooms.Given as goal

abbrev pub invariant-loop-index : goal.invariant-loop-index
invariant-loop-index l = record {
  sound : AreTrue l.day l.places;
  grow : Grow l.fn.places l.places;
  noted : (n : ℕ) → n < l.index
      → AreNoted l.day l.places (site.Room (record { investor = l.investor; n = n + 1 }));
}
