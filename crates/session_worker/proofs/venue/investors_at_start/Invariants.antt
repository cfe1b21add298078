use Rattle.std.proofs.Common.{◌≡◌, ◌+◌, length, map, take}
use Rattle.day_checks.specs.KeptDays.{requests_of}
use Rattle.session_worker.proofs.venue.investors_at_start.Given as goal

abbrev pub invariant-loop-row : goal.invariant-loop-row
invariant-loop-row g l = record {
  rooms : map (λ place. length place.rooms.items) l.places.items
      ≡ requests_of (take l.row-index l.config.investors);
  firm : l.firm ≡ length l.config.dealers + l.row-index;
}
