use Rattle.std.proofs.Common.{◌≡◌, length}
use Rattle.session_worker.proofs.venue.vacant_rooms.Given as goal

abbrev pub invariant-loop-index : goal.invariant-loop-index
invariant-loop-index g l = length l.rooms.items ≡ l.index
