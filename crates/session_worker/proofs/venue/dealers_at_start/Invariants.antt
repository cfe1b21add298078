use Rattle.std.proofs.Common.{◌≡◌, take, length}
use Rattle.step_replay.specs.Actions.{quotes_of}
use Rattle.session_worker.proofs.venue.dealers_at_start.Given as goal

abbrev pub invariant-loop-row : goal.invariant-loop-row
invariant-loop-row g l = record {
  count : length l.places.items ≡ l.row-index;
  firm : l.firm ≡ l.row-index;
  first : l.first_word ≡ quotes_of (take l.row-index l.config.dealers);
}
