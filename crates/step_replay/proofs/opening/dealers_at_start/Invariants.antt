use Rattle.step_replay.proofs.Common.{◌≡◌, take, quotes_of, DealersOpen}
use Rattle.step_replay.proofs.opening.dealers_at_start.Given as goal

abbrev pub invariant-loop-row : goal.invariant-loop-row
invariant-loop-row l = record {
  opened : DealersOpen l.config l.row-index l.places.items;
  first : l.first_word ≡ quotes_of (take l.row-index l.config.dealers);
}
