use Rattle.step_replay.proofs.Common.{◌≡◌, ◌+◌, length, InvestorsOpen}
use Rattle.step_replay.proofs.opening.investors_at_start.Given as goal

abbrev pub invariant-loop-row : goal.invariant-loop-row
invariant-loop-row l = record {
  opened : InvestorsOpen l.config l.row-index l.places.items;
  firm : l.firm ≡ length l.config.dealers + l.row-index;
}
