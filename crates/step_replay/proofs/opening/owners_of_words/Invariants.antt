-- The owners so far, and behind them those of the rows that are left, are those of all words.
use Rattle.step_replay.proofs.Common.{◌≡◌, ◌++◌, drop, owners_from}
use Rattle.step_replay.proofs.opening.owners_of_words.Given as goal

abbrev pub invariant-loop-row : goal.invariant-loop-row
invariant-loop-row l = record {
  items : l.owners.items ++ owners_from l.row-index (drop l.row-index l.config.dealers)
      ≡ owners_from 0 l.config.dealers;
  number : l.number ≡ l.row-index;
}
