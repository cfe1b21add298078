use Rattle.std.proofs.Common.{◌≡◌, ◌≤◌, take}
use Rattle.venue_steps.specs.Dealers.{quotes_of}
use Rattle.venue_steps.proofs.quote_words.first_word.Given as goal

abbrev pub invariant-loop-row : goal.invariant-loop-row
invariant-loop-row l = record {
  number : l.number ≡ l.row-index;
  below : l.row-index ≤ l.dealer;
  first : l.first ≡ quotes_of (take l.row-index l.config.dealers);
}
