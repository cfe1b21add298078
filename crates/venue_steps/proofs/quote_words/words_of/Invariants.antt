use Rattle.std.proofs.Common.{◌≡◌, take}
use Rattle.venue_steps.specs.Dealers.{quotes_of}
use Rattle.venue_steps.proofs.quote_words.words_of.Given as goal

abbrev pub invariant-loop-row : goal.invariant-loop-row
invariant-loop-row l = l.words ≡ quotes_of (take l.row-index l.config.dealers)
