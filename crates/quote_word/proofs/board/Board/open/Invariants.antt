use Rattle.std.proofs.Common.{◌≡◌, ℕ, ◌+◌, ◌<◌, length, slice_index_or}
use Rattle.logbook.specs.Pages.{Named}
use Rattle.quote_word.specs.Rule.{word_of}
use Rattle.quote_word.proofs.board.Board.open.Given as goal

abbrev pub invariant-loop : goal.invariant-loop
invariant-loop l = record {
  book : l.pens.book ≡ l.seen.book;
  next : l.pens.next ≡ l.counter;
  left : l.pens.left + l.counter ≡ l.end;
  count : length l.words.items ≡ l.counter;
  each : (k : ℕ) (d : Named) → k < l.counter → slice_index_or l.words.items k d ≡ word_of l.seen.book k;
}
