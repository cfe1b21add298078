use Rattle.std.proofs.Common.{◌≡◌, All}
use Rattle.quote_word.specs.Board.{Answered}
use Rattle.day_tests.proofs.boards.settles_all.Given as goal

abbrev pub invariant-loop-w : goal.invariant-loop-w
invariant-loop-w l = All (λ (r : Answered). r.seen.board ≡ l.board) l.receipts.items
