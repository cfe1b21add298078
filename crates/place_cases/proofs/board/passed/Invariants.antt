use Rattle.std.specs.Prelude.{◌≡◌}
use Rattle.place_cases.proofs.board.passed.Given as goal

-- the pass stays one of the board
abbrev pub invariant-loop : goal.invariant-loop
invariant-loop l = l.pass.board ≡ l.board
