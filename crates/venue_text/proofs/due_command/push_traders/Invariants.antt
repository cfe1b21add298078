use Rattle.std.proofs.Common.{◌≡◌, ◌++◌, take}
use Rattle.venue_text.specs.DueCuts.{parts_behind}
use Rattle.venue_text.proofs.due_command.push_traders.Given as goal

abbrev pub invariant-loop-place : goal.invariant-loop-place
invariant-loop-place l =
    l.text.items ≡ l.fn.text.items ++ parts_behind (take l.place l.traders)
