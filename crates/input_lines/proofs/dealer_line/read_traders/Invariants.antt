use Rattle.std.proofs.Common.{◌≡◌, ◌+◌, ◌≤◌, [], length}
use Rattle.input_lines.specs.Lines.{parts_of}
use Rattle.input_lines.specs.DueLines.{traders_with}
use Rattle.input_lines.proofs.dealer_line.read_traders.Given as goal

abbrev pub invariant-loop-name : goal.invariant-loop-name
invariant-loop-name l =
    (goal.iterator-loop-name).can_next l.name-iterator ×
    (goal.iterator-loop-name).is_finite l.name-iterator ×
    (traders_with [] (parts_of 32 l.text) ≡ traders_with l.traders l.name-iterator) ×
    (1 ≤ length l.traders + length l.name-iterator)
