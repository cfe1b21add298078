use Rattle.std.proofs.Common.{◌≡◌, ◌+◌, ◌≤◌, length}
use Rattle.input_lines.specs.Lines.{spoken_from, parts_of}
use Rattle.input_lines.proofs.lines.NumberedLinesIterator.next.Given as goal

abbrev pub invariant-loop-self : goal.invariant-loop-self
invariant-loop-self l = record {
  same : l.fn.self ≡ spoken_from l.self-inside.number (parts_of 10 l.self-inside.rest.now);
  within : l.self-inside.number + length l.self-inside.rest.now ≤ 16777217;
}

abbrev pub decreases-loop-self : goal.decreases-loop-self
decreases-loop-self l = length l.self-inside.rest.now
