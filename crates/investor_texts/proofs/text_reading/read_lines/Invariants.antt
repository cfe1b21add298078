use Rattle.std.proofs.Common.{◌≡◌}
use Rattle.investor_texts.specs.InvestorText.{nothing_read, with_lines}
use Rattle.investor_texts.proofs.text_reading.read_lines.Given as goal

abbrev pub invariant-loop-line : goal.invariant-loop-line
invariant-loop-line l = record {
  next : (goal.iterator-loop-line).can_next l.line-iterator;
  ends : (goal.iterator-loop-line).is_finite l.line-iterator;
  read : with_lines l.date l.firm nothing_read l.fn.lines
      ≡ with_lines l.date l.firm l.reading l.line-iterator;
}
