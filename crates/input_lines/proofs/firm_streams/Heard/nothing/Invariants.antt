use Rattle.std.proofs.Common.{◌≡◌, ◌≤◌, [], replicate}
use Rattle.input_lines.proofs.firm_streams.Heard.nothing.Given as goal

abbrev pub invariant-loop : goal.invariant-loop
invariant-loop l = record {
  numbers : l.numbers.items ≡ replicate l.counter 1;
  streams : l.streams.items ≡ replicate l.counter [];
  within : l.counter ≤ l.firms;
}
