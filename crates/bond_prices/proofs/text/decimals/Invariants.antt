use Rattle.std.proofs.Common.{◌≡◌, ◌<◌, ◌≤◌, ◌++◌, ◌-◌, length}
use Rattle.bond_prices.specs.Price.{fraction_digits}
use Rattle.bond_prices.proofs.Fractions.{divided}
use Rattle.bond_prices.proofs.text.decimals.Given as goal

abbrev pub invariant-loop : goal.invariant-loop
invariant-loop l = record {
  printed : l.text.bytes ++ divided (8 - l.counter) l.rest ≡ fraction_digits l.fn.rest;
  rest_fits : l.rest < 256;
  text_fits : length l.text.bytes ≤ l.counter;
}
