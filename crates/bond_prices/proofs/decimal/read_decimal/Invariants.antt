use Rattle.std.proofs.Common.{◌≡◌, ◌<◌, ◌≤◌, ◌^◌, drop}
use Rattle.bond_prices.specs.Decimal.{decimal_of}
use Rattle.bond_prices.proofs.Spelled.{spelled_after}
use Rattle.bond_prices.proofs.decimal.read_decimal.Given as goal

abbrev pub invariant-loop-byte : goal.invariant-loop-byte
invariant-loop-byte l = record {
  spelled : spelled_after l.number l.digits l.scale l.is_behind_point (drop l.byte-index l.text) ≡ decimal_of l.text;
  digits_fit : l.digits ≤ 15;
  number_fits : l.number < 10 ^ l.digits;
  scale_fits : l.scale ≤ 10 ^ l.digits;
  scale_is_positive : 1 ≤ l.scale;
}
