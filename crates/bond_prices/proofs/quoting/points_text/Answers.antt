use Rattle.std.proofs.Common.{◌≤◌, length, arith, ap}
use Rattle.std.proofs.lemmas.Fmt.{length-decimal-le}
use Rattle.std.specs.Prelude.{decimal}
use Rattle.bond_prices.proofs.quoting.points_text.Goals as goal

pub push_str-requires : goal.push_str-requires
push_str-requires c =
    let points : length (decimal c.args.points) ≤ 3 = length-decimal-le 3 c.args.points (omega arith) (omega arith) (omega arith) in
    (omega arith, omega (arith, points, ap length c.format.ensures.text, ap length c.new-text.ensures))

pub returns-clause-value : goal.returns-clause-value
returns-clause-value c = rw (c.push_str.ensures.bytes, c.new-text.ensures, c.format.ensures.text)

pub returns-clause-short : goal.returns-clause-short
returns-clause-short c =
    let points : length (decimal c.args.points) ≤ 3 = length-decimal-le 3 c.args.points (omega arith) (omega arith) (omega arith) in
    omega (arith, points, ap length c.format.ensures.text, ap length c.new-text.ensures, c.push_str.ensures.len)
