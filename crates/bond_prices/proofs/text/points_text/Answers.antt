use Rattle.std.proofs.Common.{ℕ, ◌≤◌, ◌/◌, length, arith, ap, ◌∙◌, length-append}
use Rattle.std.proofs.lemmas.Fmt.{length-decimal-le}
use Rattle.std.specs.Prelude.{decimal}
use Rattle.bond_prices.proofs.Printed.{written-whole, written-fraction}
use Rattle.bond_prices.proofs.text.points_text.Goals as goal

pub returns-then-rest-eq0-clause-exact : goal.returns-then-rest-eq0-clause-exact
returns-then-rest-eq0-clause-exact c = rw c.get-count.ensures.value at (written-whole c.get-count.result _ _ _ c.if-rest-eq0.true c.format.ensures.text c.new-text.ensures c.push_str.ensures.bytes)

pub push_str-requires-2 : goal.push_str-requires-2
push_str-requires-2 c =
    let points : length (decimal (c.get-count.result / 256)) ≤ 3 = length-decimal-le 3 (c.get-count.result / 256) (omega arith) (omega arith) (omega arith) in
    let front = c.push.ensures.ascii (omega arith) in
    (omega arith, omega (arith, points, ap length c.format.ensures.text, ap length c.new-text.ensures, c.push_str.ensures.len, ap length front, length-append {A = ℕ}, ap length c.as_str.ensures.value, c.decimals.ensures.short))

pub returns-clause-exact : goal.returns-clause-exact
returns-clause-exact c =
    let front = c.push.ensures.ascii (omega arith) in
    rw c.get-count.ensures.value at (written-fraction c.get-count.result _ _ _ _ _ c.if-rest-eq0.false c.format.ensures.text c.new-text.ensures c.push_str.ensures.bytes (c.as_str.ensures.value ∙ c.decimals.ensures.digits) (rw front at c.push_str-2.ensures.bytes))
