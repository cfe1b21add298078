use Rattle.std.proofs.Common.{ℕ, ◌≡◌, ◌≤◌, ◌*◌, ◌/◌, refl, sym, arith}
use Rattle.bond_prices.proofs.PriceAt.{price_at-ok, price_at-grid, low_from_quotient}
use Rattle.bond_prices.proofs.PriceAt.{high_from_quotient}
use Rattle.bond_prices.proofs.read.ticks_of.Goals as goal

pub returns-then-remainder-gt0-2 : goal.returns-then-remainder-gt0-2
returns-then-remainder-gt0-2 c =
    let a : ℕ = 256 * c.args.decimal.number in
    let s : ℕ = c.args.decimal.scale in
    let one : 1 ≤ a / s = (c.in-Some.ensures.in_range.0 refl).0 in
    sym (price_at-grid a s (low_from_quotient a s one) (high_from_quotient a s (omega arith) (omega arith) c.else-count-highest-2.either) (omega arith))

pub returns : goal.returns
returns c =
    let a : ℕ = 256 * c.args.decimal.number in
    let s : ℕ = c.args.decimal.scale in
    let one : 1 ≤ a / s = (c.in-Some.ensures.in_range.0 refl).0 in
    let is : c.in-Some.price ≡ a / s = c.in-Some.ensures.value in
    rw is (sym (price_at-ok a s (low_from_quotient a s one) (high_from_quotient a s (omega arith) (omega arith) c.else-count-highest-2.either) (omega arith)))
