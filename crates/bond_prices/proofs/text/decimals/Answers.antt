use Rattle.std.proofs.Common.{ℕ, ◌<◌, length, arith, ap, length-append}
use Rattle.bond_prices.proofs.Fractions.{divided-start, divided-step, divided-push}
use Rattle.bond_prices.proofs.text.decimals.Goals as goal

pub loop-init : goal.loop-init
loop-init c = record { printed = divided-start _ c.args.rest c.new-text.ensures c.requires; rest_fits = c.requires; text_fits = omega (arith, ap length c.new-text.ensures) }

pub loop-preserved : goal.loop-preserved
loop-preserved c =
    let step = divided-step c.loop.counter c.loop.rest c.loop-test.true c.if-rest-eq0.false in
    let below : c.from.result < 128 = omega arith in
    let pushed = c.push.ensures.ascii below in
    record {
      printed = divided-push _ _ _ _ _ _ _ pushed c.from.ensures step c.loop.invariant.printed;
      rest_fits = omega arith;
      text_fits = omega (arith, ap length pushed, length-append {A = ℕ});
    }
