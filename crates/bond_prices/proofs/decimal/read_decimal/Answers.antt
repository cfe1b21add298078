use Rattle.std.proofs.Common.{◌≡◌, ◌<◌, ◌≤◌, ◌*◌, ◌^◌, arith, refl, ◌∙◌, if◌then◌else◌}
use Rattle.bond_prices.proofs.Spelled.{spelled_after-start, spelled_after-step, below_power}
use Rattle.bond_prices.proofs.Spelled.{most_power, push_below_power, scale_below_power}
use Rattle.bond_prices.proofs.Spelled.{scale_below_more}
use Rattle.bond_prices.proofs.decimal.read_decimal.Goals as goal
use Rattle.bond_prices.proofs.decimal.read_decimal.Goals.{then-is_behind_point-2}
use Rattle.bond_prices.proofs.decimal.read_decimal.Goals.{else-is_behind_point-2}

pub loop-byte-init : goal.loop-byte-init
loop-byte-init c = record { spelled = spelled_after-start c.args.text.now; digits_fit = omega arith; number_fits = omega arith; scale_fits = omega arith; scale_is_positive = omega arith }

pub overflow_mul-number : goal.overflow_mul-number
overflow_mul-number c = let small : c.loop-byte.number < 10 ^ 14 = below_power _ c.loop-byte.digits 14 c.loop-byte.invariant.number_fits (omega arith) in omega arith

pub overflow_add-number : goal.overflow_add-number
overflow_add-number c = let small : c.loop-byte.number < 10 ^ 14 = below_power _ c.loop-byte.digits 14 c.loop-byte.invariant.number_fits (omega arith) in omega arith

pub overflow_mul-scale : goal.overflow_mul-scale
overflow_mul-scale c = let small : c.loop-byte.scale ≤ 10 ^ 14 = most_power _ c.loop-byte.digits 14 c.loop-byte.invariant.scale_fits (omega arith) in omega arith

pub loop-byte-preserved : goal.loop-byte-preserved
loop-byte-preserved c =
    let step = spelled_after-step c.args.text.now c.loop-byte.byte-index c.loop-byte.number c.loop-byte.digits c.loop-byte.scale c.from.result c.loop-byte.is_behind_point c.loop-byte-test.true c.if-byte-lt48.false c.if-byte-gt57.false c.from.ensures in
    elim c.if-is_behind_point-2.branch [
      | then-is_behind_point-2 w ↦ record {
        spelled = let scale : c.if-is_behind_point-2.scale ≡ (if c.loop-byte.is_behind_point then c.loop-byte.scale * 10 else c.loop-byte.scale) = rw (w.scale-is, w.if-is_behind_point-2.true) refl in rw scale (step ∙ c.loop-byte.invariant.spelled);
        digits_fit = omega arith;
        number_fits = push_below_power _ _ _ c.loop-byte.invariant.number_fits (omega arith);
        scale_fits = rw w.scale-is (scale_below_power _ _ c.loop-byte.invariant.scale_fits);
        scale_is_positive = omega arith;
      }
      | else-is_behind_point-2 w ↦ record {
        spelled = let scale : c.if-is_behind_point-2.scale ≡ (if c.loop-byte.is_behind_point then c.loop-byte.scale * 10 else c.loop-byte.scale) = rw (w.scale-is, w.if-is_behind_point-2.false) refl in rw scale (step ∙ c.loop-byte.invariant.spelled);
        digits_fit = omega arith;
        number_fits = push_below_power _ _ _ c.loop-byte.invariant.number_fits (omega arith);
        scale_fits = rw w.scale-is (scale_below_more _ _ c.loop-byte.invariant.scale_fits);
        scale_is_positive = omega arith;
      }
    ]

pub returns-clause-number_fits : goal.returns-clause-number_fits
returns-clause-number_fits c = below_power _ c.loop-byte.digits 15 c.loop-byte.invariant.number_fits c.loop-byte.invariant.digits_fit
