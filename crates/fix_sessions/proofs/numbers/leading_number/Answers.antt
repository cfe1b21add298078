use Rattle.std.proofs.Common.{◌≡◌, ◌<◌, ◌+◌, ◌*◌, ◌^◌, true, get_or, arith, rules}
use Rattle.std.specs.Char.{is_ascii_digit}
use Rattle.fix_sessions.proofs.NumberLemmas.{front_small, front_more, digit_from, digit_up_to}
use Rattle.fix_sessions.proofs.numbers.leading_number.Goals as goal

pub overflow_mul-number : goal.overflow_mul-number
overflow_mul-number c =
    let low = front_small c.args.text.now c.loop-count.count c.loop-count.number c.loop-count.invariant.0 c.loop-count.invariant.2 c.loop-count.invariant.3 in
    let less : c.loop-count.number * 10 < 2 ^ 64 = omega (arith, low) in
    search (rules, less)

pub overflow_add-number : goal.overflow_add-number
overflow_add-number c =
    let text = c.args.text.now in
    let i = c.loop-count.count in
    let low = front_small text i c.loop-count.number c.loop-count.invariant.0 c.loop-count.invariant.2 c.loop-count.invariant.3 in
    let digit : is_ascii_digit (get_or text i 0) ≡ true = search rules in
    let top = digit_up_to (get_or text i 0) digit in
    let less : c.loop-count.number * 10 + c.from.result < 2 ^ 64 = omega (arith, low, top, c.from.ensures) in
    search (rules, less)

pub loop-count-preserved : goal.loop-count-preserved
loop-count-preserved c =
    let text = c.args.text.now in
    let i = c.loop-count.count in
    let digit : is_ascii_digit (get_or text i 0) ≡ true = search rules in
    let from_zero = digit_from (get_or text i 0) digit in
    let next = front_more text i c.loop-count.number c.loop-count-test.true c.loop-count.invariant.2 c.loop-count.invariant.3 digit in (
      omega (arith, c.if-count-lt9.true),
      omega (arith, c.loop-count-test.true),
      next.0,
      omega (arith, c.from.ensures, c.from-in-loop-count.ensures, next.1, from_zero),
    )
