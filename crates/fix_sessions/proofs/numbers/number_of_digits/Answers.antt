use Rattle.std.proofs.Common.{◌+◌, ◌*◌, ◌^◌, ◌<◌, ◌≤◌, get_or, arith, rules}
use Rattle.fix_sessions.proofs.NumberLemmas.{one_more, one_more_fits, digit_at, digit_from}
use Rattle.fix_sessions.proofs.numbers.number_of_digits.Goals as goal

pub overflow_mul-value : goal.overflow_mul-value
overflow_mul-value c =
    let below = one_more_fits c.args.text.now c.loop-digit.digit-index c.loop-digit.value c.requires.few (omega arith) c.requires.digits c.loop-digit.invariant in
    let less : c.loop-digit.value * 10 < 2 ^ 64 = omega (arith, below) in
    search (rules, less)

pub overflow_add-value : goal.overflow_add-value
overflow_add-value c =
    let below = one_more_fits c.args.text.now c.loop-digit.digit-index c.loop-digit.value c.requires.few (omega arith) c.requires.digits c.loop-digit.invariant in
    let less : c.loop-digit.value * 10 + c.from.result < 2 ^ 64 = rw c.from.ensures below in
    search (rules, less)

pub overflow_sub-value : goal.overflow_sub-value
overflow_sub-value c =
    let text = c.args.text.now in
    let i = c.loop-digit.digit-index in
    let from_zero : 48 ≤ get_or text i 0 = digit_from (get_or text i 0) (digit_at text i (omega arith) c.requires.digits) in
    omega (arith, c.from.ensures, c.from-in-loop-digit.ensures)

pub loop-digit-preserved : goal.loop-digit-preserved
loop-digit-preserved c =
    let text = c.args.text.now in
    let i = c.loop-digit.digit-index in
    let from_zero : 48 ≤ get_or text i 0 = digit_from (get_or text i 0) (digit_at text i (omega arith) c.requires.digits) in
    omega (arith, c.from.ensures, c.from-in-loop-digit.ensures, one_more text i c.loop-digit.value (omega arith) c.requires.digits c.loop-digit.invariant)
