use Rattle.std.proofs.Common.{◌+◌, ◌-◌, ◌*◌, get_or, sym, ap, ◌∙◌, arith, rules, below_more}
use Rattle.fix_fields.proofs.Digits.{small, counted, one_more}
use Rattle.wire_messages.proofs.fields.leading_number.Goals as goal

pub overflow_mul-value : goal.overflow_mul-value
overflow_mul-value c =
    let i = c.loop-count.invariant in
    let below = small c.args.text.now c.loop-count.count i.1 (omega arith) i.2 in
    search (rules, below)

pub overflow_add-value : goal.overflow_add-value
overflow_add-value c =
    let i = c.loop-count.invariant in
    let below = small c.args.text.now c.loop-count.count i.1 (omega arith) i.2 in
    search (rules, below)

pub loop-count-preserved : goal.loop-count-preserved
loop-count-preserved c =
    let i = c.loop-count.invariant in
    let test = sym c.is_ascii_digit.ensures.value ∙ c.if-is_ascii_digit.true in (
      omega arith,
      omega arith,
      below_more _ _ i.2 test,
      ap (λ n. n * 10 + (get_or c.args.text.now c.loop-count.count 0 - 48)) i.3 ∙ one_more c.args.text.now c.loop-count.count (omega arith) test,
    )

pub returns-else-is_ascii_digit-clause-count : goal.returns-else-is_ascii_digit-clause-count
returns-else-is_ascii_digit-clause-count c =
    let i = c.loop-count.invariant in counted 9 c.args.text.now c.loop-count.count i.0 i.1 i.2 (λ _ _. sym c.is_ascii_digit.ensures.value ∙ c.if-is_ascii_digit.false)

pub returns-else-count-text-clause-count : goal.returns-else-count-text-clause-count
returns-else-count-text-clause-count c =
    let i = c.loop-count.invariant in counted 9 c.args.text.now c.loop-count.count i.0 i.1 i.2 (λ _ less. absurd (omega arith))

pub returns-after-loop-count-clause-count : goal.returns-after-loop-count-clause-count
returns-after-loop-count-clause-count c =
    let i = c.loop-count.invariant in counted 9 c.args.text.now c.loop-count.count i.0 i.1 i.2 (λ less _. absurd (omega arith))
