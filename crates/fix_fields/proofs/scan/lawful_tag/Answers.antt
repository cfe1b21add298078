use Rattle.std.proofs.Common.{◌+◌, ◌-◌, ◌*◌, get_or, ap, ◌∙◌, arith, rules}
use Rattle.std.proofs.lemmas.Bool.Decides.{nat_tests}
use Rattle.fix_fields.proofs.Digits.{one_more}
use Rattle.fix_fields.proofs.LawfulLemmas.{lawful_parts, first_digit, in_tag, at_equals}
use Rattle.fix_fields.proofs.scan.lawful_tag.Goals as goal

pub overflow_sub-value : goal.overflow_sub-value
overflow_sub-value c =
    let digit = (first_digit c.args.text.now c.requires).digit in
    grind (arith, nat_tests)

pub loop-count-init : goal.loop-count-init
loop-count-init c =
    let text = c.args.text.now in
    let first = first_digit text c.requires in
    let less = first.less in
    (omega arith, omega (arith, one_more text 0 first.inside first.digit))

pub bounds-text-count : goal.bounds-text-count
bounds-text-count c =
    let more = (lawful_parts c.args.text.now c.requires).more in
    let most = c.loop-count.invariant.0 in
    omega arith

pub bounds-text-count-in-loop-count : goal.bounds-text-count-in-loop-count
bounds-text-count-in-loop-count c =
    (in_tag c.args.text.now c.loop-count.count c.requires c.loop-count.invariant.0 c.loop-count-test.true).inside

pub overflow_mul-value : goal.overflow_mul-value
overflow_mul-value c =
    let below = (in_tag c.args.text.now c.loop-count.count c.requires c.loop-count.invariant.0 c.loop-count-test.true).small in
    search (rules, below)

pub overflow_sub-value-in-loop-count : goal.overflow_sub-value-in-loop-count
overflow_sub-value-in-loop-count c =
    let digit = (in_tag c.args.text.now c.loop-count.count c.requires c.loop-count.invariant.0 c.loop-count-test.true).digit in
    grind (arith, nat_tests)

pub overflow_add-value : goal.overflow_add-value
overflow_add-value c =
    let below = (in_tag c.args.text.now c.loop-count.count c.requires c.loop-count.invariant.0 c.loop-count-test.true).small in
    search (rules, below)

pub loop-count-preserved : goal.loop-count-preserved
loop-count-preserved c =
    let text = c.args.text.now in
    let n = c.loop-count.count in
    let at = in_tag text n c.requires c.loop-count.invariant.0 c.loop-count-test.true in
    let less = at.less in (
      omega arith,
      ap (λ value. value * 10 + (get_or text n 0 - 48)) c.loop-count.invariant.1 ∙ one_more text n at.inside at.digit,
    )

pub loop-count-smaller : goal.loop-count-smaller
loop-count-smaller c =
    let inside = (in_tag c.args.text.now c.loop-count.count c.requires c.loop-count.invariant.0 c.loop-count-test.true).inside in
    omega arith

pub returns-clause-inside : goal.returns-clause-inside
returns-clause-inside c =
    let more = (lawful_parts c.args.text.now c.requires).more in
    let most = c.loop-count.invariant.0 in
    omega arith

pub returns-clause-count : goal.returns-clause-count
returns-clause-count c = at_equals c.args.text.now c.loop-count.count c.loop-count.invariant.0 c.loop-count-test.false
