use Rattle.std.proofs.Common.{sym, subst, rules}
use Rattle.fix_fields.specs.UtcTimestamp.{IsDate}
use Rattle.fix_fields.proofs.DateLemmas.{date_read}
use Rattle.fix_fields.proofs.dates.Date.read.Goals as goal

is : (c : goal.After-copy-2-1) → IsDate c.args.digits.now
is c =
    date_read c.args.digits.now _ _ _ _ _ (search rules) c.leading_number-count.ensures.count (search rules)
    c.leading_number-month.ensures.value c.leading_number-month.ensures.count c.leading_number-day.ensures.value c.leading_number-day.ensures.count
    c.if-month-lt1.false c.if-month-gt12.false c.if-day-lt1.false c.if-day-gt31.false

pub invariant_of-result : goal.invariant_of-result
invariant_of-result c = subst IsDate (sym c.copy_from_slice.ensures.after) (is c)

pub returns : goal.returns
returns c = (is c, c.copy_from_slice.ensures.after)
