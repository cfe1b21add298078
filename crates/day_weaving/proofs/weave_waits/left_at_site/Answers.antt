use Rattle.std.proofs.Common.{sym}
use Rattle.day_weaving.proofs.WaitLemmas.{come_of, next_at_site}
use Rattle.day_weaving.proofs.weave_waits.left_at_site.Goals as goal

pub returns-then-has_come-clause-none : goal.returns-then-has_come-clause-none
returns-then-has_come-clause-none c before counts =
    let one = c.in_ok-one.field-0.now in
    next_at_site c.args.day.now c.args.done.now c.args.slot.now one (sym c.in_ok-one.ensures)
    (come_of c.args.done.now one c.has_come.result c.has_come.ensures c.if-has_come.true) before
    counts
