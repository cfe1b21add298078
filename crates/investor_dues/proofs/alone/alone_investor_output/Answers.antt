use Rattle.std.proofs.Common.{◌∙◌}
use Rattle.investor_dues.proofs.ViewLemmas.{all_noted, all_seen, item_more}
use Rattle.investor_dues.proofs.alone.alone_investor_output.Goals as goal

pub loop-due-preserved : goal.loop-due-preserved
loop-due-preserved c =
    item_more c.args.seen.now c.args.dues.now c.loop-due.due-index c.due-item.result
    c.loop-due.desk c.happen.new.desk c.loop-due-test.true c.due-item.is c.loop-due.invariant
    c.in_ok-happen.ensures

pub returns-clause-messages : goal.returns-clause-messages
returns-clause-messages c =
    c.into_output.ensures.sent
    ∙ all_seen c.args.seen.now c.args.dues.now c.loop-due.due-index c.loop-due.desk
    c.loop-due-test.false c.loop-due.invariant

pub returns-clause-notes : goal.returns-clause-notes
returns-clause-notes c =
    c.into_output.ensures.notes
    ∙ all_noted c.args.seen.now c.args.dues.now c.loop-due.due-index c.loop-due.desk
    c.loop-due-test.false c.loop-due.invariant
