use Rattle.std.proofs.Common.{sym}
use Rattle.venue_steps.proofs.EndLemmas.{passed_duties}
use Rattle.venue_steps.proofs.ends.do_pass.Goals as goal

pub returns-clause-duties : goal.returns-clause-duties
returns-clause-duties c =
    passed_duties c.args.room.now _ c.args.at c.args.response c.args.moment c.in_ok-passed.passed c.with_told.result.items
    c.in_ok-passed.ensures.ended c.in_ok-passed.ensures.ok (rw (sym c.reply_to_pass.ensures) c.with_told.ensures.items)
