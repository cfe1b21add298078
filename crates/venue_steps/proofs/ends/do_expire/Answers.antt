use Rattle.std.proofs.Common.{rules}
use Rattle.venue_steps.proofs.EndLemmas.{expired_duties}
use Rattle.venue_steps.proofs.ends.do_expire.Goals as goal

pub returns-clause-duties : goal.returns-clause-duties
returns-clause-duties c =
    expired_duties c.args.room.now _ c.args.at c.args.moment c.with_told.result.items
    (search rules) c.in_ok-ended.ensures.ok c.with_told.ensures.items
