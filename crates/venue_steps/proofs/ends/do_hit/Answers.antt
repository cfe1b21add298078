use Rattle.std.proofs.Common.{sym}
use Rattle.venue_steps.proofs.EndLemmas.{hit_duties_are}
use Rattle.venue_steps.proofs.ends.do_hit.Goals as goal

pub returns-clause-duties : goal.returns-clause-duties
returns-clause-duties g c =
    rw (sym c.word_of_hit-asked.ensures)
    (hit_duties_are c.args.room.now _ c.args.at c.args.response c.args.word c.args.moment _ _
    c.in-Some.settlement c.in_ok-reply.reply c.with_told.result.items
    (sym c.in-Some.ensures.settlement) c.in_ok-reply.ensures.reply c.in_ok-reply.ensures.ok
    (rw (sym c.is_award.ensures) c.with_told.ensures.items))
