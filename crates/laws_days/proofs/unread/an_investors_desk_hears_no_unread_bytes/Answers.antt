use Rattle.laws_days.proofs.UnreadInvestor.{dropped, unheard}
use Rattle.laws_days.proofs.unread.an_investors_desk_hears_no_unread_bytes.Goals as goal

pub returns-clause-dropped : goal.returns-clause-dropped
returns-clause-dropped c = dropped (λ bytes fields is. (c.frame_of_is_the_reading.ensures.reads bytes fields).0 is)

pub returns-clause-unheard : goal.returns-clause-unheard
returns-clause-unheard c = unheard (λ bytes fields is. (c.frame_of_is_the_reading.ensures.reads bytes fields).0 is)
