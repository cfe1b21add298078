use Rattle.request_room.proofs.CoverLemmas.{cover_is_another, cover_is_best, cover_if_any}
use Rattle.request_room.proofs.laws.the_cover_is_the_best_other_quote.Goals as goal

pub returns-clause-best : goal.returns-clause-best
returns-clause-best c = cover_is_best

pub returns-clause-another : goal.returns-clause-another
returns-clause-another c = cover_is_another

pub returns-clause-none : goal.returns-clause-none
returns-clause-none c = cover_if_any
