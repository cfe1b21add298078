use Rattle.venue_text.proofs.LiveLemmas.{gained_is}
use Rattle.venue_text.proofs.UnmarkedLemmas.{day_unmarked}
use Rattle.venue_text.proofs.live_laws.without_marks_a_day_is_its_messages.Goals as goal

pub returns-clause-gained : goal.returns-clause-gained
returns-clause-gained c config taken more = gained_is config taken more

pub returns-clause-unmarked : goal.returns-clause-unmarked
returns-clause-unmarked c frames config lines = day_unmarked frames config lines
