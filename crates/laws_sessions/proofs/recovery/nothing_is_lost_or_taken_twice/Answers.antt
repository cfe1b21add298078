use Rattle.laws_sessions.proofs.Acts.{all_again, all_start, taken_below, taken_once}
use Rattle.laws_sessions.proofs.FoldKeeps.{counted_stays}
use Rattle.laws_sessions.proofs.recovery.nothing_is_lost_or_taken_twice.Goals as goal

pub returns-clause-starts : goal.returns-clause-starts
returns-clause-starts c = all_start

pub returns-clause-once : goal.returns-clause-once
returns-clause-once c = taken_once

pub returns-clause-below : goal.returns-clause-below
returns-clause-below c = taken_below

pub returns-clause-again : goal.returns-clause-again
returns-clause-again c = all_again

pub returns-clause-counted : goal.returns-clause-counted
returns-clause-counted c = counted_stays
