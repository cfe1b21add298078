use Rattle.laws_sessions.proofs.SentDays.{event_right, kept_in_order, new_in_order, turns_right}
use Rattle.laws_sessions.proofs.sessions.what_leaves_was_given.Goals as goal

pub returns-clause-in_order : goal.returns-clause-in_order
returns-clause-in_order c = new_in_order

pub returns-clause-kept : goal.returns-clause-kept
returns-clause-kept c = kept_in_order

pub returns-clause-right : goal.returns-clause-right
returns-clause-right c = event_right

pub returns-clause-always : goal.returns-clause-always
returns-clause-always c = turns_right
