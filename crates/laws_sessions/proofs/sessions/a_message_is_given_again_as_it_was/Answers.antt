use Rattle.laws_sessions.proofs.Restarts.{day_again, kept_again}
use Rattle.laws_sessions.proofs.sessions.a_message_is_given_again_as_it_was.Goals as goal

pub returns-clause-day : goal.returns-clause-day
returns-clause-day c = day_again

pub returns-clause-kept : goal.returns-clause-kept
returns-clause-kept c = kept_again
