use Rattle.laws_sessions.proofs.LeftAgain.{left_is_recovered, rejects_are_kept}
use Rattle.laws_sessions.proofs.recovery.what_left_is_recovered.Goals as goal

pub returns-clause-messages : goal.returns-clause-messages
returns-clause-messages c = left_is_recovered

pub returns-clause-rejects : goal.returns-clause-rejects
returns-clause-rejects c = rejects_are_kept
