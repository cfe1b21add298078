use Rattle.laws_sessions.proofs.NotDenied.{denied_is_not_taken, denied_was_not_taken, message_is_no_gap, reject_is_no_gap}
use Rattle.laws_sessions.proofs.recovery.nothing_is_denied.Goals as goal

pub returns-clause-messages : goal.returns-clause-messages
returns-clause-messages c = message_is_no_gap

pub returns-clause-rejects : goal.returns-clause-rejects
returns-clause-rejects c = reject_is_no_gap

pub returns-clause-taken : goal.returns-clause-taken
returns-clause-taken c = denied_was_not_taken

pub returns-clause-denied : goal.returns-clause-denied
returns-clause-denied c = denied_is_not_taken
