use Rattle.laws_sessions.proofs.Times.{first_time, message_time, reject_time, sent_at, told_time}
use Rattle.laws_sessions.proofs.recovery.times_stand.Goals as goal

pub returns-clause-messages : goal.returns-clause-messages
returns-clause-messages c = message_time

pub returns-clause-rejects : goal.returns-clause-rejects
returns-clause-rejects c = reject_time

pub returns-clause-sent : goal.returns-clause-sent
returns-clause-sent c = sent_at

pub returns-clause-first : goal.returns-clause-first
returns-clause-first c = first_time

pub returns-clause-told : goal.returns-clause-told
returns-clause-told c = told_time
