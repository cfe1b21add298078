use Rattle.laws_sessions.proofs.LogonDays.{moved_by_logon, sent_by_logon, taken_by_logon}
use Rattle.laws_sessions.proofs.sessions.nothing_without_a_logon.Goals as goal

pub returns-clause-sent : goal.returns-clause-sent
returns-clause-sent c = sent_by_logon

pub returns-clause-taken : goal.returns-clause-taken
returns-clause-taken c = taken_by_logon

pub returns-clause-moved : goal.returns-clause-moved
returns-clause-moved c = moved_by_logon
