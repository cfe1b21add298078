use Rattle.laws_sessions.proofs.Restarts.{last_gone, one_gone, resend_gives, same_from_then_on, two_gone}
use Rattle.laws_sessions.proofs.sessions.a_restart_changes_nothing.Goals as goal

pub returns-clause-one : goal.returns-clause-one
returns-clause-one c = one_gone

pub returns-clause-two : goal.returns-clause-two
returns-clause-two c = two_gone

pub returns-clause-waits : goal.returns-clause-waits
returns-clause-waits c = last_gone

pub returns-clause-from_then_on : goal.returns-clause-from_then_on
returns-clause-from_then_on c = same_from_then_on

pub returns-clause-resent : goal.returns-clause-resent
returns-clause-resent c = resend_gives
