use Rattle.laws_sessions.proofs.Apart.{own_apart}
use Rattle.laws_sessions.proofs.Numbered.{one_leaves}
use Rattle.laws_sessions.proofs.UsedNumbers.{numbers_rise, used_at_start}
use Rattle.laws_sessions.proofs.recovery.numbers_leave_once.Goals as goal

pub returns-clause-used : goal.returns-clause-used
returns-clause-used c = used_at_start

pub returns-clause-rise : goal.returns-clause-rise
returns-clause-rise c = numbers_rise

pub returns-clause-one : goal.returns-clause-one
returns-clause-one c = one_leaves

pub returns-clause-apart : goal.returns-clause-apart
returns-clause-apart c = own_apart
