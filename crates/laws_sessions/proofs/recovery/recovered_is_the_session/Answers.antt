use Rattle.laws_sessions.proofs.ReadSteps.{recovered_is}
use Rattle.laws_sessions.proofs.Acts.{all_readable, all_recovered}
use Rattle.laws_sessions.proofs.recovery.recovered_is_the_session.Goals as goal

pub returns-clause-in_one_life : goal.returns-clause-in_one_life
returns-clause-in_one_life c = recovered_is

pub returns-clause-always : goal.returns-clause-always
returns-clause-always c = all_recovered

pub returns-clause-readable : goal.returns-clause-readable
returns-clause-readable c = all_readable
