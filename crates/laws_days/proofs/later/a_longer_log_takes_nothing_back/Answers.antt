use Rattle.laws_days.proofs.LaterLemmas.{facts_begin, sent_begins}
use Rattle.laws_days.proofs.later.a_longer_log_takes_nothing_back.Goals as goal

pub returns-clause-sent : goal.returns-clause-sent
returns-clause-sent c config steps more firm = sent_begins config steps more firm

pub returns-clause-facts : goal.returns-clause-facts
returns-clause-facts c config steps more = facts_begin config steps more
