use Rattle.laws_isolation.proofs.SilenceLemmas.{due_same, sent_same}
use Rattle.laws_isolation.proofs.silence.dealers_are_silent_to_each_other.Goals as goal

pub returns-clause-due : goal.returns-clause-due
returns-clause-due c config steps others dealer row is alike =
    due_same config dealer steps others alike

pub returns-clause-sent : goal.returns-clause-sent
returns-clause-sent c config steps others dealer row is alike =
    sent_same config dealer steps others alike row is
