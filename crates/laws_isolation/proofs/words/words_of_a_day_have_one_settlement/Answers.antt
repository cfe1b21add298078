use Rattle.laws_isolation.proofs.WordLemmas.{is_told_lifted, one_settlement}
use Rattle.laws_isolation.proofs.words.words_of_a_day_have_one_settlement.Goals as goal

pub returns-clause-asked : goal.returns-clause-asked
returns-clause-asked c config inboxes sweeps day word one other keeps this that =
    one_settlement config day keeps.answers_agree word one other this that

pub returns-clause-won : goal.returns-clause-won
returns-clause-won c config inboxes sweeps day word settled keeps has this =
    is_told_lifted config day keeps.answers_agree word settled has this
