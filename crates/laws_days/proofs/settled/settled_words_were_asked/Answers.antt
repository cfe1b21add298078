use Rattle.laws_days.proofs.SettledSteps.{lifted_by, withdrawn_by}
use Rattle.laws_days.proofs.settled.settled_words_were_asked.Goals as goal

pub returns : goal.returns
returns c = record { withdrawn = withdrawn_by; lifted = lifted_by }
