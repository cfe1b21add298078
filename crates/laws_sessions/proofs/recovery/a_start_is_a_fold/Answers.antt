use Rattle.laws_sessions.proofs.Folds.{all_more}
use Rattle.laws_sessions.proofs.recovery.a_start_is_a_fold.Goals as goal

pub returns : goal.returns
returns c = all_more
