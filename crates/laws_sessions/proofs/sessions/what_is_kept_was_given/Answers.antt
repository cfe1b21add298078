use Rattle.laws_sessions.proofs.GivenDays.{kept_was_given}
use Rattle.laws_sessions.proofs.sessions.what_is_kept_was_given.Goals as goal

pub returns : goal.returns
returns c = kept_was_given
