use Rattle.laws_sessions.proofs.Answering.{answers_stand}
use Rattle.laws_sessions.proofs.recovery.rejects_stand.Goals as goal

pub returns : goal.returns
returns c = answers_stand
