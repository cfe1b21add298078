use Rattle.laws_sessions.proofs.TakenDays.{taken_rises}
use Rattle.laws_sessions.proofs.sessions.each_message_is_taken_once.Goals as goal

pub returns : goal.returns
returns c = taken_rises
