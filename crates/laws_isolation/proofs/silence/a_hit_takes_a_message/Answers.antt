use Rattle.laws_isolation.proofs.HitMessages.{none_hits}
use Rattle.laws_isolation.proofs.silence.a_hit_takes_a_message.Goals as goal

pub returns : goal.returns
returns c config steps isnt = none_hits config steps isnt
