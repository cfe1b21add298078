use Rattle.laws_days.proofs.TurnLemmas.{turn_outcome}
use Rattle.laws_days.proofs.turns.each_message_in_its_turn_is_answered.Goals as goal

pub returns : goal.returns
returns c config steps firm moment bytes differs = turn_outcome config steps firm moment bytes differs
