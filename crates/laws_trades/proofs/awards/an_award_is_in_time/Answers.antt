use Rattle.laws_trades.proofs.AwardLemmas.{award_in_time}
use Rattle.laws_trades.proofs.awards.an_award_is_in_time.Goals as goal

pub returns : goal.returns
returns c config steps room before after award moment is kind =
    award_in_time config room steps before after award moment is kind
