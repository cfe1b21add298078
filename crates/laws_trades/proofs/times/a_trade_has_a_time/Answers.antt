use Rattle.laws_trades.proofs.TimeAnswers.{answer_said}
use Rattle.laws_trades.proofs.TimeDays.{hit_of_award, notice_told, one_moment}
use Rattle.laws_trades.proofs.times.a_trade_has_a_time.Goals as goal

pub returns-clause-hit : goal.returns-clause-hit
returns-clause-hit c = hit_of_award

pub returns-clause-once : goal.returns-clause-once
returns-clause-once c config steps room moment other is also =
    one_moment config steps room moment other
    (λ before after award at. c.an_award_is_in_time.ensures config steps room before after award at) is also

pub returns-clause-dealers : goal.returns-clause-dealers
returns-clause-dealers c = notice_told

pub returns-clause-investors : goal.returns-clause-investors
returns-clause-investors c = answer_said
