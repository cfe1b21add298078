use Rattle.laws_shown.proofs.ShownLaws.{sent_in_turn, sent_to_dealer, sent_to_investor}
use Rattle.laws_shown.proofs.laws.what_is_shown_was_quoted.Goals as goal

pub returns-clause-investors : goal.returns-clause-investors
returns-clause-investors c config steps investor row message is sent = sent_to_investor config steps investor row message is sent

pub returns-clause-dealers : goal.returns-clause-dealers
returns-clause-dealers c config steps dealer row message limits is sent = sent_to_dealer config steps dealer row message limits is sent

pub returns-clause-in_turn : goal.returns-clause-in_turn
returns-clause-in_turn c config steps investor row is = sent_in_turn config steps investor row is
