use Rattle.laws_shown.proofs.OrderLaws.{shown_in_order}
use Rattle.laws_shown.proofs.OwnNumbers.{own_numbers}
use Rattle.laws_shown.proofs.laws.quotes_are_shown_in_order.Goals as goal

pub returns-clause-order : goal.returns-clause-order
returns-clause-order c config steps investor = shown_in_order config steps investor

pub returns-clause-numbers : goal.returns-clause-numbers
returns-clause-numbers c config steps dealer row is = own_numbers config steps dealer row is
