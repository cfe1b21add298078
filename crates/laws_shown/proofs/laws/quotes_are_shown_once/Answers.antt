use Rattle.laws_shown.proofs.OrderLaws.{shown_once}
use Rattle.laws_shown.proofs.OwnIds.{own_ids}
use Rattle.laws_shown.proofs.laws.quotes_are_shown_once.Goals as goal

pub returns-clause-once : goal.returns-clause-once
returns-clause-once c config steps investor = shown_once config steps investor

pub returns-clause-own : goal.returns-clause-own
returns-clause-own c config steps dealer row is = own_ids config steps dealer row is
