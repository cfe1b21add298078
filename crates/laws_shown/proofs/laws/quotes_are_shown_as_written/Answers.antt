use Rattle.laws_shown.proofs.ShownLaws.{quote_accepted, quote_shown}
use Rattle.laws_shown.proofs.laws.quotes_are_shown_as_written.Goals as goal

pub returns-clause-accepted : goal.returns-clause-accepted
returns-clause-accepted c config steps dealer quote is = quote_accepted config steps dealer quote is

pub returns-clause-shown : goal.returns-clause-shown
returns-clause-shown c config steps investor shown is = quote_shown config steps investor shown is
