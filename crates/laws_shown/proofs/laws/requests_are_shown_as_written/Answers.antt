use Rattle.laws_shown.proofs.ShownLaws.{request_accepted, request_shown}
use Rattle.laws_shown.proofs.laws.requests_are_shown_as_written.Goals as goal

pub returns-clause-accepted : goal.returns-clause-accepted
returns-clause-accepted c config steps investor request is = request_accepted config steps investor request is

pub returns-clause-shown : goal.returns-clause-shown
returns-clause-shown c config steps dealer ask moment is = request_shown config steps dealer ask moment is
