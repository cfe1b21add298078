use Rattle.laws_sessions.proofs.FedLemmas.{request_wants, resend_ends, resend_leaves}
use Rattle.laws_sessions.proofs.resends.a_resend_comes_to_its_end.Goals as goal

pub returns-clause-asked : goal.returns-clause-asked
returns-clause-asked c = request_wants

pub returns-clause-ends : goal.returns-clause-ends
returns-clause-ends c = resend_ends

pub returns-clause-leaves : goal.returns-clause-leaves
returns-clause-leaves c = resend_leaves
