use Rattle.wire_messages.proofs.RestLemmas.{rest_same, number_same, moment_same, left_out}
use Rattle.wire_messages.proofs.laws.the_rest_is_the_firms.Goals as goal

pub returns-clause-rest : goal.returns-clause-rest
returns-clause-rest c = rest_same

pub returns-clause-number : goal.returns-clause-number
returns-clause-number c = number_same

pub returns-clause-moment : goal.returns-clause-moment
returns-clause-moment c = moment_same

pub returns-clause-left_out : goal.returns-clause-left_out
returns-clause-left_out c = λ number fields. let out = left_out number fields in (out.no_43, out.no_97, out.no_122)
