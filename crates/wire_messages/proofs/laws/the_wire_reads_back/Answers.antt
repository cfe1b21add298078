use Rattle.wire_messages.proofs.BackLemmas.{plain_of, reads_back, number_back, moment_back, unreferred}
use Rattle.wire_messages.proofs.laws.the_wire_reads_back.Goals as goal

pub returns-clause-message : goal.returns-clause-message
returns-clause-message c = λ reference told m is plain. reads_back reference told m is (plain_of told m.behind plain)

pub returns-clause-number : goal.returns-clause-number
returns-clause-number c = number_back

pub returns-clause-moment : goal.returns-clause-moment
returns-clause-moment c = λ reference told m plain. moment_back reference told m (plain_of told m.behind plain)

pub returns-clause-unreferred : goal.returns-clause-unreferred
returns-clause-unreferred c = unreferred
