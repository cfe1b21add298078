use Rattle.wire_messages.proofs.BackLemmas.{plain_of, tells_apart}
use Rattle.wire_messages.proofs.laws.the_wire_tells_messages_apart.Goals as goal

pub returns : goal.returns
returns c = λ reference told m other is plain other_plain same.
    let one = tells_apart reference told m other is (plain_of told m.behind plain) (plain_of told other.behind other_plain) same in
    (one.kind, one.number, one.moment, one.behind)
