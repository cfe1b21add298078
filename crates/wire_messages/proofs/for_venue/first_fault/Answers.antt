use Rattle.wire_messages.proofs.GivenLemmas.{ungiven_of}
use Rattle.wire_messages.proofs.for_venue.first_fault.Goals as goal

pub returns : goal.returns
returns c = λ fields is. ungiven_of c.args.why c.args.rest.now fields (c.are_fields.ensures.yes c.if-not-are_fields.false) is
