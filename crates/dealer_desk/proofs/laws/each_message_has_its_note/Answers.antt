use Rattle.dealer_desk.proofs.NotedFacts.{as_many}
use Rattle.dealer_desk.proofs.laws.each_message_has_its_note.Goals as goal

pub returns : goal.returns
returns c = as_many
