use Rattle.dealer_desk.proofs.NotedFacts.{same_notes}
use Rattle.dealer_desk.proofs.laws.the_same_facts_have_the_same_notes.Goals as goal

pub returns : goal.returns
returns c = same_notes
