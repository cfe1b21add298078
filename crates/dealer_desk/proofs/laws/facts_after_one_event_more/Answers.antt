use Rattle.dealer_desk.proofs.DeskLemmas.{facts_push}
use Rattle.dealer_desk.proofs.laws.facts_after_one_event_more.Goals as goal

pub returns : goal.returns
returns c = facts_push
