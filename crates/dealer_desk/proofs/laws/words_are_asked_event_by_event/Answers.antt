use Rattle.dealer_desk.proofs.WordLemmas.{words_push}
use Rattle.dealer_desk.proofs.laws.words_are_asked_event_by_event.Goals as goal

pub returns : goal.returns
returns c = words_push
