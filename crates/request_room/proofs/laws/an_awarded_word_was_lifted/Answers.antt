use Rattle.request_room.proofs.AwardLemmas.{awards_were_lifted}
use Rattle.request_room.proofs.laws.an_awarded_word_was_lifted.Goals as goal

pub returns : goal.returns
returns c = awards_were_lifted
