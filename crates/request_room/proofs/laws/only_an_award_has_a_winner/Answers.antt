use Rattle.request_room.proofs.AwardLemmas.{ends_lawfully}
use Rattle.request_room.proofs.laws.only_an_award_has_a_winner.Goals as goal

pub returns : goal.returns
returns c = ends_lawfully
