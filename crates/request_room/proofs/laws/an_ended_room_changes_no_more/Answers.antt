use Rattle.request_room.proofs.EndLemmas.{ended_stays}
use Rattle.request_room.proofs.laws.an_ended_room_changes_no_more.Goals as goal

pub returns : goal.returns
returns c = ended_stays
