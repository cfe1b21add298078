use Rattle.request_room.proofs.EndLemmas.{ends_once, awarded_once}
use Rattle.request_room.proofs.laws.a_room_ends_once.Goals as goal

pub returns-clause-ends : goal.returns-clause-ends
returns-clause-ends c = ends_once

pub returns-clause-awards : goal.returns-clause-awards
returns-clause-awards c = awarded_once
