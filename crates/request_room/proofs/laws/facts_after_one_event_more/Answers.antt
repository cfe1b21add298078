use Rattle.request_room.proofs.KeptFacts.{room_after_push, room_after_nothing}
use Rattle.request_room.proofs.laws.facts_after_one_event_more.Goals as goal

pub returns-clause-begins : goal.returns-clause-begins
returns-clause-begins c = room_after_nothing

pub returns-clause-more : goal.returns-clause-more
returns-clause-more c = room_after_push
