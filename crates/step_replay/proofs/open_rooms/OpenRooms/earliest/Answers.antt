use Rattle.step_replay.proofs.OpenRoomLemmas.{not_earlier}
use Rattle.step_replay.proofs.open_rooms.OpenRooms.earliest.Goals as goal

pub returns : goal.returns
returns c = record {
  room = c.in-Some.field-0.now.1;
  held = c.in-Some.ensures.member;
  least = λ entry there.
      not_earlier c.in-Some.field-0.now entry (c.in-Some.ensures.least entry there);
}
