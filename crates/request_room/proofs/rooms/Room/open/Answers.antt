use Rattle.std.proofs.Common.{◌≡◌, true}
use Rattle.request_room.specs.declared.events.RoomEvent.TheVariants as event
use Rattle.request_room.specs.declared.requests.RoomRequest.{RoomRequest}
use Rattle.request_room.specs.RoomFacts.{is_vacant}
use Rattle.request_room.specs.Book.{event_facts, room_after}
use Rattle.request_room.proofs.KeptRoomLemmas.{adds_one, room_opened}
use Rattle.request_room.proofs.rooms.Room.open.Goals as goal

pub invariant_of-self-2 : goal.invariant_of-self-2
unfolding event_facts
invariant_of-self-2 c =
    let room = c.self.inside in
    let opened : RoomRequest = record { ask = c.args.ask; dealers = c.args.dealers } in
    let vacant : is_vacant (room_after room.events.items) ≡ true =
    rw (← c.self.view_is) at c.requires in
    rw (c.in_ok-push.ensures.items, c.in_ok-reserve.ensures.items, c.in_ok-kept.ensures, c.copy.ensures)
    (room_opened room.events.items c.self.invariant (event.Open opened) opened vacant
    (adds_one _ _ vacant))
