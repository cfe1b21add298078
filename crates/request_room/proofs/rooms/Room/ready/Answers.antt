use Rattle.request_room.specs.declared.events.RoomEvent.TheVariants as event
use Rattle.request_room.specs.Book.{event_facts}
use Rattle.request_room.proofs.KeptRoomLemmas.{adds_one, room_readied}
use Rattle.request_room.proofs.rooms.Room.ready.Goals as goal

pub invariant_of-self-2 : goal.invariant_of-self-2
unfolding event_facts
invariant_of-self-2 c =
    let room = c.self.inside in
    rw (c.in_ok-push.ensures.items, c.in_ok-reserve.ensures.items)
    (room_readied room.events.items c.self.invariant event.Ready
    (adds_one _ _ (rw (← c.self.view_is) at c.requires)))
