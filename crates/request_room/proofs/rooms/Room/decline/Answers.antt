use Rattle.std.proofs.Common.{refl}
use Rattle.request_room.specs.declared.events.RoomEvent.TheVariants as event
use Rattle.request_room.specs.RoomFacts.{takes_quotes}
use Rattle.request_room.specs.Book.{event_facts, room_after}
use Rattle.request_room.proofs.KeptRoomLemmas.{room_noted}
use Rattle.request_room.proofs.rooms.Room.decline.Goals as goal

pub invariant_of-self-2 : goal.invariant_of-self-2
unfolding event_facts
invariant_of-self-2 c =
    let room = c.self.inside in
    rw (c.in_ok-push.ensures.items, c.in_ok-reserve.ensures.items)
    (room_noted room.events.items c.self.invariant (event.Decline c.args.dealer)
    (takes_quotes (room_after room.events.items)) c.args.dealer refl)
