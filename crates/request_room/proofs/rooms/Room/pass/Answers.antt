use Rattle.std.proofs.Common.{◌≡◌, ◌∙◌, true, false, sym, ap}
use Rattle.request_room.specs.declared.events.RoomEvent.TheVariants as event
use Rattle.request_room.specs.RoomFacts.{is_open}
use Rattle.request_room.specs.Book.{event_facts, passed, room_after}
use Rattle.request_room.proofs.KeptRoomLemmas.{adds_none, adds_one, room_ended, room_unchanged}
use Rattle.request_room.proofs.rooms.Room.pass.Goals as goal

pub invariant_of-self-then-not-open : goal.invariant_of-self-then-not-open
unfolding event_facts
invariant_of-self-then-not-open c =
    let room = c.self.inside in
    let shut : is_open (room_after room.events.items) ≡ false =
    ap (λ events. is_open (room_after events)) c.self.view_is ∙ sym c.if-not-open.ensures in
    rw (c.in_ok-push.ensures.items, c.in_ok-reserve.ensures.items)
    (room_unchanged room.events.items c.self.invariant (event.Pass c.args.moment)
    (adds_none _ _ shut))

pub invariant_of-self-2 : goal.invariant_of-self-2
unfolding event_facts
invariant_of-self-2 c =
    let room = c.self.inside in
    let is_so : is_open (room_after room.events.items) ≡ true =
    ap (λ events. is_open (room_after events)) c.self.view_is ∙ sym c.if-not-open.ensures in
    rw (c.in_ok-push.ensures.items, c.in_ok-reserve.ensures.items)
    (room_ended room.events.items c.self.invariant (event.Pass c.args.moment) passed c.args.moment
    (adds_one _ _ is_so))
