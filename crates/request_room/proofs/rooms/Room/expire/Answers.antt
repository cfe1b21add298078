use Rattle.std.proofs.Common.{◌≡◌, ◌∙◌, true, false, sym, ap}
use Rattle.request_room.specs.declared.events.RoomEvent.TheVariants as event
use Rattle.request_room.specs.Book.{event_facts, expired, may_expire, room_after}
use Rattle.request_room.proofs.KeptRoomLemmas.{adds_none, adds_one, room_ended, room_unchanged}
use Rattle.request_room.proofs.rooms.Room.expire.Goals as goal

pub invariant_of-self-then-not-due : goal.invariant_of-self-then-not-due
unfolding event_facts
invariant_of-self-then-not-due c =
    let room = c.self.inside in
    let early : may_expire (room_after room.events.items) c.args.moment ≡ false =
    ap (λ events. may_expire (room_after events) c.args.moment) c.self.view_is
    ∙ sym c.if-not-due.ensures in
    rw (c.in_ok-push.ensures.items, c.in_ok-reserve.ensures.items)
    (room_unchanged room.events.items c.self.invariant (event.Expire c.args.moment)
    (adds_none _ _ early))

pub invariant_of-self-2 : goal.invariant_of-self-2
unfolding event_facts
invariant_of-self-2 c =
    let room = c.self.inside in
    let due : may_expire (room_after room.events.items) c.args.moment ≡ true =
    ap (λ events. may_expire (room_after events) c.args.moment) c.self.view_is
    ∙ sym c.if-not-due.ensures in
    rw (c.in_ok-push.ensures.items, c.in_ok-reserve.ensures.items)
    (room_ended room.events.items c.self.invariant (event.Expire c.args.moment) expired
    c.args.moment (adds_one _ _ due))
