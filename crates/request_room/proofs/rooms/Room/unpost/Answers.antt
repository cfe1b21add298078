use Rattle.std.proofs.Common.{◌≡◌, ◌∙◌, true, false, sym, ap}
use Rattle.request_room.specs.declared.events.RoomEvent.TheVariants as event
use Rattle.request_room.specs.Book.{event_facts, may_unpost, room_after}
use Rattle.request_room.proofs.KeptRoomLemmas.{adds_none, adds_one, room_unchanged, room_unposted}
use Rattle.request_room.proofs.rooms.Room.unpost.Goals as goal

pub invariant_of-self-then-not-standing : goal.invariant_of-self-then-not-standing
unfolding event_facts
invariant_of-self-then-not-standing c =
    let room = c.self.inside in
    let gone : may_unpost (room_after room.events.items) c.args.dealer c.args.w ≡ false =
    ap (λ events. may_unpost (room_after events) c.args.dealer c.args.w) c.self.view_is
    ∙ sym c.if-not-standing.ensures in
    rw (c.in_ok-push.ensures.items, c.in_ok-reserve.ensures.items)
    (room_unchanged room.events.items c.self.invariant (event.Unpost c.args.dealer c.args.w)
    (adds_none _ _ gone))

pub invariant_of-self-2 : goal.invariant_of-self-2
unfolding event_facts
invariant_of-self-2 c =
    let room = c.self.inside in
    let standing : may_unpost (room_after room.events.items) c.args.dealer c.args.w ≡ true =
    ap (λ events. may_unpost (room_after events) c.args.dealer c.args.w) c.self.view_is
    ∙ sym c.if-not-standing.ensures in
    rw (
      c.in_ok-push.ensures.items,
      c.in_ok-reserve.ensures.items,
      c.unpost.ensures.side,
      c.unpost.ensures.quotes,
    )
    (room_unposted room.events.items c.self.invariant (event.Unpost c.args.dealer c.args.w)
    c.args.dealer c.args.w (adds_one _ _ standing))
