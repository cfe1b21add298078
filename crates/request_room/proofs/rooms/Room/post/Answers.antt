use Rattle.std.proofs.Common.{◌≡◌, ◌∙◌, true, false, length, sym, ap, rules}
use Rattle.request_room.specs.declared.events.RoomEvent.TheVariants as event
use Rattle.request_room.specs.RoomFacts.{takes_quotes}
use Rattle.request_room.specs.Book.{event_facts, quote_posted, room_after}
use Rattle.request_room.proofs.KeptRoomLemmas.{adds_none, adds_one, room_posted, room_unchanged}
use Rattle.request_room.proofs.rooms.Room.post.Goals as goal

pub invariant_of-self-then-not-takes : goal.invariant_of-self-then-not-takes
unfolding event_facts
invariant_of-self-then-not-takes c =
    let room = c.self.inside in
    let ended : takes_quotes (room_after room.events.items) ≡ false =
    ap (λ events. takes_quotes (room_after events)) c.self.view_is ∙ sym c.if-not-takes.ensures in
    rw (
      c.in_ok-push.ensures.items,
      c.in_ok-reserve.ensures.items,
      c.in_ok-reserve-2.ensures.side,
      c.in_ok-reserve-2.ensures.quotes,
      c.posting.ensures,
    )
    (room_unchanged room.events.items c.self.invariant
    (event.Post c.args.dealer c.args.w c.args.price c.args.until) (adds_none _ _ ended))

pub invariant_of-self-2 : goal.invariant_of-self-2
unfolding event_facts
invariant_of-self-2 c =
    let room = c.self.inside in
    let takes : takes_quotes (room_after room.events.items) ≡ true =
    ap (λ events. takes_quotes (room_after events)) c.self.view_is ∙ sym c.if-not-takes.ensures in
    let place : c.len-posting.result ≡ length room.events.items = search rules in
    rw (
      c.in_ok-push.ensures.items,
      c.in_ok-reserve.ensures.items,
      c.in_ok-post.ensures.side,
      c.in_ok-post.ensures.quotes,
      c.in_ok-reserve-2.ensures.side,
      c.in_ok-reserve-2.ensures.quotes,
      c.posting.ensures,
      place,
    )
    (room_posted room.events.items c.self.invariant
    (event.Post c.args.dealer c.args.w c.args.price c.args.until)
    (quote_posted c.args.dealer c.args.w c.args.price c.args.until) takes (adds_one _ _ takes))
