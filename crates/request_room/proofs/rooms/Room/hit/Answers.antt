use Rattle.std.proofs.Common.{◌≡◌, ◌∙◌, sym, ap, Ok, Err}
use Rattle.request_room.specs.declared.events.RoomEvent.TheVariants as event
use Rattle.request_room.specs.Book.{end_by, event_facts, hit_outcome, hit_refusal, hit_settled}
use Rattle.request_room.specs.Book.{room_after}
use Rattle.request_room.proofs.KeptRoomLemmas.{room_ended, room_unchanged}
use Rattle.request_room.proofs.rooms.Room.hit.Goals as goal

pub invariant_of-self-in-Err : goal.invariant_of-self-in-Err
unfolding event_facts
invariant_of-self-in-Err c =
    let room = c.self.inside in
    let outcome : hit_outcome (room_after room.events.items) c.args.w c.args.moment c.args.settlement
    ≡ Err c.in-Err.refused =
    ap (λ events. hit_outcome (room_after events) c.args.w c.args.moment c.args.settlement)
    c.self.view_is
    ∙ sym (c.settled-outcome.ensures
    ∙ ap (λ refusal. hit_settled refusal c.args.settlement c.award_of.result) c.hit_refusal.ensures
    ∙ ap (hit_settled (hit_refusal (room_after c.args.self.now) c.args.w c.args.moment)
    c.args.settlement) c.award_of.ensures)
    ∙ c.in-Err.is in
    rw (c.in_ok-push.ensures.items, c.in_ok-reserve.ensures.items)
    (room_unchanged room.events.items c.self.invariant
    (event.Hit c.args.w c.args.moment c.args.settlement)
    (ap (λ became. end_by became c.args.moment) outcome))

pub invariant_of-self-2 : goal.invariant_of-self-2
unfolding event_facts
invariant_of-self-2 c =
    let room = c.self.inside in
    let outcome : hit_outcome (room_after room.events.items) c.args.w c.args.moment c.args.settlement
    ≡ Ok c.in-Ok.award =
    ap (λ events. hit_outcome (room_after events) c.args.w c.args.moment c.args.settlement)
    c.self.view_is
    ∙ sym (c.settled-outcome.ensures
    ∙ ap (λ refusal. hit_settled refusal c.args.settlement c.award_of.result) c.hit_refusal.ensures
    ∙ ap (hit_settled (hit_refusal (room_after c.args.self.now) c.args.w c.args.moment)
    c.args.settlement) c.award_of.ensures)
    ∙ c.in-Ok.is in
    rw (c.in_ok-push.ensures.items, c.in_ok-reserve.ensures.items)
    (room_ended room.events.items c.self.invariant
    (event.Hit c.args.w c.args.moment c.args.settlement) c.in-Ok.award c.args.moment
    (ap (λ became. end_by became c.args.moment) outcome))
