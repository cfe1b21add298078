use Rattle.step_replay.proofs.Common.{◌≡◌, ◌∷◌, [], subst, sym, deref, rest_more, RoomRef}
use Rattle.step_replay.proofs.Common.{live_messages}
use Rattle.std.proofs.lemmas.Map.Iter.{rest_all}
use Rattle.step_replay.proofs.SweptLemmas.{room_known, sweeps_begin, sweeps_end, sweeps_next}
use Rattle.step_replay.proofs.live.LiveVenue.sweep.Goals as goal

pub loop-room-init : goal.loop-room-init
loop-room-init c = record {
  can_next = tt;
  is_finite = tt;
  swept = λ config steps is_at.
      rw (c.new-told.ensures.items, c.into_iter-room-iterator.ensures.into_iter_gives.0)
      (sweeps_begin config steps c.args.moment c.args.self.now c.in_ok-due.due is_at
      c.in_ok-due.ensures);
}

pub loop-room-preserved : goal.loop-room-preserved
loop-room-preserved c = record {
  can_next = tt;
  is_finite = tt;
  swept = λ config steps is_at.
      let room : RoomRef = c.in-Some.room.now in
      let left : c.loop-room.room-iterator ≡ room ∷ c.next.new.self =
      rest_more deref c.loop-room.room-iterator c.next.new.self c.next.result c.in-Some.room
      c.in-Some.is c.next.ensures.steps in
      let had = rw left at (c.loop-room.invariant.swept config steps is_at) in
      sweeps_next config c.args.moment _ _ c.loop-room.self _ room c.next.new.self c.send_all.new.venue
      _ had (c.in_ok-send_all.ensures config had.trail (live_messages config steps)
      (room_known config c.args.moment _ _ c.loop-room.self _ room c.next.new.self had) had.stands
      had.told_is);
}

pub returns : goal.returns
returns c config steps is_at =
    let none : c.loop-room.room-iterator ≡ [] =
    rest_all deref c.loop-room.room-iterator c.next.new.self c.next.result c.in-None.is
    c.next.ensures.steps in
    sweeps_end config steps c.args.moment _ c.loop-room.self c.loop-room.told.items
    (rw none at (c.loop-room.invariant.swept config steps is_at))
