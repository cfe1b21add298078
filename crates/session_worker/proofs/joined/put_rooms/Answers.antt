use Rattle.std.proofs.Common.{◌≡◌, sym, ap, subst, suc, length, arith}
use Rattle.std.specs.Vec.Iter.{into_iter_items}
use Rattle.quote_word.specs.SettleLogLaws.{begins_all}
use Rattle.day_checks.specs.DayChecks.{DayRoom}
use Rattle.day_checks.specs.KeptDays.{RoomStands, RoomsStand}
use Rattle.session_worker.proofs.FaultLemmas.{room_among, same_fault}
use Rattle.day_checks.proofs.KeptLemmas.{room_later, rooms_later, rooms_stand_more}
use Rattle.day_checks.proofs.RoomLemmas.{names_pushed}
use Rattle.session_worker.proofs.joined.put_rooms.Goals as goal

-- one room more, by the number of its request
pub loop-room-preserved : goal.loop-room-preserved
loop-room-preserved g c =
    let rooms = c.loop-room.all.items in
    let room = c.in_ok-day.day in
    let log = c.loop-room.seen.log in
    let later = c.both-seen.result.log in
    let ours : c.both-seen.result.board ≡ g.J.Naming.board = search in
    let stands : RoomStands c.seen.result.log room =
    subst (RoomStands c.seen.result.log) (sym c.in_ok-day.ensures.room) c.seen.ensures.answers in
    let left : length (into_iter_items c.loop-room.room-iterator)
    ≡ suc (length (into_iter_items c.next.new.self)) = ap length c.in-Some.ensures.steps.0 in
    record {
      next = tt;
      ends = tt;
      ours = ours;
      legal = c.both-seen.ensures.legal;
      later = begins_all c.args.seen.log log later c.loop-room.invariant.later
          c.both-seen.ensures.first;
      stand = subst (RoomsStand later) (sym c.in_ok-push.ensures.items)
          (rooms_stand_more later rooms room
          (rooms_later log later c.both-seen.ensures.first rooms c.loop-room.invariant.stand)
          (room_later c.seen.result.log later c.both-seen.ensures.second room stands));
      counted = omega (arith, left, c.loop-room.invariant.counted);
      names = rw c.in_ok-push.ensures.items
          (names_pushed c.args.all.now.items rooms room c.args.investor c.loop-room.n
          c.loop-room.invariant.names (ap (λ (own : DayRoom). own.at) c.in_ok-day.ensures.room));
    }

-- the fault is a room of this investor
pub returns-in_err-day-clause-among : goal.returns-in_err-day-clause-among
returns-in_err-day-clause-among g c =
    let why = c.in_err-day.field-0.0 in
    same_fault _ c.from_residual.result why c.from_residual.ensures.1
    (room_among DayRoom why c.into_inner-locked.result.at _ c.args.investor
    c.in_err-day.ensures.other_room c.in_err-day.ensures.given)
