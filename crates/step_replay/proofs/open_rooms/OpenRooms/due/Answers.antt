use Rattle.step_replay.proofs.Common.{◌≡◌, true, false, nat_le, arith, nat_tests}
use Rattle.step_replay.proofs.OpenRoomLemmas.{due_next, due_stops, rest_sorted}
use Rattle.step_replay.proofs.open_rooms.OpenRooms.due.Goals as goal

pub returns-then-get : goal.returns-then-get
returns-then-get c =
    let value = c.get.ensures.value in
    let bound = c.get-in-loop-deadline.ensures.value in
    let test = c.if-get.true in
    let late : nat_le c.in-Some.field-0.now.0 c.args.moment ≡ false =
    grind (arith, nat_tests, value, bound, test) in
    record {
      ordered = c.loop-deadline.invariant.ordered;
      each = λ room. due_stops c.args.moment c.in-Some.field-0 c.loop-deadline.deadline-iterator
          c.next.new.self c.next.result c.in-Some.is c.next.ensures.steps
          c.loop-deadline.invariant.left_ordered room _ _ (c.loop-deadline.invariant.each room) late;
    }

pub loop-deadline-preserved : goal.loop-deadline-preserved
loop-deadline-preserved c =
    let value = c.get.ensures.value in
    let bound = c.get-in-loop-deadline.ensures.value in
    let test = c.if-get.false in
    let come : nat_le c.in-Some.field-0.now.0 c.args.moment ≡ true =
    grind (arith, nat_tests, value, bound, test) in
    record {
      can_next = tt;
      is_finite = tt;
      ordered = c.in_ok-insert.ensures.ordered;
      left_ordered = rest_sorted c.args.moment c.in-Some.field-0 c.loop-deadline.deadline-iterator
          c.next.new.self c.next.result c.in-Some.is c.next.ensures.steps
          c.loop-deadline.invariant.left_ordered;
      each = λ room. due_next c.args.moment c.in-Some.field-0 c.loop-deadline.deadline-iterator
          c.next.new.self c.next.result c.in-Some.is c.next.ensures.steps
          c.loop-deadline.invariant.left_ordered room _ _ (c.loop-deadline.invariant.each room) _
          come (c.in_ok-insert.ensures.updates.0 room);
    }
