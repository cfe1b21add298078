use Rattle.step_replay.proofs.Common.{◌∙◌, ap, arith, sym, true, false, nat_tests, deadline_of}
use Rattle.step_replay.proofs.OpenRoomLemmas.{with_room}
use Rattle.step_replay.proofs.RoomPlaceLemmas.{found_by_code, investor_inside, no_room, room_inside}
use Rattle.step_replay.proofs.deadlines.deadline_at.Goals as goal

pub returns-in_default : goal.returns-in_default
returns-in_default c config facts stands =
    let room = c.args.room in
    sym (with_room config facts false room
    (no_room config facts c.args.floor.now room stands (sym c.in_default.ensures)))

pub index-requires : goal.index-requires
index-requires c =
    let inside = investor_inside c.args.floor.now c.args.room c.in-Some.investor c.in-Some.index
    c.in-Some.ensures in
    grind (arith, nat_tests, inside)

pub index-requires-2 : goal.index-requires-2
index-requires-2 c =
    let inside = room_inside c.args.floor.now c.args.room c.in-Some.investor c.in-Some.index
    c.index.result.now c.in-Some.ensures c.index.ensures in
    grind (arith, nat_tests, inside)

pub returns : goal.returns
returns c config facts stands =
    let found = found_by_code config facts c.args.floor.now c.args.room c.in-Some.investor
    c.in-Some.index c.index.result.now c.index-2.result.now stands c.in-Some.ensures
    c.index.ensures c.index-2.ensures in
    c.deadline_of.ensures ∙ ap deadline_of found.known
    ∙ sym (with_room config facts true c.args.room found.has)
