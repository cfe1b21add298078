use Rattle.step_replay.proofs.Common.{sym}
use Rattle.step_replay.proofs.FoundDealers.{idle_does}
use Rattle.step_replay.proofs.RoomPlaceLemmas.{found_by_code, no_room}
use Rattle.step_replay.proofs.RoomActionLemmas.{none_gets, room_does}
use Rattle.step_replay.proofs.floor.Floor.to_room.Goals as goal

pub returns-in_default : goal.returns-in_default
returns-in_default c config facts stands one =
    idle_does config facts c.args.self.now _ _ stands c.nothing.ensures
    (none_gets config facts c.args.room
    (no_room config facts c.args.self.now c.args.room stands (sym c.in_default.ensures)) c.args.what)

pub returns : goal.returns
returns c config facts stands one =
    let found = found_by_code config facts c.args.self.now c.args.room c.in-Some.investor
    c.in-Some.index c.index_mut.result.now c.index_mut-place.result.now stands
    c.in-Some.ensures c.index_mut.ensures.value c.index_mut-place.ensures.value in
    room_does stands found c.args.what c.bring_to_room.new.room c.in_ok-duties.duties.items
    c.in_ok-duties.ensures.ok c.in_ok-duties.ensures.duties
