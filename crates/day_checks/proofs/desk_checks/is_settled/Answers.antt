use Rattle.std.proofs.Common.{◌∙◌, ap}
use Rattle.std.specs.BTreeMap.{get}
use Rattle.day_checks.specs.ToldRooms.{is_settled_by, room_cmp}
use Rattle.day_checks.proofs.desk_checks.is_settled.Goals as goal

-- the room by its name, and how it ended for the dealer
pub returns : goal.returns
returns c =
    let told = get room_cmp c.args.by_room.now c.args.room.now.at in
    c.is_told_of.ensures
    ∙ ap (λ room. is_settled_by (get room_cmp c.args.by_room.now room) c.close_due.result)
    c.at.ensures
    ∙ ap (λ due. is_settled_by told due) c.close_due.ensures
