use Rattle.std.proofs.Common.{rules, ◌≡◌, ◌∙◌, ◌∷◌, ◌++◌, [], ap, unwrap_or}
use Rattle.std.specs.BTreeMap.{get}
use Rattle.std.specs.BTreeMap.Entry.{map_with_value}
use Rattle.day_checks.specs.SweptRooms.{list_of}
use Rattle.day_checks.specs.ToldRooms.{room_cmp}
use Rattle.day_checks.proofs.SweptLemmas.{list_under, put_under}
use Rattle.day_checks.proofs.swept_rooms.put_sweep.Goals as goal

-- the moment stands behind the others under its room
pub returns : goal.returns
returns c =
    let was = c.args.by_room.now in
    let sweep = c.args.sweep in
    let times = c.push.new.self in
    let entry = c.in_ok-by_room.field-0 in
    let found : c.or_insert-times.result.now
    ≡ unwrap_or (get room_cmp was sweep.room) c.new.result = search rules in
    let more : times.items ≡ list_of was sweep.room ++ sweep.moment ∷ [] =
    c.in_ok-push.ensures.items
    ∙ ap (λ items. items ++ sweep.moment ∷ []) (ap (λ own. own.items) found
    ∙ list_under (get room_cmp was sweep.room) c.new.result c.new.ensures.items) in
    let put = put_under was (map_with_value entry times) sweep.room sweep.moment times
    (c.in_ok-by_room.ensures.update.0 times).0 more in
    λ room. search (rules, put room)
