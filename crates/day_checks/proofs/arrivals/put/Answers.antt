use Rattle.std.proofs.Common.{rules, ◌≡◌, ◌∙◌, ◌∷◌, ◌++◌, [], ap, unwrap_or}
use Rattle.std.specs.BTreeMap.{get}
use Rattle.std.specs.BTreeMap.Entry.{map_with_value}
use Rattle.day_checks.specs.Arrivals.{where_same}
use Rattle.market_terms.specs.Rooms.{is_same_room}
use Rattle.day_checks.specs.NextItems.{with_next}
use Rattle.day_checks.specs.SweptRooms.{list_of}
use Rattle.day_checks.specs.ToldRooms.{room_cmp}
use Rattle.day_checks.proofs.ArrivalLemmas.{where_own}
use Rattle.day_checks.proofs.SweptLemmas.{list_under, put_under}
use Rattle.day_checks.proofs.arrivals.put.Goals as goal

-- it stands behind the rest under its room
pub returns : goal.returns
returns c =
    let was = c.args.by_room.now in
    let from = c.args.from in
    let what = c.args.what in
    let list = c.push.new.self in
    let entry = c.in_ok-by_room.field-0 in
    let found : c.or_insert-list.result.now
    ≡ unwrap_or (get room_cmp was from) c.new.result = search rules in
    let more : list.items ≡ list_of was from ++ what ∷ [] =
    c.in_ok-push.ensures.items
    ∙ ap (λ items. items ++ what ∷ []) (ap (λ own. own.items) found
    ∙ list_under (get room_cmp was from) c.new.result c.new.ensures.items) in
    let put = put_under was (map_with_value entry list) from what list
    (c.in_ok-by_room.ensures.update.0 list).0 more in
    λ room.
    let own : list_of (map_with_value entry list) room
    ≡ with_next (list_of was room) (where_same room from what) =
    put room ∙ where_own (list_of was room) what (is_same_room room from) in
    search (rules, own)
