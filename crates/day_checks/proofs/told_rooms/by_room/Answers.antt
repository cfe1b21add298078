use Rattle.std.proofs.Common.{rules, ◌≡◌, ◌∷◌, ◌∙◌, sym, ap}
use Rattle.std.specs.BTreeMap.{get}
use Rattle.day_checks.specs.ToldRooms.{is_once_with, room_cmp}
use Rattle.day_checks.proofs.ToldLemmas.{once_more}
use Rattle.day_checks.proofs.told_rooms.by_room.Goals as goal

-- one notice more is put under its room
pub loop-notice-preserved : goal.loop-notice-preserved
loop-notice-preserved c =
    let notice = c.in-Some.notice.now in
    let later = c.in-Some.later.now in
    let first : c.loop-notice.rest.now ≡ notice ∷ later = search rules in record {
      same = λ room close.
          ap (λ was. is_once_with was later room close) (c.in_ok-put_notice.ensures room)
          ∙ once_more (get room_cmp c.loop-notice.by_room room) notice later room close
          ∙ ap (λ rest. is_once_with (get room_cmp c.loop-notice.by_room room) rest room close)
          (sym first)
          ∙ c.loop-notice.invariant.same room close;
    }
