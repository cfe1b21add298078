use Rattle.std.proofs.Common.{rules, ◌≡◌, ◌∷◌, ◌∙◌, sym, ap}
use Rattle.std.specs.BTreeMap.{get}
use Rattle.day_checks.specs.ShownRooms.{is_once_with}
use Rattle.day_checks.specs.ToldRooms.{room_cmp}
use Rattle.day_checks.proofs.ShownLemmas.{once_more}
use Rattle.day_checks.proofs.shown_rooms.shown_by_room.Goals as goal

-- one event more is looked at
pub loop-event-preserved : goal.loop-event-preserved
loop-event-preserved c =
    let event = c.in-Some.event.now in
    let later = c.in-Some.later.now in
    let first : c.loop-event.rest.now ≡ event ∷ later = search rules in record {
      same = λ room ask.
          ap (λ was. is_once_with was later room ask) (c.in_ok-put_shown.ensures room)
          ∙ once_more (get room_cmp c.loop-event.by_room room) event later room ask
          ∙ ap (λ rest. is_once_with (get room_cmp c.loop-event.by_room room) rest room ask)
          (sym first)
          ∙ c.loop-event.invariant.same room ask;
    }
