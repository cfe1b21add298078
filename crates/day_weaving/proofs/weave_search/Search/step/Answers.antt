use Rattle.std.proofs.Common.{◌≡◌, ◌<◌, ◌-◌, None, Some, arith, length, slice_get, subst, sym, ◌∙◌}
use Rattle.day_weaving.specs.DayOrder.{IsCycle}
use Rattle.day_weaving.specs.OrderSearch.{IsLeftBefore, index_in}
use Rattle.recorded_days.specs.Records.{ActionRef}
use Rattle.day_weaving.proofs.MarkLemmas.{inside}
use Rattle.day_weaving.proofs.WaySteps.{first_pushed, last_is, later_pushed, top_is, top_placed}
use Rattle.day_weaving.proofs.WaySteps.{top_slot, way_cycle, way_within}
use Rattle.day_weaving.proofs.weave_search.Search.step.Goals as goal

pub returns-in_default-clause-stands : goal.returns-in_default-clause-stands
returns-in_default-clause-stands c =
    let state = c.args.self.now in
    let empty : slice_get state.way.items (length state.way.items - 1) ≡ None =
    last_is _ _ _ _ _ c.in_default.is c.copied.ensures c.last.ensures.value
    c.deref.ensures.value in
    (first_pushed c.args.day.now c.args.table.now state c.push.new.self c.args.action
    c.requires.table c.requires.stands c.requires.is_action c.requires.left empty
    c.in_ok-push.ensures).0

pub returns-in_default-clause-less : goal.returns-in_default-clause-less
returns-in_default-clause-less c =
    let state = c.args.self.now in
    let empty : slice_get state.way.items (length state.way.items - 1) ≡ None =
    last_is _ _ _ _ _ c.in_default.is c.copied.ensures c.last.ensures.value
    c.deref.ensures.value in
    (first_pushed c.args.day.now c.args.table.now state c.push.new.self c.args.action
    c.requires.table c.requires.stands c.requires.is_action c.requires.left empty
    c.in_ok-push.ensures).1

pub index_of-requires : goal.index_of-requires
index_of-requires c =
    let state = c.args.self.now in
    let at_top : slice_get state.way.items (length state.way.items - 1) ≡ Some c.in-Some.top =
    last_is _ _ _ _ _ c.in-Some.is c.copied.ensures c.last.ensures.value c.deref.ensures.value in
    inside c.args.day.now c.args.table.now c.in-Some.top c.requires.table
    (top_is c.args.day.now c.args.table.now state c.in-Some.top c.requires.stands at_top)

pub index-requires : goal.index-requires
index-requires c =
    let state = c.args.self.now in
    let table = c.args.table.now in
    let at_top : slice_get state.way.items (length state.way.items - 1) ≡ Some c.in-Some.top =
    last_is _ _ _ _ _ c.in-Some.is c.copied.ensures c.last.ensures.value c.deref.ensures.value in
    let within : index_in table.firsts c.in-Some.top < length table.slots.items =
    inside c.args.day.now table c.in-Some.top c.requires.table
    (top_is c.args.day.now table state c.in-Some.top c.requires.stands at_top) in
    omega (arith, within, c.index_of.ensures, table.slots.ok.0)

pub left_before-requires-clause-slot : goal.left_before-requires-clause-slot
left_before-requires-clause-slot c =
    let state = c.args.self.now in
    let at_top : slice_get state.way.items (length state.way.items - 1) ≡ Some c.in-Some.top =
    last_is _ _ _ _ _ c.in-Some.is c.copied.ensures c.last.ensures.value c.deref.ensures.value in
    (top_slot c.args.day.now c.args.table.now c.in-Some.top c.index.result.now c.index_of.result
    c.requires.table
    (top_is c.args.day.now c.args.table.now state c.in-Some.top c.requires.stands at_top)
    c.index_of.ensures c.index.ensures).0

pub place-requires-clause-within : goal.place-requires-clause-within
place-requires-clause-within c =
    let state = c.args.self.now in
    let at_top : slice_get state.way.items (length state.way.items - 1) ≡ Some c.in-Some.top =
    last_is _ _ _ _ _ c.in-Some.is c.copied.ensures c.last.ensures.value c.deref.ensures.value in
    let slot =
    top_slot c.args.day.now c.args.table.now c.in-Some.top c.index.result.now c.index_of.result
    c.requires.table
    (top_is c.args.day.now c.args.table.now state c.in-Some.top c.requires.stands at_top)
    c.index_of.ensures c.index.ensures in
    inside c.args.day.now c.args.table.now c.index.result.now.action c.requires.table
    slot.0.is_action

pub returns-in_default-left_before-clause-stands :
    goal.returns-in_default-left_before-clause-stands
returns-in_default-left_before-clause-stands c =
    let state = c.args.self.now in
    let at_top : slice_get state.way.items (length state.way.items - 1) ≡ Some c.in-Some.top =
    last_is _ _ _ _ _ c.in-Some.is c.copied.ensures c.last.ensures.value c.deref.ensures.value in
    let slot =
    top_slot c.args.day.now c.args.table.now c.in-Some.top c.index.result.now c.index_of.result
    c.requires.table
    (top_is c.args.day.now c.args.table.now state c.in-Some.top c.requires.stands at_top)
    c.index_of.ensures c.index.ensures in
    (top_placed c.args.day.now c.args.table.now state c.place.new.self c.in-Some.top
    c.index.result.now c.requires.table c.requires.stands at_top slot.0 slot.1
    c.in_default-left_before.ensures.none c.in_ok-place.ensures).0

pub returns-in_default-left_before-clause-less : goal.returns-in_default-left_before-clause-less
returns-in_default-left_before-clause-less c =
    let state = c.args.self.now in
    let at_top : slice_get state.way.items (length state.way.items - 1) ≡ Some c.in-Some.top =
    last_is _ _ _ _ _ c.in-Some.is c.copied.ensures c.last.ensures.value c.deref.ensures.value in
    let slot =
    top_slot c.args.day.now c.args.table.now c.in-Some.top c.index.result.now c.index_of.result
    c.requires.table
    (top_is c.args.day.now c.args.table.now state c.in-Some.top c.requires.stands at_top)
    c.index_of.ensures c.index.ensures in
    (top_placed c.args.day.now c.args.table.now state c.place.new.self c.in-Some.top
    c.index.result.now c.requires.table c.requires.stands at_top slot.0 slot.1
    c.in_default-left_before.ensures.none c.in_ok-place.ensures).1.0

pub returns-in_default-left_before-clause-grows : goal.returns-in_default-left_before-clause-grows
returns-in_default-left_before-clause-grows c =
    let state = c.args.self.now in
    let at_top : slice_get state.way.items (length state.way.items - 1) ≡ Some c.in-Some.top =
    last_is _ _ _ _ _ c.in-Some.is c.copied.ensures c.last.ensures.value c.deref.ensures.value in
    let slot =
    top_slot c.args.day.now c.args.table.now c.in-Some.top c.index.result.now c.index_of.result
    c.requires.table
    (top_is c.args.day.now c.args.table.now state c.in-Some.top c.requires.stands at_top)
    c.index_of.ensures c.index.ensures in
    (top_placed c.args.day.now c.args.table.now state c.place.new.self c.in-Some.top
    c.index.result.now c.requires.table c.requires.stands at_top slot.0 slot.1
    c.in_default-left_before.ensures.none c.in_ok-place.ensures).1.1

pub place_of-requires-clause-within : goal.place_of-requires-clause-within
place_of-requires-clause-within c =
    inside c.args.day.now c.args.table.now c.in-Some-left_before.earlier c.requires.table
    c.in-Some-left_before.ensures.some.is_action

pub way_from-requires : goal.way_from-requires
way_from-requires c =
    way_within c.args.day.now c.args.table.now c.args.self.now c.in-Some-left_before.earlier
    c.in-Some-place_of.start c.requires.stands c.in-Some-left_before.ensures.some.is_action
    (sym c.in-Some-place_of.is ∙ c.place_of.ensures)

pub returns-in-Some-place_of-clause-cycle : goal.returns-in-Some-place_of-clause-cycle
returns-in-Some-place_of-clause-cycle c =
    let day = c.args.day.now in
    let state = c.args.self.now in
    let earlier = c.in-Some-left_before.earlier in
    let at_top : slice_get state.way.items (length state.way.items - 1) ≡ Some c.in-Some.top =
    last_is _ _ _ _ _ c.in-Some.is c.copied.ensures c.last.ensures.value c.deref.ensures.value in
    let slot =
    top_slot day c.args.table.now c.in-Some.top c.index.result.now c.index_of.result
    c.requires.table (top_is day c.args.table.now state c.in-Some.top c.requires.stands at_top)
    c.index_of.ensures c.index.ensures in
    subst (IsCycle day) (sym c.in_ok-cycle.ensures)
    (way_cycle day c.args.table.now state earlier c.in-Some.top c.in-Some-place_of.start
    c.requires.stands at_top
    (subst (λ (top : ActionRef). IsLeftBefore day state.done earlier top) slot.1
    c.in-Some-left_before.ensures.some)
    (sym c.in-Some-place_of.is ∙ c.place_of.ensures))

pub push-requires-2-clause-within : goal.push-requires-2-clause-within
push-requires-2-clause-within c =
    inside c.args.day.now c.args.table.now c.in-Some-left_before.earlier c.requires.table
    c.in-Some-left_before.ensures.some.is_action

pub returns-clause-stands : goal.returns-clause-stands
returns-clause-stands c =
    let day = c.args.day.now in
    let state = c.args.self.now in
    let earlier = c.in-Some-left_before.earlier in
    let at_top : slice_get state.way.items (length state.way.items - 1) ≡ Some c.in-Some.top =
    last_is _ _ _ _ _ c.in-Some.is c.copied.ensures c.last.ensures.value c.deref.ensures.value in
    let slot =
    top_slot day c.args.table.now c.in-Some.top c.index.result.now c.index_of.result
    c.requires.table (top_is day c.args.table.now state c.in-Some.top c.requires.stands at_top)
    c.index_of.ensures c.index.ensures in
    (later_pushed day c.args.table.now state c.push-2.new.self earlier c.in-Some.top
    c.requires.table c.requires.stands at_top
    (subst (λ (top : ActionRef). IsLeftBefore day state.done earlier top) slot.1
    c.in-Some-left_before.ensures.some)
    (sym c.in_default-place_of.is ∙ c.place_of.ensures) c.in_ok-push-2.ensures).0

pub returns-clause-less : goal.returns-clause-less
returns-clause-less c =
    let day = c.args.day.now in
    let state = c.args.self.now in
    let earlier = c.in-Some-left_before.earlier in
    let at_top : slice_get state.way.items (length state.way.items - 1) ≡ Some c.in-Some.top =
    last_is _ _ _ _ _ c.in-Some.is c.copied.ensures c.last.ensures.value c.deref.ensures.value in
    let slot =
    top_slot day c.args.table.now c.in-Some.top c.index.result.now c.index_of.result
    c.requires.table (top_is day c.args.table.now state c.in-Some.top c.requires.stands at_top)
    c.index_of.ensures c.index.ensures in
    (later_pushed day c.args.table.now state c.push-2.new.self earlier c.in-Some.top
    c.requires.table c.requires.stands at_top
    (subst (λ (top : ActionRef). IsLeftBefore day state.done earlier top) slot.1
    c.in-Some-left_before.ensures.some)
    (sym c.in_default-place_of.is ∙ c.place_of.ensures) c.in_ok-push-2.ensures).1
