-- A step of the search: what it finds at the end of the way.
use Rattle.std.proofs.Common.{◌≡◌, ◌<◌, ◌≤◌, ℕ, ◌+◌, ◌-◌, List, length, drop, slice_get}
use Rattle.std.proofs.Common.{slice_index_or, Option, Some, None, arith, refl, sym, ap, subst, ◌∙◌}
use Rattle.std.specs.Prelude.{option_and_then}
use Rattle.std.proofs.lemmas.Option.{slice_get_read, slice_get_within}
use Rattle.day_weaving.specs.DayOrder.{IsCycle, IsDirectlyBefore}
use Rattle.day_weaving.specs.OrderSearch.{Grows, IsAction, IsLeft, IsLeftBefore, IsReady, IsSlot}
use Rattle.day_weaving.specs.OrderSearch.{IsTable, Places, Pushes, Stands, index_in, mark_of}
use Rattle.day_weaving.specs.OrderSearch.{place_on, steps_left}
use Rattle.recorded_days.specs.Records.{ActionRef, RecordedDay}
use Rattle.day_weaving.specs.declared.weave_plan.Slot.{Slot}
use Rattle.day_weaving.specs.declared.weave_search.Mark.TheVariants as mark
use Rattle.day_weaving.specs.declared.weave_search.Search.{Search}
use Rattle.day_weaving.specs.declared.weave_table.Table.{Table}
use Rattle.day_weaving.proofs.MarkLemmas.{inside}
use Rattle.day_weaving.proofs.PlaceLemmas.{placed_grows}
use Rattle.day_weaving.proofs.PlacedMarks.{placed_less, placed_stands}
use Rattle.day_weaving.proofs.PushLemmas.{pushed_less, pushed_stands}
use Rattle.day_weaving.proofs.WayLemmas.{comes_round, fresh, first_fresh, stands_on_way, slot_of}

-- A step.

-- the last of the way, as it is read
pub last_is : (way seen : List ActionRef) (told read found : Option ActionRef) → told ≡ found
    → told ≡ read → read ≡ slice_get seen (length seen - 1) → seen ≡ way
    → slice_get way (length way - 1) ≡ found
last_is way seen told read found is told_is read_is seen_is =
    sym (ap (λ (list : List ActionRef). slice_get list (length list - 1)) seen_is)
    ∙ sym read_is ∙ sym told_is ∙ is

-- an action comes onto a way on which nothing stands
pub first_pushed : (day : RecordedDay) (table : Table) (state after : Search) (action : ActionRef)
    → IsTable day table → Stands day table state → IsAction day action → IsLeft state.done action
    → slice_get state.way.items (length state.way.items - 1) ≡ None
    → Pushes table state after action
    → (Stands day table after) × (steps_left after + 1 ≡ steps_left state)
first_pushed day table state after action whole stands is left empty pushes = (
  pushed_stands day table state after action whole stands is left new none_last pushes,
  pushed_less day table state after action whole stands is left new none_last pushes,
)
  where
    new : mark_of table state.marks.items action ≡ Some mark.New
    new = first_fresh day table state action whole stands is left empty

    none_last : (last : ActionRef)
        → slice_get state.way.items (length state.way.items - 1) ≡ Some last
        → IsDirectlyBefore day action last
    none_last last there =
        let clash : None ≡ Some last = sym empty ∙ there in
        absurd cc

-- one that is left comes onto it, directly before the last
pub later_pushed : (day : RecordedDay) (table : Table) (state after : Search) (one top : ActionRef)
    → IsTable day table → Stands day table state
    → slice_get state.way.items (length state.way.items - 1) ≡ Some top
    → IsLeftBefore day state.done one top
    → None ≡ option_and_then place_on (mark_of table state.marks.items one)
    → Pushes table state after one
    → (Stands day table after) × (steps_left after + 1 ≡ steps_left state)
later_pushed day table state after one top whole stands at_top before none pushes = (
  pushed_stands day table state after one whole stands before.is_action before.left new behind
      pushes,
  pushed_less day table state after one whole stands before.is_action before.left new behind
      pushes,
)
  where
    new : mark_of table state.marks.items one ≡ Some mark.New
    new = fresh day table state one whole stands before.is_action before.left none

    behind : (last : ActionRef)
        → slice_get state.way.items (length state.way.items - 1) ≡ Some last
        → IsDirectlyBefore day one last
    behind last there =
        let both : Some last ≡ Some top = sym there ∙ at_top in
        let same : last ≡ top = cc in
        subst (λ (a : ActionRef). IsDirectlyBefore day one a) (sym same) before.before

-- the last of the way stands in the table
pub top_is : (day : RecordedDay) (table : Table) (state : Search) (top : ActionRef)
    → Stands day table state
    → slice_get state.way.items (length state.way.items - 1) ≡ Some top → IsAction day top
top_is day table state top stands at_top =
    (stands.on_way (length state.way.items - 1) top at_top).is_action

-- and what is read there is its slot
pub top_slot : (day : RecordedDay) (table : Table) (top : ActionRef) (slot : Slot) (index : ℕ)
    → IsTable day table → IsAction day top → index ≡ index_in table.firsts top
    → slot ≡ slice_index_or table.slots.items index slot
    → (IsSlot day slot) × (slot.action ≡ top)
top_slot day table top slot index whole is place read = (
  whole.built.right index slot there,
  slot_of day table top slot whole is (ap (slice_get table.slots.items) (sym place) ∙ there),
)
  where
    within : index < length table.slots.items
    within =
        subst (λ (n : ℕ). n < length table.slots.items) (sym place) (inside day table top whole is)

    there : slice_get table.slots.items index ≡ Some slot
    there =
        slice_get_read table.slots.items (length table.slots.items) index slot refl within read

-- the last of the way comes into the order
pub top_placed : (day : RecordedDay) (table : Table) (state after : Search) (top : ActionRef)
    (slot : Slot) → IsTable day table → Stands day table state
    → slice_get state.way.items (length state.way.items - 1) ≡ Some top → IsSlot day slot
    → slot.action ≡ top → IsReady day state.done slot → Places table state after slot
    → (Stands day table after)
    × ((steps_left after + 1 ≡ steps_left state) × Grows state.done after.done)
top_placed day table state after top slot whole stands at_top is_slot same ready places = (
  placed_stands day table state after slot whole stands is_slot at_slot ready places,
  (
    placed_less day table state after slot whole stands is_slot at_slot ready places,
    placed_grows day table state after slot whole stands is_slot at_slot ready places,
  ),
)
  where
    at_slot : slice_get state.way.items (length state.way.items - 1) ≡ Some slot.action
    at_slot = at_top ∙ ap (λ (a : ActionRef). Some a) (sym same)

-- one that stands on the way already is directly before the last
pub way_within : (day : RecordedDay) (table : Table) (state : Search) (one : ActionRef) (start : ℕ)
    → Stands day table state → IsAction day one
    → Some start ≡ option_and_then place_on (mark_of table state.marks.items one)
    → start ≤ length state.way.items
way_within day table state one start stands is found =
    let within : start < length state.way.items =
    slice_get_within state.way.items start one
    (stands_on_way day table state one start stands is found) in
    omega arith

pub way_cycle : (day : RecordedDay) (table : Table) (state : Search) (one top : ActionRef)
    (start : ℕ) → Stands day table state
    → slice_get state.way.items (length state.way.items - 1) ≡ Some top
    → IsLeftBefore day state.done one top
    → Some start ≡ option_and_then place_on (mark_of table state.marks.items one)
    → IsCycle day (drop start state.way.items)
way_cycle day table state one top start stands at_top before found =
    comes_round day state.way.items start one top
    (stands_on_way day table state one start stands before.is_action found) at_top before.before
    stands.way

-- what is read at a place is what stands there
pub same_slot : (slots : List Slot) (index : ℕ) (one slot : Slot) → index < length slots
    → one ≡ slice_index_or slots index one → slice_get slots index ≡ Some slot → one ≡ slot
same_slot slots index one slot within read there =
    let both : Some one ≡ Some slot =
    sym (slice_get_read slots (length slots) index one refl within read) ∙ there in
    cc
