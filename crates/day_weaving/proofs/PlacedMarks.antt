-- The last action of the way is placed: the marks and the way then.
use Rattle.std.proofs.Common.{◌≡◌, ◌<◌, ◌≤◌, ℕ, ◌+◌, ◌-◌, ◌⊎◌, inl, inr, List, length, slice_get}
use Rattle.std.proofs.Common.{Some, arith, refl, sym, ap, subst, ◌∙◌}
use Rattle.std.proofs.lemmas.List.{length-set}
use Rattle.std.proofs.lemmas.Option.{slice_get_within}
use Rattle.std.proofs.lemmas.Bool.{cases_eq}
use Rattle.venue_steps.specs.declared.actors.Actor.{Actor}
use Rattle.day_weaving.specs.DayOrder.{IsDirectlyBefore}
use Rattle.day_weaving.specs.OrderCounts.{count_in, key_of}
use Rattle.day_weaving.specs.OrderSearch.{HasCome, IsAction, IsLeft, IsOnWay, IsReady, IsSlot}
use Rattle.day_weaving.specs.OrderSearch.{IsTable, Places, Stands, index_in, mark_of, steps_left}
use Rattle.recorded_days.specs.Records.{ActionRef, RecordedDay}
use Rattle.day_weaving.specs.declared.weave_plan.Slot.{Slot}
use Rattle.day_weaving.specs.declared.weave_search.Mark.TheVariants as mark
use Rattle.day_weaving.specs.declared.weave_search.Search.{Search}
use Rattle.day_weaving.specs.declared.weave_table.Table.{Table}
use Rattle.day_weaving.proofs.PlaceNotes.{key_apart}
use Rattle.day_weaving.proofs.ListPlaces.{got_take, take_got}
use Rattle.day_weaving.proofs.MarkLemmas.{one_place, less_or_not, mark_here, mark_else, less_by}
use Rattle.day_weaving.proofs.PlaceLemmas.{on_it, next_number, same_key_or_not, come_stays}
use Rattle.day_weaving.proofs.PlaceLemmas.{slot_come, placed_order}

module _ (day : RecordedDay) (table : Table) (before after : Search) (slot : Slot)
    (whole : IsTable day table) (stands : Stands day table before) (is_slot : IsSlot day slot)
    (top : slice_get before.way.items (length before.way.items - 1) ≡ Some slot.action)
    (ready : IsReady day before.done slot) (places : Places table before after slot) where
  -- the marks and the way

  place_within : index_in table.firsts slot.action < length before.marks.items
  place_within =
      slice_get_within before.marks.items (index_in table.firsts slot.action)
      (mark.OnWay (length before.way.items - 1)) (on_it day table before after slot whole stands
      is_slot top ready places).mark_is

  placed_here : (action : ActionRef)
      → index_in table.firsts slot.action ≡ index_in table.firsts action
      → mark_of table after.marks.items action ≡ Some mark.Placed
  placed_here action same =
      mark_here table before.marks.items after.marks.items slot.action mark.Placed places.marks_are
      action place_within same

  placed_else : (action : ActionRef)
      → (index_in table.firsts slot.action ≡ index_in table.firsts action → ⊥)
      → mark_of table after.marks.items action ≡ mark_of table before.marks.items action
  placed_else action apart =
      mark_else table before.marks.items after.marks.items slot.action mark.Placed places.marks_are
      action apart

  same_place_or_not : (action : ActionRef)
      → (index_in table.firsts slot.action ≡ index_in table.firsts action)
      ⊎ (index_in table.firsts slot.action ≡ index_in table.firsts action → ⊥)
  same_place_or_not action =
      cases_eq (index_in table.firsts slot.action) (index_in table.firsts action)

  placed_placed : (action : ActionRef) → IsAction day action
      → mark_of table after.marks.items action ≡ Some mark.Placed → HasCome after.done action
  placed_placed action is marked = by_place (same_place_or_not action)
    where
      by_place : (index_in table.firsts slot.action ≡ index_in table.firsts action)
          ⊎ (index_in table.firsts slot.action ≡ index_in table.firsts action → ⊥)
          → HasCome after.done action
      by_place (inl same) =
          subst (HasCome after.done)
          (one_place day table slot.action action whole is_slot.is_action is same) (slot_come day
          table before after slot whole stands is_slot top ready places)
      by_place (inr apart) =
          come_stays day table before after slot whole stands is_slot top ready places action
          (stands.placed action is (sym (placed_else action apart) ∙ marked))

  placed_marked : (action : ActionRef) (at : ℕ) → IsAction day action
      → mark_of table after.marks.items action ≡ Some (mark.OnWay at)
      → slice_get after.way.items at ≡ Some action
  placed_marked action at is marked = by_place (same_place_or_not action)
    where
      by_place : (index_in table.firsts slot.action ≡ index_in table.firsts action)
          ⊎ (index_in table.firsts slot.action ≡ index_in table.firsts action → ⊥)
          → slice_get after.way.items at ≡ Some action
      by_place (inl same) =
          let clash : Some mark.Placed ≡ Some (mark.OnWay at) =
          sym (placed_here action same) ∙ marked in
          absurd cc
      by_place (inr apart) =
          let was : slice_get before.way.items at ≡ Some action =
          stands.marked action at is (sym (placed_else action apart) ∙ marked) in
          let within : at < length before.way.items =
          slice_get_within before.way.items at action was in
          let not_top : at ≡ length before.way.items - 1 → ⊥ =
          λ same.
          let both : Some action ≡ Some slot.action =
          sym was ∙ ap (slice_get before.way.items) same ∙ top in
          let one : action ≡ slot.action = cc in
          apart (ap (index_in table.firsts) (sym one)) in
          let most : at ≤ length before.way.items - 1 = omega arith in
          let below : at < length before.way.items - 1 =
          less_or_not at (length before.way.items - 1) most not_top in
          ap (λ (way : List ActionRef). slice_get way at) places.way_is
          ∙ take_got (length before.way.items - 1) before.way.items at action below was

  placed_on_way : (at : ℕ) (action : ActionRef) → slice_get after.way.items at ≡ Some action
      → IsOnWay day table after at action
  placed_on_way at action there =
      let taken = got_take (length before.way.items - 1) before.way.items at action
      (sym (ap (λ (way : List ActionRef). slice_get way at) places.way_is) ∙ there) in
      let below : at < length before.way.items - 1 = taken.0 in
      let was = stands.on_way at action taken.1 in
      let apart : index_in table.firsts slot.action ≡ index_in table.firsts action → ⊥ =
      λ same.
      let both : Some (mark.OnWay (length before.way.items - 1)) ≡ Some (mark.OnWay at) =
      sym (on_it day table before after slot whole stands is_slot top ready places).mark_is ∙ ap
      (slice_get before.marks.items) same ∙ was.mark_is in
      let here : length before.way.items - 1 ≡ at = cc in
      omega (arith, here, below) in
      record {
        is_action = was.is_action;
        mark_is = placed_else action apart ∙ was.mark_is;
        left = by_key apart was.left (same_key_or_not day table before after slot whole stands
            is_slot top ready places (key_of action.0));
      }
    where
      by_key : (index_in table.firsts slot.action ≡ index_in table.firsts action → ⊥)
          → IsLeft before.done action
          → (key_of action.0 ≡ key_of slot.action.0) ⊎ (key_of action.0 ≡ key_of slot.action.0 → ⊥)
          → IsLeft after.done action
      by_key apart left (inl same) =
          let one : slot.action.0 ≡ action.0 = key_apart slot.action.0 action.0 (sym same) in
          let now : count_in after.done (key_of action.0) ≡ slot.action.1 =
          ap (count_in after.done) same ∙ places.done_is.set in
          let was : count_in before.done (key_of action.0)
          ≡ count_in before.done (key_of slot.action.0) = ap (count_in before.done) same in
          let other : slot.action.1 ≡ action.1 → ⊥ =
          λ equal.
          let pair : slot.action ≡ action =
          ap (λ (by : Actor). (by, slot.action.1)) one ∙ ap (λ (n : ℕ). (action.0, n)) equal in
          apart (ap (index_in table.firsts) pair) in
          let number : slot.action.1 ≡ count_in before.done (key_of slot.action.0) + 1 =
          next_number day table before after slot whole stands is_slot top ready places in
          let most : slot.action.1 ≤ action.1 = omega (arith, was, left, number) in
          let below : slot.action.1 < action.1 =
          less_or_not slot.action.1 action.1 most other in
          omega (arith, now, below)
      by_key apart left (inr differs) =
          let now : count_in after.done (key_of action.0)
          ≡ count_in before.done (key_of action.0) =
          places.done_is.others (key_of action.0) differs in
          omega (arith, now, left)

  placed_way : (at : ℕ) (later earlier : ActionRef) → slice_get after.way.items at ≡ Some later
      → slice_get after.way.items (at + 1) ≡ Some earlier → IsDirectlyBefore day earlier later
  placed_way at later earlier there there_too =
      stands.way at later earlier
      (got_take (length before.way.items - 1) before.way.items at later
      (sym (ap (λ (way : List ActionRef). slice_get way at) places.way_is) ∙ there)).1
      (got_take (length before.way.items - 1) before.way.items (at + 1) earlier
      (sym (ap (λ (way : List ActionRef). slice_get way (at + 1)) places.way_is) ∙ there_too)).1

  pub placed_stands : Stands day table after
  placed_stands = record {
    long = ap length places.marks_are
        ∙ length-set before.marks.items (index_in table.firsts slot.action) mark.Placed
        ∙ stands.long;
    order = placed_order day table before after slot whole stands is_slot top ready places;
    placed = placed_placed;
    marked = placed_marked;
    on_way = placed_on_way;
    way = placed_way;
  }

  pub placed_less : steps_left after + 1 ≡ steps_left before
  placed_less =
      less_by before.marks.items after.marks.items (index_in table.firsts slot.action)
      (mark.OnWay (length before.way.items - 1)) mark.Placed (on_it day table before after slot
      whole stands is_slot top ready places).mark_is places.marks_are refl
