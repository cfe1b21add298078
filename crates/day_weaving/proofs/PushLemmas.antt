-- An action comes onto the way of the search for an order.
use Rattle.std.proofs.Common.{◌≡◌, ◌<◌, ℕ, ◌+◌, ◌-◌, ◌⊎◌, inl, inr, List, [], ◌∷◌, ◌++◌, length}
use Rattle.std.proofs.Common.{slice_get, Some, arith, refl, sym, ap, subst, ◌∙◌}
use Rattle.std.proofs.lemmas.List.{length-set}
use Rattle.std.proofs.lemmas.Option.{slice_get_within}
use Rattle.std.proofs.lemmas.Bool.{cases_eq}
use Rattle.day_weaving.specs.DayOrder.{IsDirectlyBefore}
use Rattle.day_weaving.specs.OrderCounts.{Counts}
use Rattle.day_weaving.specs.OrderSearch.{HasCome, HasOrder, IsAction, IsLeft, IsOnWay, IsTable}
use Rattle.day_weaving.specs.OrderSearch.{Pushes, Stands, index_in, mark_of, steps_left}
use Rattle.recorded_days.specs.Records.{ActionRef, RecordedDay}
use Rattle.day_weaving.specs.declared.weave_plan.Slot.{Slot}
use Rattle.day_weaving.specs.declared.weave_search.Mark.TheVariants as mark
use Rattle.day_weaving.specs.declared.weave_search.Search.{Search}
use Rattle.day_weaving.specs.declared.weave_table.Table.{Table}
use Rattle.day_weaving.proofs.ListPlaces.{got_end, got_push}
use Rattle.day_weaving.proofs.MarkLemmas.{one_place, mark_here, mark_else, less_by}
use Rattle.step_replay.specs.PlaceLemmas.{get_first}

-- An action comes onto the way.

module _ (day : RecordedDay) (table : Table) (before after : Search) (now : ActionRef)
    (whole : IsTable day table) (stands : Stands day table before) (is : IsAction day now)
    (left : IsLeft before.done now) (new : mark_of table before.marks.items now ≡ Some mark.New)
    (last_one : (last : ActionRef)
    → slice_get before.way.items (length before.way.items - 1) ≡ Some last
    → IsDirectlyBefore day now last)
    (pushes : Pushes table before after now) where
  push_within : index_in table.firsts now < length before.marks.items
  push_within =
      slice_get_within before.marks.items (index_in table.firsts now) mark.New new

  pushed_here : (action : ActionRef) → index_in table.firsts now ≡ index_in table.firsts action
      → mark_of table after.marks.items action ≡ Some (mark.OnWay (length before.way.items))
  pushed_here action same =
      mark_here table before.marks.items after.marks.items now
      (mark.OnWay (length before.way.items)) pushes.marks_are action push_within same

  pushed_else : (action : ActionRef)
      → (index_in table.firsts now ≡ index_in table.firsts action → ⊥)
      → mark_of table after.marks.items action ≡ mark_of table before.marks.items action
  pushed_else action apart =
      mark_else table before.marks.items after.marks.items now
      (mark.OnWay (length before.way.items)) pushes.marks_are action apart

  pushed_placed : (action : ActionRef) → IsAction day action
      → mark_of table after.marks.items action ≡ Some mark.Placed → HasCome after.done action
  pushed_placed action is_too marked =
      by_place (cases_eq (index_in table.firsts now) (index_in table.firsts action))
    where
      by_place : (index_in table.firsts now ≡ index_in table.firsts action)
          ⊎ (index_in table.firsts now ≡ index_in table.firsts action → ⊥)
          → HasCome after.done action
      by_place (inl same) =
          let clash : Some (mark.OnWay (length before.way.items)) ≡ Some mark.Placed =
          sym (pushed_here action same) ∙ marked in
          absurd cc
      by_place (inr apart) =
          subst (λ (done : Counts). HasCome done action) (sym pushes.done_is)
          (stands.placed action is_too (sym (pushed_else action apart) ∙ marked))

  pushed_marked : (action : ActionRef) (at : ℕ) → IsAction day action
      → mark_of table after.marks.items action ≡ Some (mark.OnWay at)
      → slice_get after.way.items at ≡ Some action
  pushed_marked action at is_too marked =
      by_place (cases_eq (index_in table.firsts now) (index_in table.firsts action))
    where
      by_place : (index_in table.firsts now ≡ index_in table.firsts action)
          ⊎ (index_in table.firsts now ≡ index_in table.firsts action → ⊥)
          → slice_get after.way.items at ≡ Some action
      by_place (inl same) =
          let one : now ≡ action = one_place day table now action whole is is_too same in
          let both : Some (mark.OnWay (length before.way.items)) ≡ Some (mark.OnWay at) =
          sym (pushed_here action same) ∙ marked in
          let here : length before.way.items ≡ at = cc in
          ap (λ (way : List ActionRef). slice_get way at) pushes.way_is
          ∙ ap (slice_get (before.way.items ++ now ∷ [])) (sym here)
          ∙ got_end before.way.items now ∙ ap (λ (a : ActionRef). Some a) one
      by_place (inr apart) =
          let was : slice_get before.way.items at ≡ Some action =
          stands.marked action at is_too (sym (pushed_else action apart) ∙ marked) in
          ap (λ (way : List ActionRef). slice_get way at) pushes.way_is
          ∙ get_first before.way.items (now ∷ []) at
          (slice_get_within before.way.items at action was) ∙ was

  pushed_on_way : (at : ℕ) (action : ActionRef) → slice_get after.way.items at ≡ Some action
      → IsOnWay day table after at action
  pushed_on_way at action there =
      by_end (got_push before.way.items now at action
      (sym (ap (λ (way : List ActionRef). slice_get way at) pushes.way_is) ∙ there))
    where
      by_end : (slice_get before.way.items at ≡ Some action)
          ⊎ ((at ≡ length before.way.items) × (action ≡ now)) → IsOnWay day table after at action
      by_end (inl was) =
          let on_it = stands.on_way at action was in
          let apart : index_in table.firsts now ≡ index_in table.firsts action → ⊥ =
          λ same.
          let clash : Some mark.New ≡ Some (mark.OnWay at) =
          sym new ∙ ap (slice_get before.marks.items) same ∙ on_it.mark_is in
          absurd cc in
          record {
            is_action = on_it.is_action;
            mark_is = pushed_else action apart ∙ on_it.mark_is;
            left = subst (λ (done : Counts). IsLeft done action) (sym pushes.done_is) on_it.left;
          }
      by_end (inr last) =
          subst (λ (a : ActionRef). IsOnWay day table after at a) (sym last.1) (record {
            is_action = is;
            mark_is = pushed_here now refl
                ∙ ap (λ (n : ℕ). Some (mark.OnWay n)) (sym last.0);
            left = subst (λ (done : Counts). IsLeft done now) (sym pushes.done_is) left;
          })

  pushed_way : (at : ℕ) (later earlier : ActionRef) → slice_get after.way.items at ≡ Some later
      → slice_get after.way.items (at + 1) ≡ Some earlier → IsDirectlyBefore day earlier later
  pushed_way at later earlier there there_too =
      by_ends (got_push before.way.items now at later
      (sym (ap (λ (way : List ActionRef). slice_get way at) pushes.way_is) ∙ there))
      (got_push before.way.items now (at + 1) earlier
      (sym (ap (λ (way : List ActionRef). slice_get way (at + 1)) pushes.way_is) ∙ there_too))
    where
      by_ends : (slice_get before.way.items at ≡ Some later)
          ⊎ ((at ≡ length before.way.items) × (later ≡ now))
          → (slice_get before.way.items (at + 1) ≡ Some earlier)
          ⊎ ((at + 1 ≡ length before.way.items) × (earlier ≡ now))
          → IsDirectlyBefore day earlier later
      by_ends (inl one) (inl two) = stands.way at later earlier one two
      by_ends (inl one) (inr last) =
          let back : length before.way.items - 1 ≡ at = omega (arith, last.0) in
          subst (λ (a : ActionRef). IsDirectlyBefore day a later) (sym last.1)
          (last_one later (ap (slice_get before.way.items) back ∙ one))
      by_ends (inr last) (inl two) =
          let within : at + 1 < length before.way.items =
          slice_get_within before.way.items (at + 1) earlier two in
          absurd (omega (arith, last.0, within))
      by_ends (inr last) (inr last_too) = absurd (omega (arith, last.0, last_too.0))

  pub pushed_stands : Stands day table after
  pushed_stands = record {
    long = ap length pushes.marks_are
        ∙ length-set before.marks.items (index_in table.firsts now)
        (mark.OnWay (length before.way.items)) ∙ stands.long;
    order = subst (λ (order : List Slot). HasOrder day after.done order)
        (ap (λ o. o.items) (sym pushes.order_is))
        (subst (λ (done : Counts). HasOrder day done before.order.items) (sym pushes.done_is)
        stands.order);
    placed = pushed_placed;
    marked = pushed_marked;
    on_way = pushed_on_way;
    way = pushed_way;
  }

  pub pushed_less : steps_left after + 1 ≡ steps_left before
  pushed_less =
      less_by before.marks.items after.marks.items (index_in table.firsts now) mark.New
      (mark.OnWay (length before.way.items)) new pushes.marks_are refl
