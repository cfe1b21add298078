-- The search for an order where it begins, and where it is at its end.
use Rattle.std.proofs.Common.{◌≡◌, ◌<◌, ◌≤◌, ℕ, zero, suc, ◌*◌, List, [], ◌∷◌, length, replicate}
use Rattle.std.proofs.Common.{slice_get, slice_index_or, Option, Some, None, arith, refl, sym, ap}
use Rattle.std.proofs.Common.{subst, ◌∙◌}
use Rattle.std.specs.List.{sum_by}
use Rattle.std.proofs.lemmas.List.Sums.{get_or-le-sum_by, sum_by-cons}
use Rattle.std.proofs.lemmas.Option.{get_or_from_slice_get}
use Rattle.std.proofs.lemmas.List.{length-replicate}
use Rattle.venue_steps.specs.declared.actors.Actor.{Actor}
use Rattle.day_weaving.specs.DayOrder.{KeepsOrder}
use Rattle.day_weaving.specs.OrderCounts.{count_in, key_of}
use Rattle.day_weaving.specs.OrderSearch.{HasCome, HasOrder, IsAction, IsTable, Stands, index_in}
use Rattle.day_weaving.specs.OrderSearch.{mark_of, steps_left, weight}
use Rattle.recorded_days.specs.Records.{ActionRef, RecordedDay, actions_of}
use Rattle.recorded_days.specs.declared.actions.Action.{Action}
use Rattle.day_weaving.specs.declared.weave_plan.Slot.{Slot}
use Rattle.day_weaving.specs.declared.weave_search.Mark.{Mark}
use Rattle.day_weaving.specs.declared.weave_search.Mark.TheVariants as mark
use Rattle.day_weaving.specs.declared.weave_search.Search.{Search}
use Rattle.day_weaving.specs.declared.weave_table.Table.{Table}
use Rattle.day_weaving.proofs.DayFormLemmas.{action_there}
use Rattle.day_weaving.proofs.NumberedLemmas.{within_some}
use Rattle.day_weaving.proofs.MarkLemmas.{inside}

-- The search is at its end.

pub all_placed : (day : RecordedDay) (table : Table) (state : Search) → IsTable day table
    → Stands day table state
    → ((place : ℕ) (slot : Slot) → slice_get table.slots.items place ≡ Some slot
    → HasCome state.done slot.action)
    → KeepsOrder day state.order.items
all_placed day table state whole stands come = record {
  turns = stands.order.turns;
  whole = λ by actions are. sym (stands.order.actors by) ∙ by_length by actions are actions refl;
}
  where
    last_come : (by : Actor) (actions : List Action) → actions_of day by ≡ Some actions
        → IsAction day (by, length actions) → length actions ≤ count_in state.done (key_of by)
    last_come by actions are is =
        let there = whole.each (by, length actions) is in
        subst (HasCome state.done) there.is_it
        (come (index_in table.firsts (by, length actions)) there.slot there.there)

    by_length : (by : Actor) (actions : List Action) → actions_of day by ≡ Some actions
        → (list : List Action) → actions ≡ list → count_in state.done (key_of by) ≡ length actions
    by_length by actions are [] none =
        let most : count_in state.done (key_of by) ≤ length actions =
        stands.order.within by actions are in
        let long : length actions ≡ 0 = ap length none in
        omega (arith, most, long)
    by_length by actions are (x ∷ xs) some =
        let most : count_in state.done (key_of by) ≤ length actions =
        stands.order.within by actions are in
        let long : length actions ≡ length (x ∷ xs) = ap length some in
        let least : 0 < length actions = omega (arith, long) in
        let all : length actions ≤ length actions = omega arith in
        let last : length actions ≤ count_in state.done (key_of by) =
        last_come by actions are (action_there day by actions (length actions) are least all) in
        omega (arith, most, last)

-- where no step is left, all are placed
pub no_steps : (day : RecordedDay) (table : Table) (state : Search) (action : ActionRef)
    → IsTable day table → Stands day table state → IsAction day action → steps_left state ≡ 0
    → HasCome state.done action
no_steps day table state action whole stands is none =
    by_mark (slice_get state.marks.items (index_in table.firsts action)) refl
  where
    within : index_in table.firsts action < length state.marks.items
    within =
        let inside_it : index_in table.firsts action < length table.slots.items =
        inside day table action whole is in
        omega (arith, stands.long)

    light : (one : Mark) → slice_get state.marks.items (index_in table.firsts action) ≡ Some one
        → weight one ≡ 0
    light one there =
        let most : weight (slice_index_or state.marks.items (index_in table.firsts action) one)
        ≤ sum_by weight state.marks.items =
        get_or-le-sum_by weight state.marks.items (index_in table.firsts action) one within in
        let same : weight (slice_index_or state.marks.items (index_in table.firsts action) one)
        ≡ weight one =
        ap weight (get_or_from_slice_get state.marks.items (index_in table.firsts action) one one
        there) in
        omega (arith, most, same, none)

    by_mark : (found : Option Mark)
        → slice_get state.marks.items (index_in table.firsts action) ≡ found
        → HasCome state.done action
    by_mark (Some mark.Placed) there = stands.placed action is there
    by_mark (Some mark.New) there = absurd (omega (arith, light mark.New there))
    by_mark (Some (mark.OnWay at)) there = absurd (omega (arith, light (mark.OnWay at) there))
    by_mark None there =
        let some_mark = within_some state.marks.items (index_in table.firsts action) within in
        let clash : None ≡ Some some_mark.0 = sym there ∙ some_mark.1 in
        absurd cc

-- The search begins.

same_in : {A : Type 0} (n : ℕ) (x : A) (i : ℕ) (y : A) → slice_get (replicate n x) i ≡ Some y
    → x ≡ y
same_in zero x i y is = cc
same_in (suc n) x zero y is = cc
same_in (suc n) x (suc i) y is = same_in n x i y is

pub begins : (day : RecordedDay) (table : Table) (state : Search)
    → state.marks.items ≡ replicate (length table.slots.items) mark.New
    → ((key : ℕ) → count_in state.done key ≡ 0) → state.order.items ≡ []
    → state.way.items ≡ [] → Stands day table state
begins day table state marks_are none_done order_is way_is = record {
  long = ap length marks_are ∙ length-replicate (length table.slots.items) mark.New;
  order = subst (λ (order : List Slot). HasOrder day state.done order) (sym order_is) (record {
    turns = λ place now there. cc;
    actors = λ by. none_done (key_of by);
    within = λ by actions are. omega (arith, none_done (key_of by));
    words = λ word refused one granted. absurd cc;
  });
  placed = λ action is there.
      let clash : mark.New ≡ mark.Placed = marked action mark.Placed there in
      absurd cc;
  marked = λ action at is there.
      let clash : mark.New ≡ mark.OnWay at = marked action (mark.OnWay at) there in
      absurd cc;
  on_way = λ at action there. absurd (empty at action there);
  way = λ at later earlier there next. absurd (empty at later there);
}
  where
    marked : (action : ActionRef) (one : Mark)
        → mark_of table state.marks.items action ≡ Some one → mark.New ≡ one
    marked action one there =
        same_in (length table.slots.items) mark.New (index_in table.firsts action) one
        (ap (λ (marks : List Mark). slice_get marks (index_in table.firsts action)) (sym marks_are)
        ∙ there)

    empty : (at : ℕ) (action : ActionRef) → slice_get state.way.items at ≡ Some action → ⊥
    empty at action there =
        let clash : None ≡ Some action =
        ap (λ (way : List ActionRef). slice_get way at) (sym way_is) ∙ there in
        absurd cc

pub few_steps : (marks : List Mark) → sum_by weight marks ≤ 2 * length marks
few_steps [] = omega arith
few_steps (one ∷ marks) =
    let rest : sum_by weight marks ≤ 2 * length marks = few_steps marks in
    omega (arith, sum_by-cons weight one marks, light one, rest)
  where
    light : (m : Mark) → weight m ≤ 2
    light mark.New = omega arith
    light (mark.OnWay at) = omega arith
    light mark.Placed = omega arith
