-- What stands on the way of the search, and where the way comes back to itself.
use Rattle.std.proofs.Common.{◌≡◌, ◌<◌, ◌≤◌, ℕ, ◌+◌, ◌-◌, Bool, true, false, nat_lt, List, length}
use Rattle.std.proofs.Common.{drop, slice_get, Option, Some, None, is_some, arith, refl, sym, ap}
use Rattle.std.proofs.Common.{◌∙◌}
use Rattle.std.specs.Prelude.{IfNone, option_and_then}
use Rattle.std.proofs.lemmas.Bool.Decides.{nat_tests}
use Rattle.std.proofs.lemmas.List.{length-drop}
use Rattle.std.proofs.lemmas.Option.{slice_get_within}
use Rattle.day_weaving.specs.DayOrder.{HasOneBefore, IsCycle, IsDirectlyBefore}
use Rattle.day_weaving.specs.OrderCounts.{count_in, key_of}
use Rattle.day_weaving.specs.OrderSearch.{IsAction, IsLeft, IsTable, Stands, index_in, mark_of}
use Rattle.day_weaving.specs.OrderSearch.{place_on}
use Rattle.recorded_days.specs.Records.{ActionRef, RecordedDay}
use Rattle.day_weaving.specs.declared.weave_plan.Slot.{Slot}
use Rattle.day_weaving.specs.declared.weave_search.Mark.{Mark}
use Rattle.day_weaving.specs.declared.weave_search.Mark.TheVariants as mark
use Rattle.day_weaving.specs.declared.weave_search.Search.{Search}
use Rattle.day_weaving.specs.declared.weave_table.Table.{Table}
use Rattle.day_weaving.proofs.NumberedLemmas.{within_some}
use Rattle.day_weaving.proofs.MarkLemmas.{inside}
use Rattle.day_weaving.proofs.ListPlaces.{got_drop}

-- The way comes back to itself.

pub comes_round : (day : RecordedDay) (way : List ActionRef) (start : ℕ) (one top : ActionRef)
    → slice_get way start ≡ Some one → slice_get way (length way - 1) ≡ Some top
    → IsDirectlyBefore day one top
    → ((at : ℕ) (later earlier : ActionRef) → slice_get way at ≡ Some later
    → slice_get way (at + 1) ≡ Some earlier → IsDirectlyBefore day earlier later)
    → IsCycle day (drop start way)
comes_round day way start one top there at_top closes chain = record {
  some = omega (arith, length-drop start way, within);
  each = λ place below. by_test place below (nat_lt (place + 1) (length (drop start way))) refl;
}
  where
    within : start < length way
    within = slice_get_within way start one there

    item : (place : ℕ) → place < length (drop start way)
        → (action : ActionRef) × (slice_get (drop start way) place ≡ Some action)
    item place below = within_some (drop start way) place below

    by_test : (place : ℕ) → place < length (drop start way) → (b : Bool)
        → nat_lt (place + 1) (length (drop start way)) ≡ b
        → HasOneBefore day (drop start way) place
    by_test place below true test =
        let next : place + 1 < length (drop start way) = grind (arith, nat_tests) in
        let later = item place below in
        let earlier = item (place + 1) next in
        let sum : start + (place + 1) ≡ (start + place) + 1 = omega arith in
        record {
          other = place + 1;
          one_is = earlier.0;
          later_is = later.0;
          one_there = earlier.1;
          later_there = later.1;
          before = chain (start + place) later.0 earlier.0
              (sym (got_drop start way place) ∙ later.1)
              (ap (slice_get way) (sym sum) ∙ sym (got_drop start way (place + 1)) ∙ earlier.1);
        }
    by_test place below false test =
        let last : length (drop start way) ≤ place + 1 = grind (arith, nat_tests) in
        let long : length (drop start way) ≡ length way - start = length-drop start way in
        let at_it : length way - 1 ≡ start + place = omega (arith, last, long, below, within) in
        let none : start ≡ start + 0 = omega arith in
        record {
          other = 0;
          one_is = one;
          later_is = top;
          one_there = got_drop start way 0 ∙ ap (slice_get way) (sym none) ∙ there;
          later_there = got_drop start way place ∙ ap (slice_get way) (sym at_it) ∙ at_top;
          before = closes;
        }

-- What stands on the way.

pub if_none : {A : Type 0} (found : Option A) (P : Type 0) → is_some found ≡ false
    → IfNone found P → P
if_none None P is holds = holds
if_none (Some x) P is holds = absurd cc

-- an action that is left and not on the way is new
pub fresh : (day : RecordedDay) (table : Table) (state : Search) (action : ActionRef)
    → IsTable day table → Stands day table state → IsAction day action → IsLeft state.done action
    → None ≡ option_and_then place_on (mark_of table state.marks.items action)
    → mark_of table state.marks.items action ≡ Some mark.New
fresh day table state action whole stands is left none =
    by_mark (mark_of table state.marks.items action) refl
  where
    by_mark : (found : Option Mark) → mark_of table state.marks.items action ≡ found
        → mark_of table state.marks.items action ≡ Some mark.New
    by_mark None there =
        let within : index_in table.firsts action < length table.slots.items =
        inside day table action whole is in
        let some_mark = within_some state.marks.items (index_in table.firsts action)
        (omega (arith, within, stands.long)) in
        let clash : None ≡ Some some_mark.0 = sym there ∙ some_mark.1 in
        absurd cc
    by_mark (Some mark.New) there = there
    by_mark (Some (mark.OnWay at)) there =
        let clash : None ≡ Some at = none ∙ ap (option_and_then place_on) there in
        absurd cc
    by_mark (Some mark.Placed) there =
        let come : action.1 ≤ count_in state.done (key_of action.0) =
        stands.placed action is there in
        absurd (omega (arith, come, left))

pub first_fresh : (day : RecordedDay) (table : Table) (state : Search) (action : ActionRef)
    → IsTable day table → Stands day table state → IsAction day action → IsLeft state.done action
    → slice_get state.way.items (length state.way.items - 1) ≡ None
    → mark_of table state.marks.items action ≡ Some mark.New
first_fresh day table state action whole stands is left empty =
    fresh day table state action whole stands is left
    (not_on_way (mark_of table state.marks.items action) refl)
  where
    nothing : (at : ℕ) (one : ActionRef) → slice_get state.way.items at ≡ Some one → ⊥
    nothing at one there =
        let within : at < length state.way.items = slice_get_within state.way.items at one there in
        let last : length state.way.items - 1 < length state.way.items = omega arith in
        let found = within_some state.way.items (length state.way.items - 1) last in
        let clash : None ≡ Some found.0 = sym empty ∙ found.1 in
        absurd cc

    not_on_way : (found : Option Mark) → mark_of table state.marks.items action ≡ found
        → None ≡ option_and_then place_on found
    not_on_way None there = refl
    not_on_way (Some mark.New) there = refl
    not_on_way (Some (mark.OnWay at)) there =
        absurd (nothing at action (stands.marked action at is there))
    not_on_way (Some mark.Placed) there = refl

-- an action that is marked to be on the way at a place stands there
pub stands_on_way : (day : RecordedDay) (table : Table) (state : Search) (action : ActionRef)
    (at : ℕ) → Stands day table state → IsAction day action
    → Some at ≡ option_and_then place_on (mark_of table state.marks.items action)
    → slice_get state.way.items at ≡ Some action
stands_on_way day table state action at stands is found =
    by_mark (mark_of table state.marks.items action) refl
  where
    by_mark : (one : Option Mark) → mark_of table state.marks.items action ≡ one
        → slice_get state.way.items at ≡ Some action
    by_mark None there =
        let clash : Some at ≡ None = found ∙ ap (option_and_then place_on) there in
        absurd cc
    by_mark (Some mark.New) there =
        let clash : Some at ≡ None = found ∙ ap (option_and_then place_on) there in
        absurd cc
    by_mark (Some (mark.OnWay place)) there =
        let both : Some at ≡ Some place = found ∙ ap (option_and_then place_on) there in
        let same : place ≡ at = cc in
        ap (slice_get state.way.items) (sym same) ∙ stands.marked action place is there
    by_mark (Some mark.Placed) there =
        let clash : Some at ≡ None = found ∙ ap (option_and_then place_on) there in
        absurd cc

pub slot_of : (day : RecordedDay) (table : Table) (action : ActionRef) (slot : Slot)
    → IsTable day table → IsAction day action
    → slice_get table.slots.items (index_in table.firsts action) ≡ Some slot
    → slot.action ≡ action
slot_of day table action slot whole is there =
    let stands = whole.each action is in
    let both : Some slot ≡ Some stands.slot = sym there ∙ stands.there in
    let same : slot ≡ stands.slot = cc in
    ap (λ (s : Slot). s.action) same ∙ stands.is_it
