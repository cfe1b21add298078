-- Marks of the search for an order: where one is set, and what is left to do by it.
use Rattle.std.proofs.Common.{◌≡◌, ◌<◌, ◌≤◌, ℕ, ◌+◌, Bool, true, false, nat_lt, List, length}
use Rattle.std.proofs.Common.{slice_get, slice_set, slice_index_or, Some, arith, refl, sym, ap, ◌∙◌}
use Rattle.std.specs.List.{sum_by}
use Rattle.std.proofs.lemmas.Bool.Decides.{nat_tests}
use Rattle.std.proofs.lemmas.List.Sums.{sum_by-set}
use Rattle.std.proofs.lemmas.Option.{get_or_from_slice_get, slice_get_within}
use Rattle.day_weaving.specs.OrderSearch.{IsAction, IsTable, index_in, mark_of, weight}
use Rattle.recorded_days.specs.Records.{ActionRef, RecordedDay}
use Rattle.day_weaving.specs.declared.weave_plan.Slot.{Slot}
use Rattle.day_weaving.specs.declared.weave_search.Mark.{Mark}
use Rattle.day_weaving.specs.declared.weave_table.Table.{Table}
use Rattle.day_weaving.proofs.ListPlaces.{set_else}
use Rattle.step_replay.specs.PlaceLemmas.{get_set_same}

-- Marks.

-- an action of the day has a mark
pub inside : (day : RecordedDay) (table : Table) (action : ActionRef) → IsTable day table
    → IsAction day action → index_in table.firsts action < length table.slots.items
inside day table action whole is =
    let stands = whole.each action is in
    slice_get_within table.slots.items (index_in table.firsts action) stands.slot stands.there

-- two actions with one place in the table are one
pub one_place : (day : RecordedDay) (table : Table) (one other : ActionRef) → IsTable day table
    → IsAction day one → IsAction day other
    → index_in table.firsts one ≡ index_in table.firsts other → one ≡ other
one_place day table one other whole is is_too same =
    let first = whole.each one is in
    let second = whole.each other is_too in
    let both : Some first.slot ≡ Some second.slot =
    sym first.there ∙ ap (slice_get table.slots.items) same ∙ second.there in
    let slot : first.slot ≡ second.slot = cc in
    sym first.is_it ∙ ap (λ (s : Slot). s.action) slot ∙ second.is_it

pub less_or_not : (a b : ℕ) → a ≤ b → (a ≡ b → ⊥) → a < b
less_or_not a b most apart = by_test (nat_lt a b) refl
  where
    by_test : (t : Bool) → nat_lt a b ≡ t → a < b
    by_test true test = grind (arith, nat_tests)
    by_test false test =
        let same : a ≡ b = grind (arith, nat_tests) in
        absurd (apart same)

-- a mark behind the change of another one, or of its own
module _ (table : Table) (marks after : List Mark) (now : ActionRef) (new : Mark)
    (are : after ≡ slice_set marks (index_in table.firsts now) new) where
  pub mark_here : (action : ActionRef) → index_in table.firsts now < length marks
      → index_in table.firsts now ≡ index_in table.firsts action
      → mark_of table after action ≡ Some new
  mark_here action within same =
      ap (λ (list : List Mark). slice_get list (index_in table.firsts action)) are
      ∙ ap (slice_get (slice_set marks (index_in table.firsts now) new)) (sym same)
      ∙ get_set_same marks (index_in table.firsts now) new within

  pub mark_else : (action : ActionRef)
      → (index_in table.firsts now ≡ index_in table.firsts action → ⊥)
      → mark_of table after action ≡ mark_of table marks action
  mark_else action apart =
      ap (λ (list : List Mark). slice_get list (index_in table.firsts action)) are
      ∙ set_else marks (index_in table.firsts now) (index_in table.firsts action) new apart

-- what is left to do is less by what a mark is less
pub less_by : (marks after : List Mark) (index : ℕ) (old new : Mark) → slice_get marks index ≡ Some old
    → after ≡ slice_set marks index new → weight new + 1 ≡ weight old
    → sum_by weight after + 1 ≡ sum_by weight marks
less_by marks after index old new there are one =
    let within : index < length marks = slice_get_within marks index old there in
    let was : slice_index_or marks index old ≡ old = get_or_from_slice_get marks index old old there in
    let total : sum_by weight (slice_set marks index new) + weight (slice_index_or marks index old)
    ≡ sum_by weight marks + weight new = sum_by-set weight marks index new old within in
    let old_weight : weight (slice_index_or marks index old) ≡ weight old = ap weight was in
    let now : sum_by weight after ≡ sum_by weight (slice_set marks index new) =
    ap (sum_by weight) are in
    omega (arith, total, old_weight, now, one)
