-- The actions of an actor stand in an order that is kept once each, one behind the other.
use Rattle.std.proofs.Common.{◌≡◌, ◌<◌, ◌≤◌, ℕ, ◌+◌, ◌-◌, Bool, true, false, nat_lt, List, take}
use Rattle.std.proofs.Common.{length, count_by, is_some, arith, refl, ap, subst, ◌∙◌}
use Rattle.std.proofs.lemmas.Bool.Decides.{nat_tests}
use Rattle.step_replay.specs.AuditTrail.{is_same_actor}
use Rattle.venue_steps.specs.declared.actors.Actor.{Actor}
use Rattle.day_weaving.specs.DayOrder.{KeepsOrder, is_by}
use Rattle.day_weaving.specs.OrderLaws.{ComesBefore, StandsIn, StandsOnce}
use Rattle.recorded_days.specs.Records.{ActionRef, RecordedDay, action_in}
use Rattle.day_weaving.specs.declared.weave_plan.Slot.{Slot}
use Rattle.day_weaving.proofs.DayFormLemmas.{action_within}
use Rattle.day_weaving.proofs.MessageLemmas.{taken_one}
use Rattle.day_weaving.proofs.NthLemmas.{mono, nth}
use Rattle.step_replay.specs.QueueLemmas.{same_actor, one_actor}

-- Actors.

module _ (day : RecordedDay) (slots : List Slot) (keeps : KeepsOrder day slots) where
  -- how many actions of an actor stand before a place
  abbrev pub before : Actor → ℕ → ℕ
  before by place = count_by (is_by by) (take place slots)

  pub number_at : (action : ActionRef) (place : ℕ) → StandsIn slots action place
      → action.1 ≡ before action.0 place + 1
  number_at action place stands =
      let turn = (keeps.turns place stands.slot stands.there).of_actor in
      subst (λ (one : ActionRef). one.1 ≡ before one.0 place + 1) stands.is_it turn

  -- it counts for those behind it
  counts_at : (action : ActionRef) (place later : ℕ) → StandsIn slots action place → place < later
      → action.1 ≤ before action.0 later
  counts_at action place later stands below =
      let mine : is_by action.0 stands.slot ≡ true =
      ap (λ (one : ActionRef). is_same_actor one.0 action.0) stands.is_it ∙ same_actor action.0 in
      let one_more : before action.0 (place + 1) ≡ before action.0 place + 1 =
      taken_one (is_by action.0) slots place stands.slot true stands.there mine in
      let within : place + 1 ≤ later = omega arith in
      let grows : before action.0 (place + 1) ≤ before action.0 later =
      mono (is_by action.0) slots (place + 1) later within in
      let number : action.1 ≡ before action.0 place + 1 = number_at action place stands in
      omega arith

  -- the earlier of an actor comes before the later
  pub by_numbers : (one other : ActionRef) → one.0 ≡ other.0 → one.1 < other.1
      → ComesBefore slots one other
  by_numbers one other same earlier place later stands stands_too =
      by_test (nat_lt place later) refl
    where
      by_test : (b : Bool) → nat_lt place later ≡ b → place < later
      by_test true test = grind (arith, nat_tests)
      by_test false test =
          let behind : later ≤ place = grind (arith, nat_tests) in
          let grows : before other.0 later ≤ before other.0 place =
          mono (is_by other.0) slots later place behind in
          let first : one.1 ≡ before other.0 place + 1 =
          number_at one place stands
          ∙ ap (λ (by : Actor). before by place + 1) same in
          let second : other.1 ≡ before other.0 later + 1 = number_at other later stands_too in
          absurd (omega arith)

  pub stands_once : (action : ActionRef) → is_some (action_in day action) ≡ true
      → StandsOnce slots action
  stands_once action is =
      let among = action_within day action.0 action.1 is in
      let whole : count_by (is_by action.0) slots ≡ length among.0 =
      keeps.whole action.0 among.0 among.1 in
      let below : action.1 - 1 < count_by (is_by action.0) slots =
      omega (arith, among.2, among.3, whole) in
      let found = nth (is_by action.0) slots (action.1 - 1) below in
      let by_it : found.item.action.0 ≡ action.0 =
      one_actor found.item.action.0 action.0 found.passes in
      let turn : found.item.action.1 ≡ before found.item.action.0 found.place + 1 =
      (keeps.turns found.place found.item found.there).of_actor in
      let counted_by : before found.item.action.0 found.place ≡ action.1 - 1 =
      ap (λ (by : Actor). before by found.place) by_it ∙ found.before in
      let least : 0 < action.1 = among.2 in
      let number : found.item.action.1 ≡ action.1 = omega arith in
      let here : StandsIn slots action found.place = record {
        slot = found.item;
        there = found.there;
        is_it = ap (λ (by : Actor). (by, found.item.action.1)) by_it
            ∙ ap (λ (n : ℕ). (action.0, n)) number;
      } in
      record {
        place = found.place;
        stands = here;
        nowhere_else = λ other stands. one_place other found.place stands here;
      }
    where
      one_place : (one other : ℕ) → StandsIn slots action one → StandsIn slots action other
          → one ≡ other
      one_place one other stands stands_too =
          by_test (nat_lt one other) (nat_lt other one) refl refl
        where
          number : action.1 ≡ before action.0 one + 1
          number = number_at action one stands

          number_too : action.1 ≡ before action.0 other + 1
          number_too = number_at action other stands_too

          by_test : (a b : Bool) → nat_lt one other ≡ a → nat_lt other one ≡ b → one ≡ other
          by_test true b test test_too =
              let below : one < other = grind (arith, nat_tests) in
              let most : action.1 ≤ before action.0 other =
              counts_at action one other stands below in
              absurd (omega (arith, number_too, most))
          by_test false true test test_too =
              let below : other < one = grind (arith, nat_tests) in
              let most : action.1 ≤ before action.0 one =
              counts_at action other one stands_too below in
              absurd (omega (arith, number, most))
          by_test false false test test_too = grind (arith, nat_tests)
