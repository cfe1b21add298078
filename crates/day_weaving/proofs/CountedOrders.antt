-- An order that has each action once, behind all that are directly before it, is kept by counting.
use Rattle.std.proofs.Common.{◌≡◌, ◌<◌, ◌≤◌, ℕ, zero, suc, ◌+◌, ◌-◌, ◌==◌, ◌||◌, Bool, true, false}
use Rattle.std.proofs.Common.{cond, nat_lt, List, [], ◌∷◌, take, length, count_by, slice_get, Option}
use Rattle.std.proofs.Common.{Some, None, is_some, inl, inr, arith, refl, sym, ap, subst, ◌∙◌}
use Rattle.std.specs.Prelude.{option_and_then}
use Rattle.std.specs.List.{list_any}
use Rattle.std.specs.Option.{option_map_or}
use Rattle.std.proofs.lemmas.Bool.{cases_Bool, false_from_ne_true, or_cases}
use Rattle.std.proofs.lemmas.Bool.Decides.{nat_tests}
use Rattle.std.proofs.lemmas.List.{take_all}
use Rattle.std.proofs.lemmas.List.Sums.{sum_by-cons}
use Rattle.std.proofs.lemmas.Option.{slice_get_within}
use Rattle.step_replay.specs.AuditTrail.{is_same_actor}
use Rattle.step_replay.specs.QueueLemmas.{one_actor, same_actor}
use Rattle.venue_steps.specs.declared.actors.Actor.{Actor}
use Rattle.recorded_days.specs.Records.{ActionRef, RecordedDay, action_in, actions_of}
use Rattle.recorded_days.specs.declared.actions.Action.{Action}
use Rattle.day_weaving.specs.DayForm.{AreNamedOnce}
use Rattle.day_weaving.specs.DayOrder.{ByActor, BySite, ByWord, ComesInTurn, IsBehind, IsFirst}
use Rattle.day_weaving.specs.DayOrder.{IsNextAtSite, KeepsOrder, StandsAt, grants, is_by, is_granted}
use Rattle.day_weaving.specs.DayOrder.{is_refused, order_at, refuses}
use Rattle.day_weaving.specs.OrderLaws.{IsOrder, StandsIn}
use Rattle.day_weaving.specs.declared.sites.Site.{Site}
use Rattle.day_weaving.specs.declared.weave_plan.Slot.{Slot}
use Rattle.day_weaving.proofs.DayFormLemmas.{action_there, action_within}
use Rattle.day_weaving.proofs.MessageLemmas.{taken_one}
use Rattle.day_weaving.proofs.NthLemmas.{mono}
use Rattle.day_weaving.proofs.NumberedLemmas.{some_is, then_some, within_some}
use Rattle.day_weaving.proofs.WaitLemmas.{granted_asks, refused_asks}

-- Lists.

-- where none of the items behind some passes, no more of them count
none_between : {A : Type 0} (p : A → Bool) (xs : List A) (n m : ℕ) → n ≤ m
    → ((i : ℕ) (x : A) → n ≤ i → i < m → slice_get xs i ≡ Some x → p x ≡ false)
    → count_by p (take m xs) ≡ count_by p (take n xs)
none_between p [] zero zero le none = refl
none_between p [] zero (suc m) le none = refl
none_between p [] (suc n) zero le none = refl
none_between p [] (suc n) (suc m) le none = refl
none_between p (x ∷ xs) zero zero le none = refl
none_between p (x ∷ xs) zero (suc m) le none =
    let least : 0 ≤ 0 = omega arith in
    let below : 0 < suc m = omega arith in
    let low : 0 ≤ m = omega arith in
    let first : p x ≡ false = none 0 x least below refl in
    let rest : count_by p (take m xs) ≡ count_by p (take 0 xs) =
    none_between p xs 0 m low (λ i y over under there.
    let over_one : 0 ≤ suc i = omega arith in
    let under_one : suc i < suc m = omega arith in
    none (suc i) y over_one under_one there) in
    let front : count_by p (x ∷ take m xs) ≡ 0 + count_by p (take m xs) =
    sum_by-cons (λ (y : _). cond (p y) 1 0) x (take m xs)
    ∙ ap (λ (b : Bool). cond b 1 0 + count_by p (take m xs)) first in
    let whole : count_by p (x ∷ take m xs) ≡ count_by p (take m xs) = omega (arith, front) in
    whole ∙ rest
none_between p (x ∷ xs) (suc n) zero le none = absurd (omega arith)
none_between p (x ∷ xs) (suc n) (suc m) le none =
    let within : n ≤ m = omega arith in
    let rest : count_by p (take m xs) ≡ count_by p (take n xs) =
    none_between p xs n m within (λ i y over under there.
    let over_one : suc n ≤ suc i = omega arith in
    let under_one : suc i < suc m = omega arith in
    none (suc i) y over_one under_one there) in
    sum_by-cons (λ (y : _). cond (p y) 1 0) x (take m xs)
    ∙ ap (λ (c : ℕ). cond (p x) 1 0 + c) rest
    ∙ sym (sum_by-cons (λ (y : _). cond (p y) 1 0) x (take n xs))

-- one of some items that passes
record Passes {A : Type 0} (p : A → Bool) (xs : List A) (n : ℕ) : Type 0 where
  place : ℕ
  item : A
  below : place < n
  there : slice_get xs place ≡ Some item
  passes : p item ≡ true

one_passes : {A : Type 0} (p : A → Bool) (xs : List A) (n : ℕ) → list_any p (take n xs) ≡ true
    → Passes p xs n
one_passes p xs zero some = cc
one_passes p [] (suc n) some = cc
one_passes p (x ∷ xs) (suc n) some = elim (or_cases (p x) (list_any p (take n xs)) some) [
  | inl here ↦ record {
    place = 0;
    item = x;
    below = omega arith;
    there = refl;
    passes = here;
  }
  | inr later ↦
      let found = one_passes p xs n later in
      let under : found.place < n = found.below in
      record {
        place = suc found.place;
        item = found.item;
        below = omega arith;
        there = found.there;
        passes = found.passes;
      }
]

-- two numbers, compared
data Compared (m n : ℕ) : Type 0 where
  Below : m < n → Compared m n
  Same : m ≡ n → Compared m n
  Above : n < m → Compared m n

compared : (m n : ℕ) → Compared m n
compared m n = by_tests (nat_lt m n) (nat_lt n m) refl refl
  where
    by_tests : (a b : Bool) → nat_lt m n ≡ a → nat_lt n m ≡ b → Compared m n
    by_tests true b test other = Below (grind (arith, nat_tests))
    by_tests false true test other = Above (grind (arith, nat_tests))
    by_tests false false test other = Same (grind (arith, nat_tests))

-- what stands before a place of an order at a desk or in a room
stands_lower : (day : RecordedDay) (at : Site) (spot : ℕ) (action : ActionRef)
    → StandsAt day at (suc spot) action → (one : ActionRef) × StandsAt day at spot one
stands_lower day at spot action stands = by_order (order_at day at) refl
  where
    by_order : (found : Option (List ActionRef)) → order_at day at ≡ found
        → (one : ActionRef) × StandsAt day at spot one
    by_order None is =
        let clash : None ≡ Some action =
        ap (λ (o : Option (List ActionRef)). option_and_then
        (λ (order : List ActionRef). slice_get order (suc spot)) o) (sym is) ∙ stands in
        absurd cc
    by_order (Some order) is =
        let there : slice_get order (suc spot) ≡ Some action =
        ap (λ (o : Option (List ActionRef)). option_and_then
        (λ (order : List ActionRef). slice_get order (suc spot)) o) (sym is) ∙ stands in
        let within : suc spot < length order = slice_get_within order (suc spot) action there in
        let inside : spot < length order = omega arith in
        let lower = within_some order spot inside in (
          lower.0,
          ap (λ (o : Option (List ActionRef)). option_and_then
              (λ (order : List ActionRef). slice_get order spot) o) is ∙ lower.1,
        )

module _ (day : RecordedDay) (slots : List Slot) (named : AreNamedOnce day)
    (order : IsOrder day slots) where
  -- what stands in the order is an action of the day
  slot_is : (place : ℕ) (now : Slot) → slice_get slots place ≡ Some now
      → is_some (action_in day now.action) ≡ true
  slot_is place now there =
      named.nothing_else now.action now.site now.spot (order.stand place now there)

  action_is : (action : ActionRef) (place : ℕ) → StandsIn slots action place
      → is_some (action_in day action) ≡ true
  action_is action place stands =
      subst (λ (one : ActionRef). is_some (action_in day one) ≡ true) stands.is_it
      (slot_is place stands.slot stands.there)

  -- of one actor the earlier place has the lower number
  lower : (one other : ActionRef) (place later : ℕ) → StandsIn slots one place
      → StandsIn slots other later → one.0 ≡ other.0 → place < later → one.1 < other.1
  lower one other place later stands stands_too same earlier =
      by_number (compared one.1 other.1)
    where
      by_number : Compared one.1 other.1 → one.1 < other.1
      by_number (Below below) = below
      by_number (Same equal) =
          let it : one ≡ other =
          ap (λ (by : Actor). (by, one.1)) same ∙ ap (λ (n : ℕ). (other.0, n)) equal in
          let found = order.once other (action_is other later stands_too) in
          let here : place ≡ found.place = found.nowhere_else place
          (subst (λ (a : ActionRef). StandsIn slots a place) it stands) in
          let there : later ≡ found.place = found.nowhere_else later stands_too in
          absurd (omega arith)
      by_number (Above above) =
          let back : later < place = order.behind other one (ByActor (record {
            same = subst (λ (by : Actor). is_same_actor other.0 by ≡ true) (sym same)
                (same_actor other.0);
            earlier = above;
            one_is = action_is other later stands_too;
            other_is = action_is one place stands;
          })) later place stands_too stands in
          absurd (omega arith)

  -- the slot at a place, as that of an action of an actor
  slot_stands : (by : Actor) (place : ℕ) (now : Slot) → slice_get slots place ≡ Some now
      → is_by by now ≡ true → StandsIn slots (by, now.action.1) place
  slot_stands by place now there mine = record {
    slot = now;
    there = there;
    is_it = ap (λ (a : Actor). (a, now.action.1)) (one_actor now.action.0 by mine);
  }

  -- its number is 1 or more
  number_least : (place : ℕ) (now : Slot) → slice_get slots place ≡ Some now → 0 < now.action.1
  number_least place now there =
      (action_within day now.action.0 now.action.1 (slot_is place now there)).2

  -- between two places no action of an actor stands, where none has a number between two
  none_of : (by : Actor) (n m : ℕ) → n ≤ m
      → ((i : ℕ) (number : ℕ) → n ≤ i → i < m → StandsIn slots (by, number) i → 0 < number → ⊥)
      → count_by (is_by by) (take m slots) ≡ count_by (is_by by) (take n slots)
  none_of by n m le none =
      none_between (is_by by) slots n m le (λ i now over under there.
      false_from_ne_true (is_by by now) (λ mine.
      none i now.action.1 over under (slot_stands by i now there mine) (number_least i now there)))

  -- one action more counts
  one_more : (by : Actor) (number place : ℕ) → StandsIn slots (by, number) place
      → count_by (is_by by) (take (place + 1) slots) ≡ count_by (is_by by) (take place slots) + 1
  one_more by number place stands =
      taken_one (is_by by) slots place stands.slot true stands.there
      (ap (λ (one : ActionRef). is_same_actor one.0 by) stands.is_it ∙ same_actor by)

  -- an action stands behind as many of its actor as its number says
  counted_at : (by : Actor) (before : ℕ) (place : ℕ) → StandsIn slots (by, suc before) place
      → count_by (is_by by) (take place slots) ≡ before
  counted_at by zero place stands =
      let low : 0 ≤ place = omega arith in
      none_of by 0 place low (λ i number over under there least.
      let less : number < 1 = lower (by, number) (by, 1) i place there stands refl under in
      omega arith)
  counted_at by (suc before) place stands =
      let among = action_within day by (suc (suc before)) (action_is _ place stands) in
      let least : 0 < suc before = omega arith in
      let most : suc (suc before) ≤ length among.0 = among.3 in
      let within : suc before ≤ length among.0 = omega arith in
      let is : is_some (action_in day (by, suc before)) ≡ true =
      action_there day by among.0 (suc before) among.1 least within in
      let found = order.once (by, suc before) is in
      let next : suc before < suc (suc before) = omega arith in
      let earlier : found.place < place =
      order.behind (by, suc before) (by, suc (suc before)) (ByActor (record {
        same = same_actor by;
        earlier = next;
        one_is = is;
        other_is = action_is _ place stands;
      })) found.place place found.stands stands in
      let behind : found.place + 1 ≤ place = omega arith in
      let before_it : count_by (is_by by) (take found.place slots) ≡ before =
      counted_at by before found.place found.stands in
      let more : count_by (is_by by) (take (found.place + 1) slots)
      ≡ count_by (is_by by) (take found.place slots) + 1 =
      one_more by (suc before) found.place found.stands in
      let same : count_by (is_by by) (take place slots)
      ≡ count_by (is_by by) (take (found.place + 1) slots) =
      none_of by (found.place + 1) place behind (λ i number over under there positive.
      let ahead : found.place < i = omega arith in
      let low : suc before < number =
      lower (by, suc before) (by, number) found.place i found.stands there refl ahead in
      let high : number < suc (suc before) =
      lower (by, number) (by, suc (suc before)) i place there stands refl under in
      omega arith) in
      omega arith

  -- its number is one more
  number_is : (action : ActionRef) (place : ℕ) → StandsIn slots action place
      → action.1 ≡ count_by (is_by action.0) (take place slots) + 1
  number_is action place stands =
      let least : 0 < action.1 =
      (action_within day action.0 action.1 (action_is action place stands)).2 in
      let number : action.1 ≡ suc (action.1 - 1) = omega arith in
      let counted : count_by (is_by action.0) (take place slots) ≡ action.1 - 1 =
      counted_at action.0 (action.1 - 1) place
      (subst (λ (n : ℕ). StandsIn slots (action.0, n) place) number stands) in
      omega arith

  -- At a desk or in a room.

  next_at : (place : ℕ) (now : Slot) → slice_get slots place ≡ Some now → (spot : ℕ)
      → now.spot ≡ spot → IsNextAtSite day (take place slots) now
  next_at place now there zero is = IsFirst is
  next_at place now there (suc spot) is =
      let stands : StandsAt day now.site (suc spot) now.action =
      subst (λ (n : ℕ). StandsAt day now.site n now.action) is (order.stand place now there) in
      let previous = stands_lower day now.site spot now.action stands in
      let found = order.once previous.0
      (named.nothing_else previous.0 now.site spot previous.1) in
      let next : spot < suc spot = omega arith in
      let earlier : found.place < place =
      order.behind previous.0 now.action (BySite (record {
        at = now.site;
        one_spot = spot;
        other_spot = suc spot;
        earlier = next;
        one_is = previous.1;
        other_is = stands;
      })) found.place place found.stands
      (record { slot = now; there = there; is_it = refl }) in
      let behind : found.place + 1 ≤ place = omega arith in
      let grows : count_by (is_by previous.0.0) (take (found.place + 1) slots)
      ≤ count_by (is_by previous.0.0) (take place slots) =
      mono (is_by previous.0.0) slots (found.place + 1) place behind in
      let more : count_by (is_by previous.0.0) (take (found.place + 1) slots)
      ≡ count_by (is_by previous.0.0) (take found.place slots) + 1 =
      one_more previous.0.0 previous.0.1 found.place found.stands in
      let number : previous.0.1 ≡ count_by (is_by previous.0.0) (take found.place slots) + 1 =
      number_is previous.0 found.place found.stands in
      let back : spot ≡ now.spot - 1 = omega arith in
      let come : previous.0.1 ≤ count_by (is_by previous.0.0) (take place slots) = omega arith in
      IsBehind previous.0
      (subst (λ (n : ℕ). StandsAt day now.site n previous.0) back previous.1) come

  -- Words.

  unrefused : (place : ℕ) (now : Slot) → slice_get slots place ≡ Some now → (word : ℕ)
      → is_granted day word now ≡ true → list_any (is_refused day word) (take place slots) ≡ false
  unrefused place now there word granted =
      false_from_ne_true (list_any (is_refused day word) (take place slots)) (λ some.
      let one = one_passes (is_refused day word) slots place some in
      let its = some_is (action_in day now.action) (slot_is place now there) in
      let found = some_is (action_in day one.item.action)
      (slot_is one.place one.item one.there) in
      let grant : grants word its.0 ≡ true =
      ap (λ (a : Option Action). option_map_or (grants word) a false) (sym its.1) ∙ granted in
      let refused : refuses word found.0 ≡ true =
      ap (λ (a : Option Action). option_map_or (refuses word) a false) (sym found.1)
      ∙ one.passes in
      let under : one.place < place = one.below in
      let later : place < one.place = order.behind now.action one.item.action (ByWord (record {
        word = word;
        granted = its.0;
        refused = found.0;
        one_is = its.1;
        other_is = found.1;
        one_asked = granted_asks its.0 word grant;
        other_asked = refused_asks found.0 word refused;
      })) place one.place (record { slot = now; there = there; is_it = refl })
      (record { slot = one.item; there = one.there; is_it = refl }) in
      omega arith)

  -- All together.

  turn_is : (place : ℕ) (now : Slot) → slice_get slots place ≡ Some now
      → ComesInTurn day (take place slots) now
  turn_is place now there = record {
    is_action = slot_is place now there;
    stands = order.stand place now there;
    of_actor = number_is now.action place (record { slot = now; there = there; is_it = refl });
    at_site = next_at place now there now.spot refl;
    by_word = unrefused place now there;
  }

  -- all actions of an actor have come
  whole_is : (by : Actor) (actions : List Action) → actions_of day by ≡ Some actions
      → count_by (is_by by) slots ≡ length actions
  whole_is by actions are =
      ap (count_by (is_by by)) (sym (take_all (length slots) slots (omega arith)))
      ∙ by_count (length actions) refl
    where
      -- a number of the actor's is not above its actions
      most : (number place : ℕ) → StandsIn slots (by, number) place → number ≤ length actions
      most number place stands =
          let among = action_within day by number (action_is (by, number) place stands) in
          let both : Some among.0 ≡ Some actions = sym among.1 ∙ are in
          let same : among.0 ≡ actions = cc in
          let within : number ≤ length among.0 = among.3 in
          subst (λ (l : List Action). number ≤ length l) same within

      by_count : (count : ℕ) → length actions ≡ count
          → count_by (is_by by) (take (length slots) slots) ≡ length actions
      by_count zero is =
          let low : 0 ≤ length slots = omega arith in
          let none : count_by (is_by by) (take (length slots) slots)
          ≡ count_by (is_by by) (take 0 slots) =
          none_of by 0 (length slots) low (λ i number over under there least.
          let high : number ≤ length actions = most number i there in
          omega arith) in
          none ∙ sym is
      by_count (suc count) is =
          let least : 0 < suc count = omega arith in
          let within : suc count ≤ length actions = omega arith in
          let there : is_some (action_in day (by, suc count)) ≡ true =
          action_there day by actions (suc count) are least within in
          let found = order.once (by, suc count) there in
          let inside : found.place < length slots =
          slice_get_within slots found.place found.stands.slot found.stands.there in
          let behind : found.place + 1 ≤ length slots = omega arith in
          let same : count_by (is_by by) (take (length slots) slots)
          ≡ count_by (is_by by) (take (found.place + 1) slots) =
          none_of by (found.place + 1) (length slots) behind (λ i number over under stands positive.
          let ahead : found.place < i = omega arith in
          let low : suc count < number =
          lower (by, suc count) (by, number) found.place i found.stands stands refl ahead in
          let high : number ≤ length actions = most number i stands in
          omega arith) in
          let more : count_by (is_by by) (take (found.place + 1) slots)
          ≡ count_by (is_by by) (take found.place slots) + 1 =
          one_more by (suc count) found.place found.stands in
          let counted : count_by (is_by by) (take found.place slots) ≡ count =
          counted_at by count found.place found.stands in
          omega arith

  pub keeps_order : KeepsOrder day slots
  keeps_order = record { turns = turn_is; whole = whole_is }
