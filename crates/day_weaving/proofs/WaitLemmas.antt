-- What an action waits for.
use Rattle.std.proofs.Common.{◌≡◌, ◌<◌, ◌≤◌, ℕ, ◌+◌, ◌-◌, ◌==◌, Bool, true, false, ◌&&◌, not}
use Rattle.std.proofs.Common.{nat_le, nat_lt, List, length, slice_get, Option, Some, None, arith}
use Rattle.std.proofs.Common.{refl, sym, ap, subst, ◌∙◌, eq-eqb}
use Rattle.std.specs.Option.{option_map_or}
use Rattle.std.proofs.lemmas.Bool.Decides.{nat_tests}
use Rattle.std.proofs.lemmas.Bool.{and_parts}
use Rattle.quote_word.specs.declared.settled.Settled.{Settled}
use Rattle.step_replay.specs.AuditTrail.{is_same_actor}
use Rattle.venue_steps.specs.declared.actors.Actor.{Actor}
use Rattle.day_weaving.specs.DayOrder.{Asked, ByActor, IsBehind, IsNextAtSite, OfOneWord, StandsAt}
use Rattle.day_weaving.specs.DayOrder.{grants, is_as_wished, is_granted, refuses}
use Rattle.day_weaving.specs.OrderCounts.{AreOfActors, Counts, count_in, key_of}
use Rattle.day_weaving.specs.OrderSearch.{HasCome, IsAction, IsBound, IsLeft, IsLeftBefore, IsTable}
use Rattle.day_weaving.specs.OrderSearch.{is_word}
use Rattle.recorded_days.specs.Records.{ActionRef, RecordedDay, action_in}
use Rattle.recorded_days.specs.declared.actions.Action.{Action}
use Rattle.day_weaving.specs.declared.weave_plan.Slot.{Slot}
use Rattle.day_weaving.specs.declared.weave_table.Table.{Table}
use Rattle.day_weaving.proofs.DayFormLemmas.{action_there, action_within}
use Rattle.step_replay.specs.QueueLemmas.{same_actor}

-- Tests.

pub come_of : (done : Counts) (action : ActionRef) (b : Bool)
    → b ≡ nat_le action.1 (count_in done (key_of action.0)) → b ≡ true → HasCome done action
come_of done action b is test =
    let within : nat_le action.1 (count_in done (key_of action.0)) ≡ true = sym is ∙ test in
    grind (arith, nat_tests)

pub left_of : (done : Counts) (action : ActionRef) (b : Bool)
    → b ≡ nat_le action.1 (count_in done (key_of action.0)) → b ≡ false → IsLeft done action
left_of done action b is test =
    let beyond : nat_le action.1 (count_in done (key_of action.0)) ≡ false = sym is ∙ test in
    grind (arith, nat_tests)

-- By an actor.

pub before_of_actor : (day : RecordedDay) (done : Counts) (one other : ActionRef)
    → IsAction day other → one.0 ≡ other.0 → one.1 + 1 ≡ other.1 → 0 < one.1 → IsLeft done one
    → IsLeftBefore day done one other
before_of_actor day done one other is by next least left =
    let among = action_within day other.0 other.1 is in
    let most : other.1 ≤ length among.0 = among.3 in
    let within : one.1 ≤ length among.0 = omega arith in
    let there : IsAction day (other.0, one.1) =
    action_there day other.0 among.0 one.1 among.1 least within in
    let one_is : IsAction day one =
    subst (λ (actor : Actor). IsAction day (actor, one.1)) (sym by) there in
    record {
      is_action = one_is;
      before = ByActor (record {
        same = ap (λ (actor : Actor). is_same_actor actor other.0) by ∙ same_actor other.0;
        earlier = omega arith;
        one_is = one_is;
        other_is = is;
      });
      left = left;
    }

-- At a desk or in a room.

pub next_at_site : (day : RecordedDay) (done : Counts) (slot : Slot) (one : ActionRef)
    → StandsAt day slot.site (slot.spot - 1) one → HasCome done one → (before : List Slot)
    → AreOfActors done before → IsNextAtSite day before slot
next_at_site day done slot one stands come before counts =
    IsBehind one stands (subst (λ (n : ℕ). one.1 ≤ n) (counts one.0) come)

-- Of a word.

-- what asked a word and was granted it
pub granted_asks : (action : Action) (word : ℕ) → grants word action ≡ true
    → Asked word true action
granted_asks action word granted = by_word action.word refl
  where
    by_word : (found : Option (ℕ × Settled)) → action.word ≡ found → Asked word true action
    by_word None is =
        let clash : false ≡ true =
        ap (λ (w : Option (ℕ × Settled)). option_map_or (λ (asked : ℕ × Settled).
        (asked.0 == word) && is_as_wished action.kind asked.1) w false) (sym is) ∙ granted in
        absurd cc
    by_word (Some asked) is =
        let parts = and_parts (asked.0 == word) (is_as_wished action.kind asked.1)
        (ap (λ (w : Option (ℕ × Settled)). option_map_or (λ (one : ℕ × Settled).
        (one.0 == word) && is_as_wished action.kind one.1) w false) (sym is) ∙ granted) in
        let same : asked.0 ≡ word = grind (arith, nat_tests, parts.0) in
        record {
          settlement = asked.1;
          word_is = is ∙ ap (λ (n : ℕ). Some (n, asked.1)) same;
          wished_is = parts.1;
        }

-- and what was refused it
pub refused_asks : (action : Action) (word : ℕ) → refuses word action ≡ true
    → Asked word false action
refused_asks action word refused = by_word action.word refl
  where
    not_true : (b : Bool) → not b ≡ true → b ≡ false
    not_true true is = cc
    not_true false is = refl

    by_word : (found : Option (ℕ × Settled)) → action.word ≡ found → Asked word false action
    by_word None is =
        let clash : false ≡ true =
        ap (λ (w : Option (ℕ × Settled)). option_map_or (λ (asked : ℕ × Settled).
        (asked.0 == word) && not (is_as_wished action.kind asked.1)) w false) (sym is) ∙ refused in
        absurd cc
    by_word (Some asked) is =
        let parts = and_parts (asked.0 == word) (not (is_as_wished action.kind asked.1))
        (ap (λ (w : Option (ℕ × Settled)). option_map_or (λ (one : ℕ × Settled).
        (one.0 == word) && not (is_as_wished action.kind one.1)) w false) (sym is) ∙ refused) in
        let same : asked.0 ≡ word = grind (arith, nat_tests, parts.0) in
        record {
          settlement = asked.1;
          word_is = is ∙ ap (λ (n : ℕ). Some (n, asked.1)) same;
          wished_is = not_true (is_as_wished action.kind asked.1) parts.1;
        }

-- no action that waits for a word was granted it, from this bound on, but has come
pub record IsHead (day : RecordedDay) (done : Counts) (slots : List Slot) (word bound : ℕ)
    : Type 0 where
  pub granted : (slot : Slot) → 0 < bound → slice_get slots (bound - 1) ≡ Some slot
      → is_granted day word slot ≡ true
  pub come : (place : ℕ) (slot : Slot) → bound ≤ place → slice_get slots place ≡ Some slot
      → is_granted day word slot ≡ true → HasCome done slot.action

pub head_next : (day : RecordedDay) (table : Table) (done : Counts) (word bound next : ℕ)
    (slot : Slot) → IsTable day table → IsHead day done table.slots.items word bound → 0 < bound
    → slice_get table.slots.items (bound - 1) ≡ Some slot
    → slice_get table.below.items (bound - 1) ≡ Some next → HasCome done slot.action
    → (IsHead day done table.slots.items word next) × (next ≤ bound - 1)
head_next day table done word bound next slot whole head least there linked come = (
  record {
    granted = link.granted;
    come = λ place found from found_there granted. by_place place found from found_there granted
        (nat_lt place (bound - 1)) (place == bound - 1) refl refl;
  },
  link.within,
)
  where
    link : IsBound day table.slots.items word (bound - 1) next
    link =
        whole.built.chain.links word (bound - 1) next slot linked there
        (head.granted slot least there)

    by_place : (place : ℕ) (found : Slot) → next ≤ place
        → slice_get table.slots.items place ≡ Some found → is_granted day word found ≡ true
        → (under same : Bool) → nat_lt place (bound - 1) ≡ under → (place == bound - 1) ≡ same
        → HasCome done found.action
    by_place place found from found_there granted true same test equal =
        let below : place < bound - 1 = grind (arith, nat_tests) in
        let none : is_granted day word found ≡ false =
        link.none place found from below found_there in
        absurd cc
    by_place place found from found_there granted false true test equal =
        let at_it : place ≡ bound - 1 = grind (arith, nat_tests) in
        let both : Some found ≡ Some slot =
        sym found_there ∙ ap (slice_get table.slots.items) at_it ∙ there in
        let is : found ≡ slot = cc in
        subst (λ (s : Slot). HasCome done s.action) (sym is) come
    by_place place found from found_there granted false false test equal =
        let beyond : bound ≤ place = grind (arith, nat_tests) in
        head.come place found beyond found_there granted

pub own_word : (word : ℕ) → is_word (Some word) word ≡ true
own_word word = eq-eqb word word refl

pub before_of_word : (day : RecordedDay) (done : Counts) (slot : Slot) (other : ActionRef)
    (action : Action) (word : ℕ) → is_granted day word slot ≡ true
    → Some action ≡ action_in day other → refuses word action ≡ true
    → OfOneWord day slot.action other
before_of_word day done slot other action word granted is refused =
    by_action (action_in day slot.action) refl
  where
    by_action : (found : Option Action) → action_in day slot.action ≡ found
        → OfOneWord day slot.action other
    by_action None none =
        let clash : false ≡ true =
        ap (λ (a : Option Action). option_map_or (grants word) a false) (sym none) ∙ granted in
        absurd cc
    by_action (Some found) there = record {
      word = word;
      granted = found;
      refused = action;
      one_is = there;
      other_is = sym is;
      one_asked = granted_asks found word
          (ap (λ (a : Option Action). option_map_or (grants word) a false) (sym there) ∙ granted);
      other_asked = refused_asks action word refused;
    }
