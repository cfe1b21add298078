-- The table of the actions of a day.
use Rattle.std.proofs.Common.{◌≡◌, ◌<◌, ◌≤◌, ℕ, ◌+◌, ◌-◌, Bool, true, false, ◌⊎◌, inl, inr, List}
use Rattle.std.proofs.Common.{[], ◌∷◌, ◌++◌, length, slice_get, Option, Some, is_some, arith, refl}
use Rattle.std.proofs.Common.{sym, ap, subst, ◌∙◌}
use Rattle.std.specs.Option.{option_map_or}
use Rattle.std.proofs.lemmas.List.{length_push}
use Rattle.std.proofs.lemmas.Option.{slice_get_within}
use borrow.Author.Count.{below_more}
use Rattle.step_replay.specs.StepFaults.{firms_of}
use Rattle.venue_steps.specs.declared.actors.Actor.{Actor}
use Rattle.venue_steps.specs.declared.actors.Actor.TheVariants as actor
use Rattle.venue_rows.specs.Rows.{Configuration}
use Rattle.day_weaving.specs.DayForm.{AreNamedOnce, HasFirmsOf}
use Rattle.day_weaving.specs.DayOrder.{grants, is_granted}
use Rattle.day_weaving.specs.OrderCounts.{Counts, count_in, key_of}
use Rattle.day_weaving.specs.OrderLaws.{StandsIn}
use Rattle.day_weaving.specs.OrderSearch.{HasActor, IsAction, IsBound, IsBuilt, IsChain, IsInTable}
use Rattle.day_weaving.specs.OrderSearch.{IsSlot, IsTable, Links, Puts, index_in}
use Rattle.recorded_days.specs.Records.{ActionRef, FirmLists, RecordedDay, action_in, actions_of}
use Rattle.recorded_days.specs.Records.{firm_in}
use Rattle.recorded_days.specs.declared.actions.Action.{Action}
use Rattle.day_weaving.specs.declared.weave_plan.Slot.{Slot}
use Rattle.day_weaving.specs.declared.weave_table.Table.{Table}
use Rattle.day_weaving.proofs.DayFormLemmas.{action_within}
use Rattle.day_weaving.proofs.NumberedLemmas.{mapped}
use Rattle.day_weaving.proofs.RecordRoomLemmas.{firm_within}
use Rattle.day_weaving.proofs.ListPlaces.{got_end, got_push}
use Rattle.step_replay.specs.PlaceLemmas.{get_first}

-- Places.

pub stands_more : (slots : List Slot) (now : Slot) (action : ActionRef) (place : ℕ)
    → StandsIn slots action place → StandsIn (slots ++ now ∷ []) action place
stands_more slots now action place stands = record {
  slot = stands.slot;
  there = get_first slots (now ∷ []) place (slice_get_within slots place stands.slot stands.there)
      ∙ stands.there;
  is_it = stands.is_it;
}

pub is_granted_is : (day : RecordedDay) (slot : Slot) (action : Action)
    → Some action ≡ action_in day slot.action → (word : ℕ)
    → is_granted day word slot ≡ grants word action
is_granted_is day slot action is word =
    sym (ap (λ (a : Option Action). option_map_or (grants word) a false) is)

bound_more : (day : RecordedDay) (slots : List Slot) (now : Slot) (word up_to bound : ℕ)
    → IsBound day slots word up_to bound → up_to ≤ length slots
    → IsBound day (slots ++ now ∷ []) word up_to bound
bound_more day slots now word up_to bound was most =
    let most_too : bound ≤ up_to = was.within in
    record {
      within = was.within;
      granted = λ slot least there.
          let inside : bound - 1 < length slots = omega arith in
          was.granted slot least (sym (get_first slots (now ∷ []) (bound - 1) inside) ∙ there);
      none = λ place slot from below there.
          let inside : place < length slots = omega arith in
          was.none place slot from below (sym (get_first slots (now ∷ []) place inside) ∙ there);
    }

pub chain_more : (day : RecordedDay) (slots : List Slot) (below : List ℕ) (last after : Counts)
    (now : Slot) (action : Action) (behind bound : ℕ) → IsChain day slots below last
    → Some action ≡ action_in day now.action → behind ≡ length slots + 1
    → Links last after action behind bound
    → IsChain day (slots ++ now ∷ []) (below ++ bound ∷ []) after
chain_more day slots below last after now action behind bound chain is behind_is links = record {
  long = length_push below bound ∙ ap (λ (n : ℕ). n + 1) chain.long
      ∙ sym (length_push slots now);
  links = λ word place at slot at_there there granted.
      by_place word place at slot there granted (got_push below bound place at at_there);
  lasts = λ word. by_word word (grants word action) refl;
}
  where
    long : length below ≡ length slots
    long = chain.long

    by_place : (word place at : ℕ) (slot : Slot) → slice_get (slots ++ now ∷ []) place ≡ Some slot
        → is_granted day word slot ≡ true
        → (slice_get below place ≡ Some at) ⊎ ((place ≡ length below) × (at ≡ bound))
        → IsBound day (slots ++ now ∷ []) word place at
    by_place word place at slot there granted (inl was) =
        let inside : place < length below = slice_get_within below place at was in
        let within : place < length slots = omega arith in
        let most : place ≤ length slots = omega arith in
        bound_more day slots now word place at
        (chain.links word place at slot was (sym (get_first slots (now ∷ []) place within) ∙ there)
        granted) most
    by_place word place at slot there granted (inr last_one) =
        let place_is : place ≡ length slots = last_one.0 ∙ chain.long in
        let both : Some now ≡ Some slot =
        sym (got_end slots now) ∙ ap (slice_get (slots ++ now ∷ [])) (sym place_is) ∙ there in
        let same : now ≡ slot = cc in
        let granted_it : grants word action ≡ true =
        sym (is_granted_is day now action is word)
        ∙ ap (λ (s : Slot). is_granted day word s) same ∙ granted in
        let bound_is : at ≡ count_in last word = last_one.1 ∙ links.told word granted_it in
        let most : length slots ≤ length slots = omega arith in
        subst (λ (n : ℕ). IsBound day (slots ++ now ∷ []) word n at) (sym place_is)
        (subst (λ (n : ℕ). IsBound day (slots ++ now ∷ []) word (length slots) n) (sym bound_is)
        (bound_more day slots now word (length slots) (count_in last word) (chain.lasts word) most))

    more : length (slots ++ now ∷ []) ≡ length slots + 1
    more = length_push slots now

    by_word : (word : ℕ) (b : Bool) → grants word action ≡ b
        → IsBound day (slots ++ now ∷ []) word (length (slots ++ now ∷ [])) (count_in after word)
    by_word word true test =
        let count : count_in after word ≡ length slots + 1 = links.noted word test ∙ behind_is in
        let back : count_in after word - 1 ≡ length slots = omega arith in
        record {
          within = omega (arith, more, count);
          granted = λ slot least there.
              let both : Some now ≡ Some slot = sym (got_end slots now)
              ∙ ap (slice_get (slots ++ now ∷ [])) (sym back) ∙ there in
              let same : now ≡ slot = cc in
              ap (λ (s : Slot). is_granted day word s) (sym same)
              ∙ is_granted_is day now action is word ∙ test;
          none = λ place slot from under there. absurd (omega (arith, more, count, from, under));
        }
    by_word word false test =
        let count : count_in after word ≡ count_in last word = links.others word test in
        let was = chain.lasts word in
        let most : count_in last word ≤ length slots = was.within in
        record {
          within = omega (arith, more, count, most);
          granted = λ slot least there.
              let least_too : 0 < count_in last word = omega (arith, least, count) in
              let inside : count_in last word - 1 < length slots = omega arith in
              was.granted slot least_too
              (sym (get_first slots (now ∷ []) (count_in last word - 1) inside)
              ∙ ap (λ (n : ℕ). slice_get (slots ++ now ∷ []) (n - 1)) (sym count) ∙ there);
          none = λ place slot from under there.
              by_end place slot (omega (arith, from, count)) (got_push slots now place slot there);
        }
      where
        by_end : (place : ℕ) (slot : Slot) → count_in last word ≤ place
            → (slice_get slots place ≡ Some slot) ⊎ ((place ≡ length slots) × (slot ≡ now))
            → is_granted day word slot ≡ false
        by_end place slot from (inl there) =
            (chain.lasts word).none place slot from (slice_get_within slots place slot there) there
        by_end place slot from (inr at_end) =
            ap (λ (s : Slot). is_granted day word s) at_end.1
            ∙ is_granted_is day now action is word ∙ test

pub right_more : (day : RecordedDay) (slots : List Slot) (now : Slot) → IsSlot day now
    → ((place : ℕ) (slot : Slot) → slice_get slots place ≡ Some slot → IsSlot day slot)
    → (place : ℕ) (slot : Slot) → slice_get (slots ++ now ∷ []) place ≡ Some slot
    → IsSlot day slot
right_more day slots now is right place slot there = by_end (got_push slots now place slot there)
  where
    by_end : (slice_get slots place ≡ Some slot) ⊎ ((place ≡ length slots) × (slot ≡ now))
        → IsSlot day slot
    by_end (inl was) = right place slot was
    by_end (inr at_end) = subst (IsSlot day) (sym at_end.1) is

-- The actions of an actor.

pub in_table_more : (before after : Table) (now action : ActionRef) → Puts before after now
    → IsInTable before action → IsInTable after action
in_table_more before after now action puts stands =
    subst (λ (slots : List Slot). StandsIn slots action (index_in after.firsts action))
    (sym puts.slots_are)
    (subst (λ (firsts : Counts). StandsIn (before.slots.items ++ puts.slot ∷ []) action
    (index_in firsts action)) (sym puts.firsts_are)
    (stands_more before.slots.items puts.slot action (index_in before.firsts action) stands))

pub one_more : (before after : Table) (now : ActionRef) (place : ℕ) → Puts before after now
    → length before.slots.items ≡ place → StandsIn after.slots.items now place
one_more before after now place puts long = record {
  slot = puts.slot;
  there = ap (λ (slots : List Slot). slice_get slots place) puts.slots_are
      ∙ ap (slice_get (before.slots.items ++ puts.slot ∷ [])) (sym long)
      ∙ got_end before.slots.items puts.slot;
  is_it = puts.is_it;
}

pub stand_more : (before after : Table) (now action : ActionRef) (place : ℕ)
    → Puts before after now → StandsIn before.slots.items action place
    → StandsIn after.slots.items action place
stand_more before after now action place puts stands =
    subst (λ (slots : List Slot). StandsIn slots action place) (sym puts.slots_are)
    (stands_more before.slots.items puts.slot action place stands)

pub actor_whole : (day : RecordedDay) (table : Table) (by : Actor) (actions : List Action)
    (up_to first : ℕ) → actions_of day by ≡ Some actions → length actions ≤ up_to
    → count_in table.firsts (key_of by) ≡ first
    → ((n : ℕ) → n < up_to → StandsIn table.slots.items (by, n + 1) (first + n))
    → HasActor day table by
actor_whole day table by actions up_to first are ended first_is stand number is =
    let found = action_within day by number is in
    let both : Some found.0 ≡ Some actions = sym found.1 ∙ are in
    let same : found.0 ≡ actions = cc in
    let most : number ≤ length actions =
    subst (λ (list : List Action). number ≤ length list) same found.3 in
    let least : 0 < number = found.2 in
    let below : number - 1 < up_to = omega arith in
    let back : (number - 1) + 1 ≡ number = omega arith in
    subst (λ (n : ℕ). StandsIn table.slots.items (by, number) (n + (number - 1))) (sym first_is)
    (subst (λ (n : ℕ). StandsIn table.slots.items (by, n) (first + (number - 1))) back
    (stand (number - 1) below))

-- All actions.

firm_apart : (one other : ℕ) → (one ≡ other → ⊥) → actor.Firm one ≡ actor.Firm other → ⊥
firm_apart one other apart same =
    let equal : one ≡ other = cc in
    apart equal

pub firms_more : (day : RecordedDay) (before after : Table) (firm : ℕ)
    → ((other : Actor) → (other ≡ actor.Firm firm → ⊥) → HasActor day before other
    → HasActor day after other)
    → HasActor day after (actor.Firm firm)
    → ((earlier : ℕ) → earlier < firm → HasActor day before (actor.Firm earlier))
    → (earlier : ℕ) → earlier < firm + 1 → HasActor day after (actor.Firm earlier)
firms_more day before after firm others now has =
    below_more (λ (n : ℕ). HasActor day after (actor.Firm n)) firm
    (λ earlier under.
    let apart : earlier ≡ firm → ⊥ = λ same. omega (arith, same, under) in
    others (actor.Firm earlier) (firm_apart earlier firm apart) (has earlier under)) now

pub table_whole : (config : Configuration) (day : RecordedDay) (before after : Table)
    → HasFirmsOf config day → AreNamedOnce day → IsBuilt day after
    → ((other : Actor) → (other ≡ actor.Clock → ⊥) → HasActor day before other
    → HasActor day after other)
    → HasActor day after actor.Clock
    → ((firm : ℕ) → firm < firms_of config → HasActor day before (actor.Firm firm))
    → IsTable day after
table_whole config day before after firms named built others clock has = record {
  named = named;
  built = built;
  each = λ action is. by_actor action.0 action.1 is;
}
  where
    by_actor : (by : Actor) (number : ℕ) → IsAction day (by, number)
        → IsInTable after (by, number)
    by_actor (actor.Firm firm) number is =
        let found = action_within day (actor.Firm firm) number is in
        let recorded = mapped (λ (lists : FirmLists). lists.actions) (firm_in day firm) found.0
        found.1 in
        let within = firm_within config day firms firm (ap is_some recorded.1) in
        others (actor.Firm firm) (λ same. cc) (has firm within) number is
    by_actor actor.Clock number is = clock number is
