-- The last action of the way is placed: the order with it.
use Rattle.std.proofs.Common.{◌≡◌, ◌<◌, ◌≤◌, ℕ, ◌+◌, ◌-◌, Bool, true, false, ◌||◌, ◌⊎◌, inl, inr}
use Rattle.std.proofs.Common.{List, [], ◌∷◌, ◌++◌, length, take, count_by, slice_get, Some, arith}
use Rattle.std.proofs.Common.{refl, sym, ap, subst, ◌∙◌}
use Rattle.std.specs.List.{list_any}
use Rattle.std.proofs.lemmas.List.{take-append-le, take_all}
use Rattle.std.proofs.lemmas.List.Folds.{list_any-append}
use Rattle.std.proofs.lemmas.Option.{slice_get_within}
use Rattle.std.proofs.lemmas.Bool.{cases_eq}
use Rattle.step_replay.specs.AuditTrail.{is_same_actor}
use Rattle.venue_steps.specs.declared.actors.Actor.{Actor}
use Rattle.day_weaving.specs.DayOrder.{ComesInTurn, is_by, is_granted, is_refused}
use Rattle.day_weaving.specs.OrderCounts.{AreOfActors, count_in, key_of}
use Rattle.day_weaving.specs.OrderSearch.{Grows, HasCome, HasOrder, IsOnWay, IsReady, IsSlot}
use Rattle.day_weaving.specs.OrderSearch.{IsTable, Places, Stands, grants_to}
use Rattle.recorded_days.specs.Records.{ActionRef, RecordedDay, actions_of}
use Rattle.recorded_days.specs.declared.actions.Action.{Action}
use Rattle.day_weaving.specs.declared.weave_plan.Slot.{Slot}
use Rattle.day_weaving.specs.declared.weave_search.Search.{Search}
use Rattle.day_weaving.specs.declared.weave_table.Table.{Table}
use Rattle.day_weaving.proofs.DayFormLemmas.{action_within}
use Rattle.day_weaving.proofs.MessageLemmas.{count_one}
use Rattle.day_weaving.proofs.PlaceNotes.{key_apart}
use Rattle.day_weaving.proofs.ListPlaces.{got_push}
use Rattle.step_replay.specs.QueueLemmas.{same_actor, one_actor}

-- The last action of the way is placed.

module _ (day : RecordedDay) (table : Table) (before after : Search) (slot : Slot)
    (whole : IsTable day table) (stands : Stands day table before) (is_slot : IsSlot day slot)
    (top : slice_get before.way.items (length before.way.items - 1) ≡ Some slot.action)
    (ready : IsReady day before.done slot) (places : Places table before after slot) where
  pub on_it : IsOnWay day table before (length before.way.items - 1) slot.action
  on_it = stands.on_way (length before.way.items - 1) slot.action top

  pub next_number : slot.action.1 ≡ count_in before.done (key_of slot.action.0) + 1
  next_number =
      let left : count_in before.done (key_of slot.action.0) < slot.action.1 = on_it.left in
      let most : slot.action.1 ≤ count_in before.done (key_of slot.action.0) + 1 = ready.of_actor in
      omega arith

  pub same_key_or_not : (key : ℕ) → (key ≡ key_of slot.action.0) ⊎ (key ≡ key_of slot.action.0 → ⊥)
  same_key_or_not key = cases_eq key (key_of slot.action.0)

  pub placed_grows : Grows before.done after.done
  placed_grows key = by_key (same_key_or_not key)
    where
      by_key : (key ≡ key_of slot.action.0) ⊎ (key ≡ key_of slot.action.0 → ⊥)
          → count_in before.done key ≤ count_in after.done key
      by_key (inl same) =
          let now : count_in after.done key ≡ slot.action.1 =
          ap (count_in after.done) same ∙ places.done_is.set in
          let was : count_in before.done key ≡ count_in before.done (key_of slot.action.0) =
          ap (count_in before.done) same in
          omega (arith, now, was, next_number)
      by_key (inr apart) =
          let now : count_in after.done key ≡ count_in before.done key =
          places.done_is.others key apart in
          omega (arith, now)

  pub come_stays : (action : ActionRef) → HasCome before.done action → HasCome after.done action
  come_stays action come =
      let grows : count_in before.done (key_of action.0) ≤ count_in after.done (key_of action.0) =
      placed_grows (key_of action.0) in
      omega (arith, come, grows)

  pub slot_come : HasCome after.done slot.action
  slot_come =
      let now : count_in after.done (key_of slot.action.0) ≡ slot.action.1 = places.done_is.set in
      omega (arith, now)

  -- the order

  turn : ComesInTurn day before.order.items slot
  turn = record {
    is_action = is_slot.is_action;
    stands = is_slot.stands;
    of_actor = next_number ∙ ap (λ (n : ℕ). n + 1) (stands.order.actors slot.action.0);
    at_site = ready.at_site before.order.items stands.order.actors;
    by_word = λ word granted. by_test word granted
        (list_any (is_refused day word) before.order.items) refl;
  }
    where
      by_test : (word : ℕ) → is_granted day word slot ≡ true → (b : Bool)
          → list_any (is_refused day word) before.order.items ≡ b
          → list_any (is_refused day word) before.order.items ≡ false
      by_test word granted false test = test
      by_test word granted true test =
          let come : slot.action.1 ≤ count_in before.done (key_of slot.action.0) =
          stands.order.words word test slot.action granted in
          absurd (omega (arith, come, next_number))

  placed_turns : (place : ℕ) (now : Slot)
      → slice_get (before.order.items ++ slot ∷ []) place ≡ Some now
      → ComesInTurn day (take place (before.order.items ++ slot ∷ [])) now
  placed_turns place now there =
      by_end (got_push before.order.items slot place now there)
    where
      by_end : (slice_get before.order.items place ≡ Some now)
          ⊎ ((place ≡ length before.order.items) × (now ≡ slot))
          → ComesInTurn day (take place (before.order.items ++ slot ∷ [])) now
      by_end (inl was) =
          let within : place < length before.order.items =
          slice_get_within before.order.items place now was in
          let most : place ≤ length before.order.items = omega arith in
          subst (λ (list : List Slot). ComesInTurn day list now)
          (sym (take-append-le place before.order.items (slot ∷ []) most))
          (stands.order.turns place now was)
      by_end (inr last) =
          let most : place ≤ length before.order.items = omega (arith, last.0) in
          let whole_of : take place before.order.items ≡ before.order.items =
          take_all place before.order.items (omega (arith, last.0)) in
          subst (λ (list : List Slot). ComesInTurn day list now)
          (sym (take-append-le place before.order.items (slot ∷ []) most ∙ whole_of))
          (subst (ComesInTurn day before.order.items) (sym last.1) turn)

  placed_actors : AreOfActors after.done (before.order.items ++ slot ∷ [])
  placed_actors by = by_test (is_same_actor slot.action.0 by) refl
    where
      by_test : (b : Bool) → is_same_actor slot.action.0 by ≡ b
          → count_in after.done (key_of by) ≡ count_by (is_by by) (before.order.items ++ slot ∷ [])
      by_test true test =
          let same : slot.action.0 ≡ by = one_actor slot.action.0 by test in
          let now : count_in after.done (key_of by) ≡ slot.action.1 =
          ap (λ (a : Actor). count_in after.done (key_of a)) (sym same) ∙ places.done_is.set in
          let number : slot.action.1 ≡ count_in before.done (key_of by) + 1 =
          next_number ∙ ap (λ (a : Actor). count_in before.done (key_of a) + 1) same in
          let was : count_in before.done (key_of by) ≡ count_by (is_by by) before.order.items =
          stands.order.actors by in
          let more : count_by (is_by by) (before.order.items ++ slot ∷ [])
          ≡ count_by (is_by by) before.order.items + 1 =
          count_one (is_by by) before.order.items slot true test in
          omega (arith, now, number, was, more)
      by_test false test =
          let apart : key_of by ≡ key_of slot.action.0 → ⊥ =
          λ same.
          let one : by ≡ slot.action.0 = key_apart by slot.action.0 same in
          let clash : true ≡ false = sym (same_actor slot.action.0)
          ∙ ap (is_same_actor slot.action.0) (sym one) ∙ test in
          absurd cc in
          let now : count_in after.done (key_of by) ≡ count_in before.done (key_of by) =
          places.done_is.others (key_of by) apart in
          let was : count_in before.done (key_of by) ≡ count_by (is_by by) before.order.items =
          stands.order.actors by in
          let more : count_by (is_by by) (before.order.items ++ slot ∷ [])
          ≡ count_by (is_by by) before.order.items + 0 =
          count_one (is_by by) before.order.items slot false test in
          omega (arith, now, was, more)

  placed_within : (by : Actor) (actions : List Action) → actions_of day by ≡ Some actions
      → count_in after.done (key_of by) ≤ length actions
  placed_within by actions are = by_key (same_key_or_not (key_of by))
    where
      by_key : (key_of by ≡ key_of slot.action.0) ⊎ (key_of by ≡ key_of slot.action.0 → ⊥)
          → count_in after.done (key_of by) ≤ length actions
      by_key (inl same) =
          let one : slot.action.0 ≡ by = key_apart slot.action.0 by (sym same) in
          let among = action_within day slot.action.0 slot.action.1 is_slot.is_action in
          let both : Some among.0 ≡ Some actions =
          sym among.1 ∙ ap (actions_of day) one ∙ are in
          let list : among.0 ≡ actions = cc in
          let most : slot.action.1 ≤ length actions =
          subst (λ (l : List Action). slot.action.1 ≤ length l) list among.3 in
          let now : count_in after.done (key_of by) ≡ slot.action.1 =
          ap (count_in after.done) same ∙ places.done_is.set in
          omega (arith, now, most)
      by_key (inr apart) =
          let now : count_in after.done (key_of by) ≡ count_in before.done (key_of by) =
          places.done_is.others (key_of by) apart in
          let most : count_in before.done (key_of by) ≤ length actions =
          stands.order.within by actions are in
          omega (arith, now, most)

  placed_words : (word : ℕ)
      → list_any (is_refused day word) (before.order.items ++ slot ∷ []) ≡ true
      → (one : ActionRef) → grants_to day word one ≡ true → HasCome after.done one
  placed_words word refused one granted =
      either (list_any (is_refused day word) before.order.items) (is_refused day word slot) refl refl
      (sym (list_any-append (is_refused day word) before.order.items (slot ∷ [])) ∙ refused)
    where
      either : (a b : Bool) → list_any (is_refused day word) before.order.items ≡ a
          → is_refused day word slot ≡ b
          → (list_any (is_refused day word) before.order.items
          || (is_refused day word slot || false)) ≡ true
          → HasCome after.done one
      either true b test now both =
          come_stays one (stands.order.words word test one granted)
      either false true test now both = come_stays one (ready.by_word word now one granted)
      either false false test now both =
          let none : (list_any (is_refused day word) before.order.items
          || (is_refused day word slot || false)) ≡ false =
          ap (λ (a : Bool). a || (is_refused day word slot || false)) test
          ∙ ap (λ (b : Bool). false || (b || false)) now in
          let clash : false ≡ true = sym none ∙ both in
          absurd cc

  pub placed_order : HasOrder day after.done after.order.items
  placed_order =
      subst (λ (order : List Slot). HasOrder day after.done order) (sym places.order_is) (record {
        turns = placed_turns;
        actors = placed_actors;
        within = placed_within;
        words = placed_words;
      })
