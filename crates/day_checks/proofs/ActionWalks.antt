-- The walk over the actions at a place finds each one's event wherever each event is that of an
-- action, in the order of the actions: it takes an event as soon as an action may have left it, and
-- what stood behind is then still that of the later ones.
use Rattle.std.proofs.Common.{◌≡◌, ◌⊎◌, inl, inr, refl, sym, ◌∙◌, Bool, true, false, ◌&&◌, List, []}
use Rattle.std.proofs.Common.{◌∷◌, Option, Some, None, is_some, if◌then◌else◌}
use Rattle.std.proofs.lemmas.Bool.{and_parts}
use Rattle.std.specs.List.{list_all}
use Rattle.step_replay.specs.Lists.{Every}
use Rattle.venue_steps.specs.declared.actors.Actor.{Actor}
use Rattle.recorded_days.specs.Records.{ActionRef, DealerLists, InvestorLists, RecordedDay}
use Rattle.recorded_days.specs.Records.{RoomLists, action_in}
use Rattle.recorded_days.specs.declared.actions.Action.{Action}
use Rattle.day_checks.specs.DayActions.{EventsAreOfActions, are_left, behind_in, is_dealer_left}
use Rattle.day_checks.specs.DayActions.{is_investor_left, is_room_left, left_at_dealer}
use Rattle.day_checks.specs.DayActions.{left_at_investor, left_in_room}
use Rattle.day_checks.specs.DayPromises.{AreOfActions, IsInvestorOfActions, IsLeftBy, IsOfActions}
use Rattle.day_checks.specs.DayPromises.{IsRoomOfActions}

-- tests that each pass, and what they decide
pub every_passes : {X : Type 0} (test : X → Bool) (P : X → Type 0)
    → ((x : X) → test x ≡ true → P x) → (xs : List X) → list_all test xs ≡ true → Every P xs
every_passes test P so [] e = tt
every_passes test P so (x ∷ xs) e =
    let both = and_parts (test x) (list_all test xs) e in
    (so x both.0, every_passes test P so xs both.1)

pub both_true : (a b : Bool) → a ≡ true → b ≡ true → (a && b) ≡ true
both_true true b is e = e
both_true false b is e = is

pub passes_each : {X : Type 0} (test : X → Bool) (P : X → Type 0)
    → ((x : X) → P x → test x ≡ true) → (xs : List X) → Every P xs → list_all test xs ≡ true
passes_each test P so [] e = refl
passes_each test P so (x ∷ xs) e =
    both_true (test x) (list_all test xs) (so x e.0) (passes_each test P so xs e.1)

module _ {E : Type 0} (left : E → Actor → Action → Bool) (day : RecordedDay) where
  -- the first event, where the action is known
  chosen : (others : List ActionRef) (by : Actor) (event : E) (later : List E) (action : Action)
      → ((events : List E) → are_left left day others events ≡ true
      → AreOfActions left day others events)
      → (is : Bool) → left event by action ≡ is
      → are_left left day others (if is then later else event ∷ later) ≡ true
      → AreOfActions left day others (event ∷ later)
      ⊎ ((left event by action ≡ true) × AreOfActions left day others later)
  chosen others by event later action so true is e = inr (is, so later e)
  chosen others by event later action so false is e = inl (so (event ∷ later) e)

  walked : (others : List ActionRef) (by : Actor) (event : E) (later : List E)
      (action : Option Action)
      → ((events : List E) → are_left left day others events ≡ true
      → AreOfActions left day others events)
      → (is_some action && are_left left day others (behind_in left by action (event ∷ later)))
      ≡ true
      → (is_some action ≡ true) × (AreOfActions left day others (event ∷ later)
      ⊎ (IsLeftBy left event by action × AreOfActions left day others later))
  walked others by event later None so e = cc
  walked others by event later (Some action) so e =
      (refl, chosen others by event later action so (left event by action) refl e)

  walked_none : (others : List ActionRef) (by : Actor) (action : Option Action)
      → ((events : List E) → are_left left day others events ≡ true
      → AreOfActions left day others events)
      → (is_some action && are_left left day others (behind_in left by action [])) ≡ true
      → (is_some action ≡ true) × AreOfActions left day others []
  walked_none others by None so e = cc
  walked_none others by (Some action) so e = (refl, so [] e)

  -- what the walk finds is so
  pub walk_is_right : (order : List ActionRef) (events : List E)
      → are_left left day order events ≡ true → AreOfActions left day order events
  walk_is_right [] [] e = tt
  walk_is_right [] (event ∷ later) e = cc
  walk_is_right (one ∷ others) [] e =
      walked_none others one.0 (action_in day one) (walk_is_right others) e
  walk_is_right (one ∷ others) (event ∷ later) e =
      walked others one.0 event later (action_in day one) (walk_is_right others) e

  -- where events are those of actions, so are those behind the first
  one_less : (order : List ActionRef) (event : E) (later : List E)
      → AreOfActions left day order (event ∷ later) → AreOfActions left day order later
  one_less [] event later e = absurd e
  one_less (one ∷ others) event [] e = elim e.1 [
    | inl behind ↦ (e.0, one_less others event [] behind)
    | inr first ↦ (e.0, first.1)
  ]
  one_less (one ∷ others) event (next ∷ later) e = elim e.1 [
    | inl behind ↦ (e.0, inl (one_less others event (next ∷ later) behind))
    | inr first ↦ (e.0, inl first.1)
  ]

  taken : (others : List ActionRef) (by : Actor) (event : E) (later : List E) (action : Action)
      → ((events : List E) → AreOfActions left day others events
      → are_left left day others events ≡ true)
      → AreOfActions left day others (event ∷ later)
      ⊎ ((left event by action ≡ true) × AreOfActions left day others later)
      → (is : Bool) → left event by action ≡ is
      → are_left left day others (if is then later else event ∷ later) ≡ true
  taken others by event later action so (inl behind) true is =
      so later (one_less others event later behind)
  taken others by event later action so (inr first) true is = so later first.1
  taken others by event later action so (inl behind) false is = so (event ∷ later) behind
  taken others by event later action so (inr first) false is =
      let no : false ≡ true = sym is ∙ first.0 in cc

  found : (others : List ActionRef) (by : Actor) (event : E) (later : List E)
      (action : Option Action)
      → ((events : List E) → AreOfActions left day others events
      → are_left left day others events ≡ true)
      → is_some action ≡ true
      → AreOfActions left day others (event ∷ later)
      ⊎ (IsLeftBy left event by action × AreOfActions left day others later)
      → (is_some action && are_left left day others (behind_in left by action (event ∷ later)))
      ≡ true
  found others by event later None so known e = known
  found others by event later (Some action) so known e =
      taken others by event later action so e (left event by action) refl

  found_none : (others : List ActionRef) (by : Actor) (action : Option Action)
      → is_some action ≡ true → are_left left day others [] ≡ true
      → (is_some action && are_left left day others (behind_in left by action [])) ≡ true
  found_none others by None known e = known
  found_none others by (Some action) known e = e

  -- and the walk finds what is so
  pub walk_finds : (order : List ActionRef) (events : List E) → AreOfActions left day order events
      → are_left left day order events ≡ true
  walk_finds [] [] e = refl
  walk_finds [] (event ∷ later) e = absurd e
  walk_finds (one ∷ others) [] e =
      found_none others one.0 (action_in day one) e.0 (walk_finds others [] e.1)
  walk_finds (one ∷ others) (event ∷ later) e =
      found others one.0 event later (action_in day one) (walk_finds others) e.0 e.1

module _ (day : RecordedDay) where
  investor_walked : (investor : InvestorLists) → is_investor_left day investor ≡ true
      → IsInvestorOfActions day investor
  investor_walked investor e =
      let both = and_parts (are_left left_at_investor day investor.order investor.events)
      (list_all (is_room_left day) investor.rooms) e in (
        walk_is_right left_at_investor day investor.order investor.events both.0,
        every_passes (is_room_left day) (IsRoomOfActions day)
            (λ (room : RoomLists). walk_is_right left_in_room day room.order room.events)
            investor.rooms both.1,
      )

  investor_found : (investor : InvestorLists) → IsInvestorOfActions day investor
      → is_investor_left day investor ≡ true
  investor_found investor e =
      both_true (are_left left_at_investor day investor.order investor.events)
      (list_all (is_room_left day) investor.rooms)
      (walk_finds left_at_investor day investor.order investor.events e.0)
      (passes_each (is_room_left day) (IsRoomOfActions day)
      (λ (room : RoomLists). walk_finds left_in_room day room.order room.events)
      investor.rooms e.1)

  -- the walks at all places
  pub walks_are_right : EventsAreOfActions day → IsOfActions day
  walks_are_right e = record {
    at_dealers = every_passes (is_dealer_left day)
        (λ (dealer : DealerLists). AreOfActions left_at_dealer day dealer.order dealer.events)
        (λ (dealer : DealerLists). walk_is_right left_at_dealer day dealer.order dealer.events)
        day.dealers e.at_dealers;
    at_investors = every_passes (is_investor_left day) (IsInvestorOfActions day) investor_walked
        day.investors e.at_investors;
  }

  pub walks_find : IsOfActions day → EventsAreOfActions day
  walks_find e = record {
    at_dealers = passes_each (is_dealer_left day)
        (λ (dealer : DealerLists). AreOfActions left_at_dealer day dealer.order dealer.events)
        (λ (dealer : DealerLists). walk_finds left_at_dealer day dealer.order dealer.events)
        day.dealers e.at_dealers;
    at_investors = passes_each (is_investor_left day) (IsInvestorOfActions day) investor_found
        day.investors e.at_investors;
  }
