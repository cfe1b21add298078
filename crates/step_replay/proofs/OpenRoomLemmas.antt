-- The rooms that are opening or open, by their deadlines, as the code keeps them and by the facts.
use Rattle.step_replay.proofs.Common.{◌≡◌, ◌≤◌, ℕ, Bool, true, false, ◌&&◌, ◌||◌, cond, nat_le}
use Rattle.step_replay.proofs.Common.{List, [], ◌∷◌, ◌++◌, ◌==◌, Option, Some, None, if◌then◌else◌}
use Rattle.step_replay.proofs.Common.{refl, sym, ap, ◌∙◌, subst, arith, eq-eqb, AllByRecursion}
use Rattle.step_replay.proofs.Common.{list_any, IsStrictlySortedBy, deref, is_eq, Less, or-false}
use Rattle.step_replay.proofs.Common.{nat_tests, same_from_decides, rest_more, RoomRef}
use Rattle.step_replay.proofs.Common.{is_same_room, RoomFact, Configuration}
use Rattle.step_replay.proofs.Common.{has_room, any_due, entry_cmp, is_due, room_cmp, has_come}
use Rattle.step_replay.proofs.Common.{IsEmpty, Notes, RoomsStand, deadline_by}
use Rattle.step_replay.proofs.Common.{OpenRooms, same_room, deadline_of, Fact, of_room, room_stays}
use denote.Ref.{Bor}
use Rattle.std.specs.Map.Iter.{TakesFirst}
use Rattle.std.specs.Cmp.{IsTotalOrder}
use Rattle.std.specs.Ordering.{is_gt, nat_cmp, ordering_then}
use Rattle.std.specs.declared.cmp.Ordering.{Ordering}
use Rattle.std.specs.declared.cmp.Ordering.TheVariants.{Equal, Greater}
use Rattle.std.proofs.lemmas.Bool.{and_from, and_parts}
use Rattle.std.proofs.lemmas.Cmp.{nat_cmp_total, on_total, then_total, tied_itself}
use Rattle.std.proofs.lemmas.List.Folds.{Any-from_list_any, list_any_at}
use Rattle.std.proofs.lemmas.Map.Keys.{le_from_not_gt, sorted_head, sorted_tail}
use Rattle.std.proofs.lemmas.Map.Lookups.{CmpEqualImpliesEq, exact_pairs, exact_unsigned}
use Rattle.step_replay.specs.OpenRooms.{Entry, holds, is_due_in, is_deadline}
use Rattle.step_replay.proofs.StepEffects.{AreOf, is_there}

-- An item of a list that passes a test, so that what it passes some item passes.
pub record Passing {X : Type 0} (test : X → Bool) (xs : List X) : Type 0 where
  pub item : X
  pub passes : test item ≡ true
  pub there : (other : X → Bool) → other item ≡ true → list_any other xs ≡ true

pub passing : {X : Type 0} (test : X → Bool) (xs : List X) → list_any test xs ≡ true → Passing test xs
passing test xs any =
    let found = Any-from_list_any test xs any in
    record {
      item = found.1;
      passes = found.4;
      there = λ other so. list_any_at other xs found.0 found.1 found.2 (rw found.3 so);
    }

-- Orders.

equal : (o : Ordering) → is_eq o ≡ true → o ≡ Equal
equal Less is = cc
equal Equal is = refl
equal Greater is = cc

pub room_total : IsTotalOrder room_cmp
room_total = then_total (on_total (λ (room : RoomRef). room.investor) nat_cmp_total)
    (on_total (λ (room : RoomRef). room.n) nat_cmp_total)

entry_total : IsTotalOrder entry_cmp
entry_total = then_total (on_total (λ (entry : Entry). entry.0) nat_cmp_total)
    (on_total (λ (entry : Entry). entry.1) room_total)

pub rooms_exact : CmpEqualImpliesEq room_cmp
rooms_exact one other is = ap room_at (exact_pairs nat_cmp nat_cmp exact_unsigned exact_unsigned
    (one.investor, one.n) (other.investor, other.n) is)
  where
    room_at : ℕ × ℕ → RoomRef
    room_at pair = record { investor = pair.0; n = pair.1 }

pub one_room : (one other : RoomRef) → is_eq (room_cmp one other) ≡ true → one ≡ other
one_room one other is = rooms_exact one other (equal (room_cmp one other) is)

one_entry : (one other : Entry) → is_eq (entry_cmp one other) ≡ true → one ≡ other
one_entry one other is =
    exact_pairs nat_cmp room_cmp exact_unsigned rooms_exact one other (equal (entry_cmp one other) is)

pub own_room : (room : RoomRef) → is_eq (room_cmp room room) ≡ true
own_room room = ap is_eq (tied_itself room_total room)

pub tied_rooms : (one other : RoomRef) → is_eq (room_cmp one other) ≡ is_same_room one other
tied_rooms one other = same_from_decides {P = is_same_room one other ≡ true} _ _ (
  λ is. subst (λ (r : RoomRef). is_same_room one r ≡ true) (one_room one other is) itself,
  λ same. subst (λ (r : RoomRef). is_eq (room_cmp one r) ≡ true) (same_room one other same)
      (own_room one),
)
    (λ is. is, λ is. is)
  where
    itself : is_same_room one one ≡ true
    itself = rw (eq-eqb one.investor one.investor refl, eq-eqb one.n one.n refl) refl

-- The rooms whose deadline has come.

-- no later entry has an earlier deadline
pub not_earlier : (one other : Entry) → is_gt (entry_cmp one other) ≡ false → one.0 ≤ other.0
not_earlier one other is =
    le_from_not_gt one.0 other.0 (by_deadline (nat_cmp one.0 other.0) (room_cmp one.1 other.1) is)
  where
    by_deadline : (o p : Ordering) → is_gt (ordering_then o p) ≡ false → is_gt o ≡ false
    by_deadline Less p is = refl
    by_deadline Equal p is = refl
    by_deadline Greater p is = is

-- an entry that is not due stands before none that is
none_due : (moment : ℕ) (room : RoomRef) (first : Entry) (entries : List Entry)
    → nat_le first.0 moment ≡ false → AllByRecursion (λ entry. entry_cmp first entry ≡ Less) entries
    → any_due moment room (first ∷ entries) ≡ false
none_due moment room first [] late all = rw late refl
none_due moment room first (entry ∷ entries) late all =
    let from : first.0 ≤ entry.0 = not_earlier first entry (ap is_gt all.0) in
    let past : nat_le entry.0 moment ≡ false = grind (arith, nat_tests, from, late) in
    rw (late, past) (rw late at (none_due moment room first entries late all.1))

module _ (moment : ℕ) (x : Bor Entry) (left rest : List Entry) (next : Option (Bor Entry))
    (is : next ≡ Some x) (takes : TakesFirst deref left next rest)
    (sorted : IsStrictlySortedBy entry_cmp left) where
  left_is : left ≡ x.now ∷ rest
  left_is = rest_more deref left rest next x is takes

  pub rest_sorted : IsStrictlySortedBy entry_cmp rest
  rest_sorted = sorted_tail entry_cmp x.now rest (subst (IsStrictlySortedBy entry_cmp) left_is sorted)

  module _ (room : RoomRef) (before all : Bool)
      (was : (before || any_due moment room left) ≡ all) where
    -- it is due, and its room is one of them then
    pub due_next : (after : Bool) → nat_le x.now.0 moment ≡ true
        → after ≡ cond (is_eq (room_cmp x.now.1 room)) true before
        → (after || any_due moment room rest) ≡ all
    due_next after come now =
        ap (λ (b : Bool). b || any_due moment room rest) now
        ∙ moved (is_eq (room_cmp x.now.1 room)) _ before (any_due moment room rest) come
        ∙ ap (λ (l : List Entry). before || any_due moment room l) (sym left_is) ∙ was
      where
        moved : (here due b a : Bool) → due ≡ true → (cond here true b || a) ≡ (b || ((due && here) || a))
        moved here due b a is = grind (arith, nat_tests)

    -- it is not due, and none behind it is
    pub due_stops : nat_le x.now.0 moment ≡ false → before ≡ all
    due_stops late =
        let none = none_due moment room x.now rest late
        (sorted_head entry_cmp x.now rest (subst (IsStrictlySortedBy entry_cmp) left_is sorted)) in
        let nothing : any_due moment room left ≡ false = ap (any_due moment room) left_is ∙ none in
        sym (ap (λ (b : Bool). before || b) nothing ∙ or-false before) ∙ was

-- before the first fact no room is opening or open
pub rooms_begin : (config : Configuration) (rooms : OpenRooms) → IsEmpty rooms
    → RoomsStand config [] rooms
unfolding of_room
rooms_begin config rooms empty entry =
    empty entry ∙ by_room (has_room config entry.1.investor entry.1.n)
  where
    by_room : (b : Bool)
        → false ≡ is_deadline (if b then deadline_of (of_room entry.1 []) else None) entry.0
    by_room true = refl
    by_room false = refl

module _ (config : Configuration) (facts : List Fact) where
  -- The deadline of a room, by the facts.

  pub with_room : (b : Bool) (room : RoomRef) → has_room config room.investor room.n ≡ b
      → deadline_by config facts room ≡ (if b then deadline_of (of_room room facts) else None)
  with_room b room is =
      ap (λ (c : Bool). if c then deadline_of (of_room room facts) else None) is

  -- what is kept is a deadline, and a deadline is kept

  found_among : (found : Option ℕ) (deadline : ℕ) → is_deadline found deadline ≡ true
      → found ≡ Some deadline
  found_among None deadline is = cc
  found_among (Some other) deadline is =
      let test : (other == deadline) ≡ true = is in
      let same : other ≡ deadline = grind (arith, nat_tests, test) in
      ap (λ (d : ℕ). Some d) same

  module _ (rooms : OpenRooms) (stands : RoomsStand config facts rooms) (room : RoomRef) where
    pub held : (deadline : ℕ) → deadline_by config facts room ≡ Some deadline
        → holds rooms (deadline, room) ≡ true
    held deadline is =
        stands (deadline, room) ∙ ap (λ (d : Option ℕ). is_deadline d deadline) is
        ∙ eq-eqb deadline deadline refl

    pub held_is : (deadline : ℕ) → holds rooms (deadline, room) ≡ true
        → deadline_by config facts room ≡ Some deadline
    held_is deadline held = found_among _ deadline (sym (stands (deadline, room)) ∙ held)

    -- the rooms that are due
    pub due_is : (moment : ℕ)
        → any_due moment room rooms.by_deadline.keys ≡ is_due config moment facts room
    due_is moment = same_from_decides {P = is_due config moment facts room ≡ true} _ _ (there, λ come. back (deadline_by config facts room) refl come)
        (λ is. is, λ is. is)
      where
        there : any_due moment room rooms.by_deadline.keys ≡ true → is_due config moment facts room ≡ true
        there any =
            let passed = passing (is_due_in moment room) rooms.by_deadline.keys any in
            let entry : Entry = passed.item in
            let parts = and_parts (nat_le entry.0 moment) _ passed.passes in
            let same : entry.1 ≡ room = one_room entry.1 room parts.1 in
            let own : holds rooms entry ≡ true = passed.there (λ other. is_eq (entry_cmp entry other))
            (ap is_eq (tied_itself entry_total entry)) in
            ap (has_come moment) (held_is entry.0
            (subst (λ (r : RoomRef). holds rooms (entry.0, r) ≡ true) same own)) ∙ parts.0

        back : (found : Option ℕ) → deadline_by config facts room ≡ found
            → has_come moment found ≡ true → any_due moment room rooms.by_deadline.keys ≡ true
        back None is come = cc
        back (Some deadline) is come =
            let passed = passing (λ (entry : Entry). is_eq (entry_cmp (deadline, room) entry))
            rooms.by_deadline.keys (held deadline is) in
            passed.there (is_due_in moment room)
            (subst (λ (entry : Entry). is_due_in moment room entry ≡ true)
            (one_entry (deadline, room) passed.item passed.passes) (and_from _ _ come (own_room room)))

  -- After facts more.

  pub deadline_kept : (more : List Fact) (at : Option RoomRef) (room : RoomRef) → AreOf at more
      → is_there at room ≡ false
      → deadline_by config (facts ++ more) room ≡ deadline_by config facts room
  deadline_kept more at room are other =
      ap (λ (l : List RoomFact). if has_room config room.investor room.n then deadline_of l else None)
      (room_stays room facts more (are.elsewhere room other))

  -- nothing came to a room
  pub rooms_rest : (more : List Fact) (rooms : OpenRooms) → RoomsStand config facts rooms
      → AreOf None more → RoomsStand config (facts ++ more) rooms
  rooms_rest more rooms stands are entry =
      stands entry
      ∙ ap (λ (d : Option ℕ). is_deadline d entry.0) (sym (deadline_kept more None entry.1 are refl))

  pub rooms_noted : (more : List Fact) (room : RoomRef) (had now : Option ℕ)
      (before after : OpenRooms) → RoomsStand config facts before → AreOf (Some room) more
      → had ≡ deadline_by config facts room → now ≡ deadline_by config (facts ++ more) room
      → Notes room had now before after → RoomsStand config (facts ++ more) after
  rooms_noted more room had now before after stands are had_is now_is notes entry =
      notes (λ e same. rw (had_is ∙ ap (deadline_by config facts) (same_room room e.1 same)) (stands e))
      entry ∙ by_test (is_same_room room entry.1) refl
    where
      by_test : (b : Bool) → is_same_room room entry.1 ≡ b
          → (if b then is_deadline now entry.0 else holds before entry)
          ≡ is_deadline (deadline_by config (facts ++ more) entry.1) entry.0
      by_test true same =
          ap (λ (d : Option ℕ). is_deadline d entry.0)
          (now_is ∙ ap (deadline_by config (facts ++ more)) (same_room room entry.1 same))
      by_test false other =
          stands entry ∙ ap (λ (d : Option ℕ). is_deadline d entry.0)
          (sym (deadline_kept more (Some room) entry.1 are other))
