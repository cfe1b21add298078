-- The earliest deadline of the rooms that are opening or open, told by the moments at which it has come.
use Rattle.step_replay.proofs.Common.{◌≡◌, ◌≤◌, ℕ, Bool, true, false, ◌||◌, nat_le, nat_lt, List}
use Rattle.step_replay.proofs.Common.{[], ◌∷◌, map, fold, Option, Some, None, if◌then◌else◌, refl}
use Rattle.step_replay.proofs.Common.{sym, ap, ◌∙◌, subst, arith, list_any, is_eq, or-false}
use Rattle.step_replay.proofs.Common.{nat_tests, same_from_decides, RoomRef, Configuration}
use Rattle.step_replay.proofs.Common.{has_room, deadline_of, RoomsStand, has_come, room_cmp, Fact}
use Rattle.step_replay.proofs.Common.{of_room, rooms_of, OpenRooms}
use Rattle.std.proofs.Math.Bool.{or_assoc}
use Rattle.step_replay.specs.Deadlines.{earlier, next_deadline}
use Rattle.step_replay.specs.OpenRooms.{IsEarliest}
use Rattle.step_replay.proofs.OpenRoomLemmas.{held, held_is, one_room, own_room, passing, with_room}
use Rattle.step_replay.proofs.RoomOrder.{is_among, rooms_are}

-- Deadlines that have come at the same moments are one.
same_come : (one other : Option ℕ) → ((moment : ℕ) → has_come moment one ≡ has_come moment other)
    → one ≡ other
same_come None None each = refl
same_come None (Some other) each =
    let never : false ≡ nat_le other other = each other in
    grind (arith, nat_tests, never)
same_come (Some one) None each =
    let never : nat_le one one ≡ false = each one in
    grind (arith, nat_tests, never)
same_come (Some one) (Some other) each =
    let here : nat_le one one ≡ nat_le other one = each one in
    let there : nat_le one other ≡ nat_le other other = each other in
    let same : one ≡ other = grind (arith, nat_tests, here, there) in
    ap (λ (d : ℕ). Some d) same

module _ (moment : ℕ) where
  -- the earlier of two has come where one of them has
  come_earlier : (one other : Option ℕ)
      → has_come moment (earlier one other) ≡ (has_come moment one || has_come moment other)
  come_earlier None other = refl
  come_earlier (Some one) None = sym (or-false (nat_le one moment))
  come_earlier (Some one) (Some other) = by_test (nat_lt other one) refl
    where
      by_test : (b : Bool) → nat_lt other one ≡ b → has_come moment (if b then Some other else Some one)
          ≡ (nat_le one moment || nat_le other moment)
      by_test true low = grind (arith, nat_tests, low)
      by_test false high = grind (arith, nat_tests, high)

  come_among : (before : Option ℕ) (deadline : RoomRef → Option ℕ) (rooms : List RoomRef)
      → has_come moment (fold earlier before (map deadline rooms))
      ≡ (has_come moment before || list_any (λ room. has_come moment (deadline room)) rooms)
  come_among before deadline [] = sym (or-false (has_come moment before))
  come_among before deadline (room ∷ rooms) =
      come_among (earlier before (deadline room)) deadline rooms
      ∙ ap (λ (b : Bool). b || list_any (λ room. has_come moment (deadline room)) rooms)
      (come_earlier before (deadline room))
      ∙ or_assoc (has_come moment before) (has_come moment (deadline room)) _

module _ (config : Configuration) (facts : List Fact) (rooms : OpenRooms)
    (stands : RoomsStand config facts rooms) where
  -- the deadline of a room that the venue has
  abbrev of_facts : RoomRef → Option ℕ
  of_facts room = deadline_of (of_room room facts)

  has_deadline : (b : Bool) (deadline : Option ℕ) (moment : ℕ)
      → (if b then deadline else None) ≡ Some moment → b ≡ true
  has_deadline true deadline moment is = refl
  has_deadline false deadline moment is = cc

  module _ (moment : ℕ) where
    -- the earliest that is kept has come only where that of a room has
    there : (found : Option ℕ) → IsEarliest rooms found → has_come moment found ≡ true
        → list_any (λ room. has_come moment (of_facts room)) (rooms_of config) ≡ true
    there None empty come = cc
    there (Some deadline) first come =
        let room : RoomRef = first.room in
        let is = held_is config facts rooms stands room deadline first.held in
        let has : has_room config room.investor room.n ≡ true = has_deadline _ (of_facts room) _ is in
        let own : of_facts room ≡ Some deadline = sym (with_room config facts true room has) ∙ is in
        let passed = passing (λ other. is_eq (room_cmp room other)) (rooms_of config)
        (rooms_are config room ∙ has) in
        passed.there (λ other. has_come moment (of_facts other))
        (subst (λ (r : RoomRef). has_come moment (of_facts r) ≡ true)
        (one_room room passed.item passed.passes) (ap (has_come moment) own ∙ come))

    -- and has where that of a room has
    by_deadline : (room : RoomRef) → has_room config room.investor room.n ≡ true
        → (own : Option ℕ) → of_facts room ≡ own → has_come moment own ≡ true
        → (found : Option ℕ) → IsEarliest rooms found → has_come moment found ≡ true
    by_deadline room has None is come found first = cc
    by_deadline room has (Some own) is come None empty =
        let never = sym (empty (own, room))
        ∙ held config facts rooms stands room own (with_room config facts true room has ∙ is) in
        cc
    by_deadline room has (Some own) is come (Some deadline) first =
        let least : deadline ≤ own = first.least (own, room)
        (held config facts rooms stands room own (with_room config facts true room has ∙ is)) in
        grind (arith, nat_tests, least, come)

    back : (found : Option ℕ) → IsEarliest rooms found
        → list_any (λ room. has_come moment (of_facts room)) (rooms_of config) ≡ true
        → has_come moment found ≡ true
    back found first any =
        let passed = passing (λ room. has_come moment (of_facts room)) (rooms_of config) any in
        let room : RoomRef = passed.item in
        by_deadline room
        (sym (rooms_are config room) ∙ passed.there (λ other. is_eq (room_cmp room other)) (own_room room))
        (of_facts room) refl passed.passes found first

  -- the earliest by the facts
  pub earliest_is : (found : Option ℕ) → IsEarliest rooms found → found ≡ next_deadline config facts
  unfolding next_deadline
  earliest_is found first = same_come found _ (λ moment.
      same_from_decides {P = list_any (λ room. has_come moment (of_facts room)) (rooms_of config) ≡ true}
      _ _ (there moment found first, back moment found first) (λ is. is, λ is. is)
      ∙ sym (come_among moment None of_facts (rooms_of config)))
