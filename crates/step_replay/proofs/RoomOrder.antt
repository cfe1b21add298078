-- Every room of a venue: in order, and none is left out.
use Rattle.step_replay.proofs.Common.{◌≡◌, ◌<◌, ◌≤◌, ℕ, zero, suc, ◌+◌, ◌-◌, ◌==◌, Bool, true}
use Rattle.step_replay.proofs.Common.{false, ◌&&◌, ◌||◌, List, [], ◌∷◌, ◌++◌, length, Option, Some}
use Rattle.step_replay.proofs.Common.{None, if◌then◌else◌, nat_le, nat_lt, refl, sym, ap, ◌∙◌}
use Rattle.step_replay.proofs.Common.{arith, eq-eqb, ◌⊎◌, inl, inr, slice_get, AllByRecursion}
use Rattle.step_replay.proofs.Common.{list_any, IsStrictlySortedBy, is_eq, Less, and_left}
use Rattle.step_replay.proofs.Common.{both_ways, cases_lt, nat_tests, list_any-append, RoomRef}
use Rattle.step_replay.proofs.Common.{Configuration, has_room, may_request, InvestorRow, room_cmp}
use Rattle.step_replay.proofs.Common.{rooms_of}
use Rattle.std.proofs.lemmas.Bool.{le-ltb, lt-ltb, or_cases, or_from, or_left, or_right}
use Rattle.step_replay.specs.VenueRooms.{requests_of, rooms_behind, rooms_from}
use Rattle.step_replay.proofs.OpenRoomLemmas.{own_room, tied_rooms}

abbrev is_room : RoomRef → RoomRef → Bool
is_room room other = is_eq (room_cmp room other)

abbrev pub is_among : RoomRef → List RoomRef → Bool
is_among room rooms = list_any (is_room room) rooms

-- the rooms of one investor
behind_is : (room : RoomRef) (investor first more : ℕ)
    → is_among room (rooms_behind investor first more)
    ≡ ((room.investor == investor) && (nat_le (first + 1) room.n && nat_le room.n (first + more)))
behind_is room investor first zero = none (room.investor == investor) room.n first
  where
    none : (b : Bool) (n first : ℕ) → false ≡ (b && (nat_le (first + 1) n && nat_le n (first + 0)))
    none b n first = grind (arith, nat_tests)
behind_is room investor first (suc more) =
    let here = tied_rooms room (record { investor = investor; n = first + 1 }) in
    let later = behind_is room investor (first + 1) more in
    rw (here, later) (one_more room.investor room.n)
  where
    one_more : (i n : ℕ) → (((i == investor) && (n == first + 1))
        || ((i == investor) && (nat_le (first + 1 + 1) n && nat_le n (first + 1 + more))))
        ≡ ((i == investor) && (nat_le (first + 1) n && nat_le n (first + suc more)))
    one_more i n = grind (arith, nat_tests)

not_behind : (room : RoomRef) (investor first more : ℕ) → (room.investor == investor) ≡ false
    → is_among room (rooms_behind investor first more) ≡ false
not_behind room investor first more other =
    behind_is room investor first more ∙ and_left _ _ other

-- earlier investors have none of these rooms
none_before : (room : RoomRef) (investor : ℕ) (requests : List ℕ) → room.investor < investor
    → is_among room (rooms_from investor requests) ≡ false
none_before room investor [] low = refl
none_before room investor (more ∷ requests) low =
    let other : (room.investor == investor) ≡ false = grind (arith, nat_tests, low) in
    let next : room.investor < investor + 1 = omega arith in
    list_any-append (is_room room) (rooms_behind investor 0 more) (rooms_from (investor + 1) requests)
    ∙ or_from _ _ (not_behind room investor 0 more other)
    (none_before room (investor + 1) requests next)

-- the rooms of the investor at a place of the list
from_has : (investor k n : ℕ) (rows : List InvestorRow) (room : RoomRef)
    → room ≡ record { investor = investor + k; n = n }
    → is_among room (rooms_from investor (requests_of rows)) ≡ may_request (slice_get rows k) n
from_has investor k n [] room is = refl
from_has investor zero n (row ∷ rows) room is =
    let here : room.investor ≡ investor = ap (λ (r : RoomRef). r.investor) is ∙ omega arith in
    let own : (room.investor == investor) ≡ true = eq-eqb _ _ here in
    let next : room.investor < investor + 1 = omega arith in
    let behind = behind_is room investor 0 row.requests in
    let none = none_before room (investor + 1) (requests_of rows) next in
    let number = ap (λ (r : RoomRef). r.n) is in
    list_any-append (is_room room) (rooms_behind investor 0 row.requests)
    (rooms_from (investor + 1) (requests_of rows))
    ∙ rw (behind, own, none, number) (in_range n row.requests)
  where
    in_range : (n requests : ℕ) → ((nat_le 1 n && nat_le n (0 + requests)) || false)
        ≡ (nat_le 1 n && nat_le n requests)
    in_range n requests = grind (arith, nat_tests)
from_has investor (suc k) n (row ∷ rows) room is =
    let there : room.investor ≡ investor + suc k = ap (λ (r : RoomRef). r.investor) is in
    let other : (room.investor == investor) ≡ false = grind (arith, nat_tests, there) in
    let next : investor + suc k ≡ investor + 1 + k = omega arith in
    list_any-append (is_room room) (rooms_behind investor 0 row.requests) (rooms_from (investor + 1) (requests_of rows))
    ∙ rw (not_behind room investor 0 row.requests other)
    (from_has (investor + 1) k n rows room
    (is ∙ ap (λ (i : ℕ). record { investor = i; n = n }) next))

pub rooms_are : (config : Configuration) (room : RoomRef)
    → is_among room (rooms_of config) ≡ has_room config room.investor room.n
rooms_are config room = by_test (nat_le (length config.dealers) room.investor) refl
  where
    first : ℕ
    first = length config.dealers

    by_test : (b : Bool) → nat_le first room.investor ≡ b → is_among room (rooms_of config)
        ≡ may_request (if b then slice_get config.investors (room.investor - first) else None) room.n
    by_test true behind =
        let place : room.investor ≡ first + (room.investor - first) = grind (arith, nat_tests, behind) in
        from_has first (room.investor - first) room.n config.investors room
        (ap (λ (i : ℕ). record { investor = i; n = room.n }) place)
    by_test false before =
        let low : room.investor < first = grind (arith, nat_tests, before) in
        none_before room first (requests_of config.investors) low

-- Order.

-- what holds of each room that is among some holds of all of them
all_among : (P : RoomRef → Type 0) (rooms : List RoomRef)
    → ((room : RoomRef) → is_among room rooms ≡ true → P room) → AllByRecursion P rooms
all_among P [] each = tt
all_among P (room ∷ rooms) each = (
  each room (or_left _ _ (own_room room)),
  all_among P rooms (λ other among. each other (or_right _ _ among)),
)

-- a room of a later investor, or a later one of the same
comes_later : (one other : RoomRef)
    → (one.investor < other.investor) ⊎ ((one.investor ≡ other.investor) × (one.n < other.n))
    → room_cmp one other ≡ Less
comes_later one other (inl low) = rw (lt-ltb one.investor other.investor low) refl
comes_later one other (inr later) =
    let least : other.investor ≤ one.investor = omega arith in
    let not_less = le-ltb one.investor other.investor least in
    let same = eq-eqb one.investor other.investor later.0 in
    rw (not_less, same, lt-ltb one.n other.n later.1) refl

-- the rooms of one investor, and behind them those of later ones
both_sorted : (investor first more : ℕ) (requests : List ℕ)
    → IsStrictlySortedBy room_cmp (rooms_from (investor + 1) requests)
    → IsStrictlySortedBy room_cmp
    (rooms_behind investor first more ++ rooms_from (investor + 1) requests)
unfolding IsStrictlySortedBy
both_sorted investor first zero requests sorted = sorted
both_sorted investor first (suc more) requests sorted = (
  all_among (λ other. room_cmp here other ≡ Less) (own ++ others) (λ other among.
      comes_later here other (by_side other (or_cases (is_among other own) (is_among other others)
      (sym (list_any-append (is_room other) own others) ∙ among)))),
  both_sorted investor (first + 1) more requests sorted,
)
  where
    here : RoomRef
    here = record { investor = investor; n = first + 1 }

    own : List RoomRef
    own = rooms_behind investor (first + 1) more

    others : List RoomRef
    others = rooms_from (investor + 1) requests

    by_side : (other : RoomRef) → (is_among other own ≡ true) ⊎ (is_among other others ≡ true)
        → (investor < other.investor) ⊎ ((investor ≡ other.investor) × (first + 1 < other.n))
    by_side other (inl among) =
        let tests = sym (behind_is other investor (first + 1) more) ∙ among in
        let same : investor ≡ other.investor = grind (arith, nat_tests, tests) in
        let later : first + 1 < other.n = grind (arith, nat_tests, tests) in
        inr (same, later)
    by_side other (inr among) = by_order (cases_lt investor other.investor)
      where
        by_order : (investor < other.investor) ⊎ (other.investor ≤ investor)
            → (investor < other.investor) ⊎ ((investor ≡ other.investor) × (first + 1 < other.n))
        by_order (inl later) = inl later
        by_order (inr early) =
            let low : other.investor < investor + 1 = omega arith in
            absurd (both_ways _ (none_before other (investor + 1) requests low) among)

from_sorted : (investor : ℕ) (requests : List ℕ)
    → IsStrictlySortedBy room_cmp (rooms_from investor requests)
unfolding IsStrictlySortedBy
from_sorted investor [] = tt
from_sorted investor (more ∷ requests) =
    both_sorted investor 0 more requests (from_sorted (investor + 1) requests)

pub rooms_sorted : (config : Configuration) → IsStrictlySortedBy room_cmp (rooms_of config)
rooms_sorted config = from_sorted (length config.dealers) (requests_of config.investors)
