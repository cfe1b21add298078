-- No two rooms of a venue have one name, so no notice and no event is of two of them.
use Rattle.std.proofs.Common.{◌≡◌, ◌<◌, refl, ◌∙◌, sym, ap, subst, ℕ, zero, suc, ◌+◌, Bool, true}
use Rattle.std.proofs.Common.{false, ◌&&◌, ◌==◌, List, [], ◌∷◌, ◌++◌, Option, Some, None, arith}
use Rattle.std.proofs.lemmas.Bool.{and_parts}
use Rattle.std.proofs.lemmas.Bool.Decides.{nat_tests}
use Rattle.market_terms.specs.Rooms.{is_same_room}
use Rattle.market_terms.specs.declared.rooms.RoomRef.{RoomRef}
use Rattle.step_replay.specs.EachLemmas.{every_both}
use Rattle.step_replay.specs.Lists.{Every}
use Rattle.day_checks.specs.DayChecks.{DayRoom, is_room}
use Rattle.day_checks.specs.KeptDays.{names_by, names_from, names_of}
use Rattle.day_checks.proofs.OnceLemmas.{AreApart}
use Rattle.day_checks.proofs.SweptLemmas.{number_same}

-- Names.

-- rooms that are the same are equal
pub room_same : (room other : RoomRef) → is_same_room room other ≡ true → other ≡ room
room_same room other is =
    let both = and_parts (room.investor == other.investor) (room.n == other.n) is in
    sym (ap (λ investor. let own : RoomRef = record { investor = investor; n = room.n } in own)
    (number_same room.investor other.investor both.0)
    ∙ ap (λ n. let own : RoomRef = record { investor = other.investor; n = n } in own)
    (number_same room.n other.n both.1))

pub number_itself : (n : ℕ) → (n == n) ≡ true
number_itself n = grind (arith, nat_tests)

-- a room is the same as itself
pub room_itself : (room : RoomRef) → is_same_room room room ≡ true
room_itself room = ap (λ b. b && (room.n == room.n)) (number_itself room.investor)
    ∙ number_itself room.n

-- where a room is named, it is this one
pub is_room_named : (room : RoomRef) (named : Option RoomRef) → is_room room named ≡ true
    → named ≡ Some room
is_room_named room None is = cc
is_room_named room (Some other) is = ap Some (room_same room other is)

-- no two of these names are one
abbrev Distinct : List RoomRef → Type 0
Distinct [] = Unit {0}
Distinct (room ∷ later) = Every (λ (other : RoomRef). is_same_room other room ≡ false) later
    × Distinct later

other_number : (one other : ℕ) → one < other → (other == one) ≡ false
other_number one other below = grind (arith, nat_tests, below)

second_apart : (a b : Bool) → b ≡ false → (a && b) ≡ false
second_apart true b e = e
second_apart false b e = refl

-- the rooms of an investor behind one of its requests
behind_apart : (investor n m more : ℕ) → n < m
    → Every (λ (other : RoomRef). is_same_room other (record { investor = investor; n = n })
    ≡ false) (names_from investor m more)
behind_apart investor n m zero below = tt
behind_apart investor n m (suc more) below = (
  second_apart (investor == investor) (m == n) (other_number n m below),
  behind_apart investor n (m + 1) more (omega (arith, below)),
)

own_apart : (investor n more : ℕ) → Distinct (names_from investor n more)
own_apart investor n zero = tt
own_apart investor n (suc more) = (
  behind_apart investor n (n + 1) more (omega arith),
  own_apart investor (n + 1) more,
)

-- those of an investor behind it
others_apart : (room : RoomRef) (investor n more : ℕ) → room.investor < investor
    → Every (λ (other : RoomRef). is_same_room other room ≡ false) (names_from investor n more)
others_apart room investor n zero below = tt
others_apart room investor n (suc more) below = (
  ap (λ b. b && (n == room.n)) (other_number room.investor investor below),
  others_apart room investor (n + 1) more below,
)

-- and of all investors behind it
later_apart : (room : RoomRef) (firm : ℕ) (counts : List ℕ) → room.investor < firm
    → Every (λ (other : RoomRef). is_same_room other room ≡ false) (names_by firm counts)
later_apart room firm [] below = tt
later_apart room firm (count ∷ later) below =
    every_both (λ (other : RoomRef). is_same_room other room ≡ false) (names_from firm 1 count)
    (names_by (firm + 1) later) (others_apart room firm 1 count below)
    (later_apart room (firm + 1) later (omega (arith, below)))

-- names before others
distinct_before : (investor n more : ℕ) (rest : List RoomRef)
    → ((room : RoomRef) → room.investor ≡ investor
    → Every (λ (other : RoomRef). is_same_room other room ≡ false) rest)
    → Distinct rest → Distinct (names_from investor n more ++ rest)
distinct_before investor n zero rest apart distinct = distinct
distinct_before investor n (suc more) rest apart distinct = (
  every_both (λ (other : RoomRef). is_same_room other (record { investor = investor; n = n })
      ≡ false) (names_from investor (n + 1) more) rest
      (behind_apart investor n (n + 1) more (omega arith))
      (apart (record { investor = investor; n = n }) refl),
  distinct_before investor (n + 1) more rest apart distinct,
)

names_apart : (firm : ℕ) (counts : List ℕ) → Distinct (names_by firm counts)
names_apart firm [] = tt
names_apart firm (count ∷ later) =
    distinct_before firm 1 count (names_by (firm + 1) later)
    (λ room is. later_apart room (firm + 1) later (omega (arith, is)))
    (names_apart (firm + 1) later)

-- Rooms.

-- what is of a room, by a name that it has, is of no other
apart_by : {A : Type 0} (named : A → Option RoomRef) (room : RoomRef) (later : List DayRoom)
    → Every (λ (other : RoomRef). is_same_room other room ≡ false) (names_of later)
    → Every (λ (other : DayRoom). (item : A) → is_room room (named item) ≡ true
    → is_room other.at (named item) ≡ false) later
apart_by named room [] apart = tt
apart_by named room (other ∷ later) apart = (
  λ item is. ap (is_room other.at) (is_room_named room (named item) is) ∙ apart.0,
  apart_by named room later apart.1,
)

rooms_distinct : {A : Type 0} (named : A → Option RoomRef) (rooms : List DayRoom)
    → Distinct (names_of rooms)
    → AreApart (λ (room : DayRoom) item. is_room room.at (named item)) rooms
rooms_distinct named [] distinct = tt
rooms_distinct named (room ∷ later) distinct =
    (apart_by named room.at later distinct.0, rooms_distinct named later distinct.1)

-- so it is of the rooms of a venue
pub rooms_apart : {A : Type 0} (named : A → Option RoomRef) (firm : ℕ) (counts : List ℕ)
    (rooms : List DayRoom) → names_of rooms ≡ names_by firm counts
    → AreApart (λ (room : DayRoom) item. is_room room.at (named item)) rooms
rooms_apart named firm counts rooms are =
    rooms_distinct named rooms (subst Distinct (sym are) (names_apart firm counts))
