-- The rooms of a day, and their names.
use Rattle.std.proofs.Common.{◌≡◌, ◌∙◌, sym, ap, subst, refl, ℕ, ◌+◌, zero, suc, List, [], ◌∷◌}
use Rattle.std.proofs.Common.{◌++◌, length, map, take, drop, Some, append_assoc, arith}
use Rattle.std.specs.Prelude.{slice_get}
use Rattle.std.proofs.lemmas.List.{append-nil, drop-map, drop_at, take-append-drop, take-map}
use Rattle.std.proofs.lemmas.List.{take_at}
use Rattle.market_terms.specs.declared.rooms.RoomRef.{RoomRef}
use Rattle.recorded_days.specs.Records.{InvestorLists, RoomLists}
use Rattle.day_checks.specs.DayChecks.{DayRoom}
use Rattle.day_checks.specs.KeptDays.{names_from, names_of, rooms_from, rooms_of, without_rooms}

-- a room by its name

abbrev named : ℕ → ℕ → RoomRef
named investor n = record { investor = investor; n = n }

-- the names of one room more
names_onward : (investor n count : ℕ)
    → names_from investor n (suc count)
    ≡ names_from investor n count ++ named investor (n + count) ∷ []
names_onward investor n zero =
    let same : n ≡ n + 0 = omega arith in
    ap (λ k. named investor k ∷ []) same
names_onward investor n (suc count) =
    let same : n + 1 + count ≡ n + suc count = omega arith in
    ap (λ names. named investor n ∷ names) (names_onward investor (n + 1) count
    ∙ ap (λ k. names_from investor (n + 1) count ++ named investor k ∷ []) same)

pub names_more : (investor count : ℕ)
    → names_from investor 1 (count + 1)
    ≡ names_from investor 1 count ++ named investor (count + 1) ∷ []
names_more investor count =
    let next : count + 1 ≡ suc count = omega arith in
    let last : 1 + count ≡ count + 1 = omega arith in
    ap (names_from investor 1) next ∙ names_onward investor 1 count
    ∙ ap (λ k. names_from investor 1 count ++ named investor k ∷ []) last

-- so many names
pub length-names : (investor n count : ℕ) → length (names_from investor n count) ≡ count
length-names investor n zero = refl
length-names investor n (suc count) =
    let same : length (names_from investor (n + 1) count) ≡ count =
    length-names investor (n + 1) count in
    omega (arith, same)

-- the rooms of one investor more
pub rooms_more : (firm : ℕ) (days : List InvestorLists) (day : InvestorLists)
    → rooms_of firm (days ++ day ∷ [])
    ≡ rooms_of firm days ++ rooms_from (firm + length days) 1 day.rooms
rooms_more firm [] day =
    let same : firm ≡ firm + 0 = omega arith in
    append-nil (rooms_from firm 1 day.rooms) ∙ ap (λ k. rooms_from k 1 day.rooms) same
rooms_more firm (first ∷ days) day =
    let same : firm + 1 + length days ≡ firm + length (first ∷ days) = omega arith in
    ap (λ rooms. rooms_from firm 1 first.rooms ++ rooms) (rooms_more (firm + 1) days day
    ∙ ap (λ k. rooms_of (firm + 1) days ++ rooms_from k 1 day.rooms) same)
    ∙ sym (append_assoc (rooms_from firm 1 first.rooms) (rooms_of (firm + 1) days)
    (rooms_from (firm + length (first ∷ days)) 1 day.rooms))

-- what lies in a room
abbrev pub day_in : DayRoom → RoomLists
day_in room = room.day

-- rooms with the names of an investor's are made again of what lies in them
pub rooms_again : (investor n count : ℕ) (rooms : List DayRoom)
    → names_of rooms ≡ names_from investor n count
    → rooms_from investor n (map day_in rooms) ≡ rooms
rooms_again investor n count [] are = refl
rooms_again investor n zero (room ∷ rooms) are = absurd cc
rooms_again investor n (suc count) (room ∷ rooms) are =
    let first : named investor n ≡ room.at = cc in
    let later : names_of rooms ≡ names_from investor (n + 1) count = cc in
    let head : record { at = named investor n; day = room.day } ≡ room =
    ap (λ at. record { at = at; day = room.day }) first in
    ap (λ rest. record { at = named investor n; day = room.day } ∷ rest)
    (rooms_again investor (n + 1) count rooms later)
    ∙ ap (λ (own : DayRoom). own ∷ rooms) head

-- of rooms, the first with the names of an investor's
module _ (investor count : ℕ) (rooms : List DayRoom) (later : List RoomRef) where
  pub names_cut : names_of rooms ≡ names_from investor 1 count ++ later
      → names_of (take count rooms) ≡ names_from investor 1 count
  names_cut are = sym (take-map (λ (room : DayRoom). room.at) count rooms) ∙ ap (take count) are
      ∙ take_at (names_from investor 1 count) later count (length-names investor 1 count)

  pub names_left : names_of rooms ≡ names_from investor 1 count ++ later
      → names_of (drop count rooms) ≡ later
  names_left are = sym (drop-map (λ (room : DayRoom). room.at) count rooms) ∙ ap (drop count) are
      ∙ drop_at (names_from investor 1 count) later count (length-names investor 1 count)

  -- the day of an investor with its rooms, behind those that were made
  pub rooms_put : (first : ℕ) (whole : List InvestorLists) (day : InvestorLists)
      (all : List DayRoom)
      → investor ≡ first + length whole
      → rooms_of first whole ++ rooms ≡ all
      → names_of rooms ≡ names_from investor 1 count ++ later
      → day.rooms ≡ map day_in (take count rooms)
      → rooms_of first (whole ++ day ∷ []) ++ drop count rooms ≡ all
  rooms_put first whole day all here so_far are own =
      let made : rooms_from (first + length whole) 1 day.rooms ≡ take count rooms =
      ap (λ k. rooms_from k 1 day.rooms) (sym here) ∙ ap (rooms_from investor 1) own
      ∙ rooms_again investor 1 count (take count rooms) (names_cut are) in
      ap (λ made_so. made_so ++ drop count rooms) (rooms_more first whole day
      ∙ ap (λ own_rooms. rooms_of first whole ++ own_rooms) made)
      ∙ append_assoc (rooms_of first whole) (take count rooms) (drop count rooms)
      ∙ ap (λ rest. rooms_of first whole ++ rest) (take-append-drop count rooms) ∙ so_far

-- Days with their rooms and without.

-- what holds of days holds of days that differ in their rooms alone
pub each_like : (P : ℕ → InvestorLists → Type 0)
    → ((k : ℕ) (x y : InvestorLists) → without_rooms x ≡ without_rooms y → P k y → P k x)
    → (xs ys : List InvestorLists) → map without_rooms xs ≡ map without_rooms ys
    → ((k : ℕ) (y : InvestorLists) → slice_get ys k ≡ Some y → P k y)
    → (k : ℕ) (x : InvestorLists) → slice_get xs k ≡ Some x → P k x
each_like P alike [] ys same each k x found = absurd cc
each_like P alike (z ∷ xs) [] same each k x found = absurd cc
each_like P alike (z ∷ xs) (y ∷ ys) same each zero x found =
    let here : without_rooms z ≡ without_rooms y = cc in
    let is : z ≡ x = cc in
    subst (P zero) is (alike zero z y here (each zero y refl))
each_like P alike (z ∷ xs) (y ∷ ys) same each (suc k) x found =
    let later : map without_rooms xs ≡ map without_rooms ys = cc in
    each_like (λ n. P (suc n)) (λ n. alike (suc n)) xs ys later
    (λ n w is. each (suc n) w is) k x found

pub inboxes_like : (xs ys : List InvestorLists) → map without_rooms xs ≡ map without_rooms ys
    → map (λ (day : InvestorLists). day.inbox) xs ≡ map (λ (day : InvestorLists). day.inbox) ys
inboxes_like [] [] same = refl
inboxes_like [] (y ∷ ys) same = absurd cc
inboxes_like (x ∷ xs) [] same = absurd cc
inboxes_like (x ∷ xs) (y ∷ ys) same =
    let here : without_rooms x ≡ without_rooms y = cc in
    let later : map without_rooms xs ≡ map without_rooms ys = cc in
    let own : x.inbox ≡ y.inbox = ap (λ (day : InvestorLists). day.inbox) here in
    ap (λ inbox. inbox ∷ map (λ (day : InvestorLists). day.inbox) xs) own
    ∙ ap (λ inboxes. y.inbox ∷ inboxes) (inboxes_like xs ys later)
