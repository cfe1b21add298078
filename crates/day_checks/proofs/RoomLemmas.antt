-- One room of a day more, and the rooms of a configuration.
use Rattle.std.proofs.Common.{◌≡◌, ◌<◌, ◌≤◌, ◌∙◌, sym, ap, ℕ, ◌+◌, ◌-◌, List, [], ◌∷◌, ◌++◌, length}
use Rattle.std.proofs.Common.{map, take, drop, get_or, Some, None, append_assoc, arith, true, ◌&&◌}
use Rattle.std.proofs.Common.{nat_le}
use Rattle.std.specs.Prelude.{if◌then◌else◌, slice_get}
use Rattle.std.proofs.lemmas.Bool.Decides.{nat_tests}
use Rattle.std.proofs.lemmas.List.{append-nil, take-append-drop, map-append, map_more}
use Rattle.market_terms.specs.declared.rooms.RoomRef.{RoomRef}
use Rattle.venue_rows.specs.Rows.{Configuration, has_room, may_request}
use Rattle.venue_rows.specs.declared.investor_rows.InvestorRow.{InvestorRow}
use Rattle.recorded_days.specs.Records.{RoomLists}
use Rattle.day_checks.specs.DayChecks.{DayRoom}
use Rattle.day_checks.specs.KeptDays.{names_by, names_from, names_of, requests_of}
use Rattle.day_checks.proofs.RoomNames.{names_more, day_in}
use Rattle.day_checks.proofs.MovedLists.{take_next}

-- One room, or the rooms of one investor, more.

-- a room more is named by the next number

pub names_pushed : (before rooms : List DayRoom) (room : DayRoom) (investor n : ℕ)
    → names_of rooms ≡ names_of before ++ names_from investor 1 n
    → room.at ≡ record { investor = investor; n = n + 1 }
    → names_of (rooms ++ room ∷ []) ≡ names_of before ++ names_from investor 1 (n + 1)
names_pushed before rooms room investor n so_far is =
    map-append (λ (own : DayRoom). own.at) rooms (room ∷ [])
    ∙ ap (λ names. names ++ room.at ∷ []) so_far
    ∙ append_assoc (names_of before) (names_from investor 1 n) (room.at ∷ [])
    ∙ ap (λ at. names_of before ++ (names_from investor 1 n ++ at ∷ [])) is
    ∙ ap (λ names. names_of before ++ names) (sym (names_more investor n))

-- the names of an investor's rooms go over from those that are to come
pub names_moved : (first firm count k more : ℕ) (names longer all : List RoomRef)
    (counts later : List ℕ) → names ++ names_by (first + k) counts ≡ all → counts ≡ count ∷ later
    → longer ≡ names ++ names_from firm 1 count → firm ≡ first + k → more ≡ k + 1
    → longer ++ names_by (first + more) later ≡ all
names_moved first firm count k more names longer all counts later so_far cut own here next =
    let onward : first + more ≡ first + k + 1 = omega (arith, next) in
    ap (λ made. made ++ names_by (first + more) later) own
    ∙ ap (λ n. names ++ names_from n 1 count ++ names_by (first + more) later) here
    ∙ ap (λ n. names ++ names_from (first + k) 1 count ++ names_by n later) onward
    ∙ append_assoc names (names_from (first + k) 1 count) (names_by (first + k + 1) later)
    ∙ ap (λ list. names ++ names_by (first + k) list) (sym cut) ∙ so_far

-- a room more of those that are taken from a list
pub own_more : (own : List RoomLists) (day : RoomLists) (rooms : List DayRoom) (i : ℕ)
    (room : DayRoom) (rest : List DayRoom) → own ≡ map day_in (take i rooms) → day ≡ room.day
    → drop i rooms ≡ room ∷ rest → own ++ day ∷ [] ≡ map day_in (take (i + 1) rooms)
own_more own day rooms i room rest so_far is cut =
    ap (λ made. made ++ day ∷ []) so_far
    ∙ ap (λ last. map day_in (take i rooms) ++ last ∷ []) is
    ∙ sym (map-append day_in (take i rooms) (room ∷ []))
    ∙ ap (map day_in) (sym (take_next rooms i room rest cut))

-- no names are to come
pub names_ended : (firm : ℕ) (names all : List RoomRef) (counts : List ℕ)
    → names ++ names_by firm counts ≡ all → counts ≡ [] → names ≡ all
names_ended firm names all counts so_far none =
    sym (append-nil names) ∙ ap (λ list. names ++ names_by firm list) (sym none) ∙ so_far

-- no rooms are to come
pub no_rooms : (dealers k : ℕ) (made rooms all : List DayRoom) (counts : List ℕ)
    → made ++ rooms ≡ all → names_of rooms ≡ names_by (dealers + k) counts → counts ≡ []
    → made ≡ all
no_rooms dealers k made [] all counts so_far named none = sym (append-nil made) ∙ so_far
no_rooms dealers k made (room ∷ rooms) all counts so_far named none =
    let empty : names_of (room ∷ rooms) ≡ [] = named ∙ ap (names_by (dealers + k)) none in
    absurd cc

-- the counts of places, of which one more has as many rooms as its row has requests
pub counts_more : {A : Type 0} (count : A → ℕ) (places pushed : List A) (place : A)
    (rows : List InvestorRow) (i : ℕ) (row : InvestorRow) → pushed ≡ places ++ place ∷ []
    → map count places ≡ requests_of (take i rows) → i < length rows → row ≡ get_or rows i row
    → count place ≡ row.requests → map count pushed ≡ requests_of (take (i + 1) rows)
counts_more count places pushed place rows i row more so_far below at same =
    ap (map count) more ∙ map-append count places (place ∷ [])
    ∙ ap (λ made. made ++ count place ∷ []) so_far
    ∙ ap (λ n. requests_of (take i rows) ++ n ∷ []) same
    ∙ ap (λ (own : InvestorRow). requests_of (take i rows) ++ own.requests ∷ []) at
    ∙ sym (map_more (λ (own : InvestorRow). own.requests) rows i row below)

-- a list that is cut, and read part by part
pub parts_read : {A B : Type 0} (f : A → B) (n : ℕ) (all first later : List A)
    → first ≡ take n all → later ≡ drop n all → map f first ++ map f later ≡ map f all
parts_read f n all first later front back =
    ap (λ list. map f list ++ map f later) front
    ∙ ap (λ list. map f (take n all) ++ map f list) back
    ∙ sym (map-append f (take n all) (drop n all)) ∙ ap (map f) (take-append-drop n all)

-- The rooms of a configuration.

le_true : (m n : ℕ) → m ≤ n → nat_le m n ≡ true
le_true m n below = grind (arith, nat_tests)

-- the investor in this row has a room for each request that it may make
pub rooms_of_row : (config : Configuration) (firm at : ℕ) (row : InvestorRow)
    → firm ≡ length config.dealers + at → slice_get config.investors at ≡ Some row
    → (index : ℕ) → index < row.requests → has_room config firm (index + 1) ≡ true
rooms_of_row config firm at row firm_is found index below =
    let behind : nat_le (length config.dealers) firm ≡ true =
    le_true (length config.dealers) firm (omega (arith, firm_is)) in
    let place : firm - length config.dealers ≡ at = omega (arith, firm_is) in
    let least : nat_le 1 (index + 1) ≡ true = le_true 1 (index + 1) (omega arith) in
    let most : nat_le (index + 1) row.requests ≡ true =
    le_true (index + 1) row.requests (omega (arith, below)) in
    ap (λ so. may_request (if so then slice_get config.investors (firm - length config.dealers)
    else None) (index + 1)) behind
    ∙ ap (λ k. may_request (slice_get config.investors k) (index + 1)) place
    ∙ ap (λ own. may_request own (index + 1)) found
    ∙ ap (λ so. so && nat_le (index + 1) row.requests) least ∙ most
