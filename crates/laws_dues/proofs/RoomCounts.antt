-- No list of different rooms of a venue is longer than that of all its rooms.
use Rattle.std.proofs.Common.{◌≡◌, ◌<◌, ◌≤◌, ℕ, zero, suc, ◌+◌, ◌-◌, ◌==◌, inl, inr, Bool, true}
use Rattle.std.proofs.Common.{false, ◌&&◌, nat_le, List, [], ◌∷◌, ◌++◌, length, sum_by, Option, Some}
use Rattle.std.proofs.Common.{None, if◌then◌else◌, refl, sym, ap, ◌∙◌, subst, arith, eq-eqb}
use Rattle.std.specs.Prelude.{slice_get}
use Rattle.std.proofs.lemmas.Bool.Decides.{nat_tests}
use Rattle.std.proofs.lemmas.List.{length-append}
use Rattle.std.proofs.lemmas.List.Sums.{sum_by-cons}
use Rattle.std.proofs.lemmas.Option.{same_Some}
use Rattle.market_terms.specs.declared.rooms.RoomRef.{RoomRef}
use Rattle.venue_rows.specs.Rows.{Configuration, KeepsLimits, has_room, may_request}
use Rattle.venue_rows.specs.declared.investor_rows.InvestorRow.{InvestorRow}
use Rattle.dealer_desk.specs.DealerOutput.{is_same_room, number_from}
use Rattle.step_replay.specs.EachLemmas.{every_both, every_weaker}
use Rattle.step_replay.specs.GrowthLemmas.{in_left, in_right, same_room}
use Rattle.step_replay.specs.Lists.{Every, In}
use Rattle.step_replay.specs.VenueRooms.{requests_of, rooms_behind, rooms_from, rooms_of}

-- Rooms none of which stands twice.

abbrev pub AreApart : List RoomRef → Type 0
AreApart [] = Unit {0}
AreApart (room ∷ rooms) =
    Every (λ (other : RoomRef). is_same_room room other ≡ false) rooms × AreApart rooms

-- a room that has no number yet is none of them
pub apart_push : (first : ℕ) (rooms : List RoomRef) (room : RoomRef) → AreApart rooms
    → number_from first rooms room ≡ None → AreApart (rooms ++ room ∷ [])
apart_push first [] room apart none = (tt, tt)
apart_push first (shown ∷ rooms) room apart none =
    by_test (is_same_room shown room) refl none
    (λ later. apart_push (first + 1) rooms room apart.1 later)
  where
    by_test : (b : Bool) → is_same_room shown room ≡ b
        → (if b then Some first else number_from (first + 1) rooms room) ≡ None
        → (number_from (first + 1) rooms room ≡ None → AreApart (rooms ++ room ∷ []))
        → AreApart (shown ∷ rooms ++ room ∷ [])
    by_test true test found later = cc
    by_test false test found later = (
      every_both (λ (other : RoomRef). is_same_room shown other ≡ false) rooms (room ∷ []) apart.0
          (test, tt),
      later found,
    )

-- A list without the first that is this room.

abbrev without : RoomRef → List RoomRef → List RoomRef
without room [] = []
without room (one ∷ rooms) = if is_same_room one room then rooms else one ∷ without room rooms

room_self : (room : RoomRef) → is_same_room room room ≡ true
room_self room =
    let investor : (room.investor == room.investor) ≡ true =
    eq-eqb room.investor room.investor refl in
    let n : (room.n == room.n) ≡ true = eq-eqb room.n room.n refl in
    rw (investor, n) refl

one_out : (room : RoomRef) (rooms : List RoomRef) → In room rooms
    → length rooms ≡ suc (length (without room rooms))
one_out room [] is = absurd is
one_out room (one ∷ rooms) is =
    by_test (is_same_room one room) refl is (λ later. one_out room rooms later)
  where
    by_test : (b : Bool) → is_same_room one room ≡ b → In room (one ∷ rooms)
        → (In room rooms → length rooms ≡ suc (length (without room rooms)))
        → length (one ∷ rooms) ≡ suc (length (if b then rooms else one ∷ without room rooms))
    by_test true test found later = refl
    by_test false test (inl same) later =
        let clash : true ≡ false =
        sym (room_self room) ∙ ap (λ (r : RoomRef). is_same_room r room) (sym same) ∙ test in
        cc
    by_test false test (inr found) later = ap suc (later found)

others_stay : (room other : RoomRef) (rooms : List RoomRef) → is_same_room room other ≡ false
    → In other rooms → In other (without room rooms)
others_stay room other [] differs is = absurd is
others_stay room other (one ∷ rooms) differs is =
    by_test (is_same_room one room) refl is
    (λ later. others_stay room other rooms differs later)
  where
    by_test : (b : Bool) → is_same_room one room ≡ b → In other (one ∷ rooms)
        → (In other rooms → In other (without room rooms))
        → In other (if b then rooms else one ∷ without room rooms)
    by_test true test (inl same) later =
        let clash : true ≡ false = sym (room_self room)
        ∙ ap (is_same_room room) (sym (same_room one room test) ∙ same) ∙ differs in
        cc
    by_test true test (inr found) later = found
    by_test false test (inl same) later = inl same
    by_test false test (inr found) later = inr (later found)

-- different rooms of a list are no more than it has
no_more : (rooms known : List RoomRef) → AreApart rooms
    → Every (λ (room : RoomRef). In room known) rooms → length rooms ≤ length known
no_more [] known apart each = omega arith
no_more (room ∷ rooms) known apart each =
    let out : length known ≡ suc (length (without room known)) = one_out room known each.0 in
    let rest : length rooms ≤ length (without room known) =
    no_more rooms (without room known) apart.1 (stay rooms apart.0 each.1) in
    omega arith
  where
    stay : (others : List RoomRef)
        → Every (λ (other : RoomRef). is_same_room room other ≡ false) others
        → Every (λ (other : RoomRef). In other known) others
        → Every (λ (other : RoomRef). In other (without room known)) others
    stay [] differ stand = tt
    stay (other ∷ others) differ stand =
        (others_stay room other known differ.0 stand.0, stay others differ.1 stand.1)

-- All rooms of a venue.

abbrev room_at : ℕ → ℕ → RoomRef
room_at investor n = record { investor = investor; n = n }

in_behind : (investor first more n : ℕ) → first < n → n ≤ first + more
    → In (room_at investor n) (rooms_behind investor first more)
in_behind investor first zero n least most = absurd (omega arith)
in_behind investor first (suc more) n least most =
    by_test (n == (first + 1)) refl (λ low high. in_behind investor (first + 1) more n low high)
  where
    by_test : (b : Bool) → (n == (first + 1)) ≡ b
        → (first + 1 < n → n ≤ first + 1 + more
        → In (room_at investor n) (rooms_behind investor (first + 1) more))
        → In (room_at investor n) (rooms_behind investor first (suc more))
    by_test true test later =
        let same : first + 1 ≡ n = grind (arith, nat_tests) in
        inl (ap (room_at investor) same)
    by_test false test later =
        let beyond : first + 1 < n = grind (arith, nat_tests) in
        let within : n ≤ first + 1 + more = omega arith in
        inr (later beyond within)

in_from : (investor : ℕ) (rows : List InvestorRow) (place n : ℕ) (row : InvestorRow)
    → slice_get rows place ≡ Some row → 1 ≤ n → n ≤ row.requests
    → In (room_at (investor + place) n) (rooms_from investor (requests_of rows))
in_from investor [] place n row at least most = cc
in_from investor (first ∷ rows) zero n row at least most =
    let same : first.requests ≡ row.requests =
    ap (λ (r : InvestorRow). r.requests) (same_Some first row at) in
    let number : investor ≡ investor + 0 = omega arith in
    let some : 0 < n = omega arith in
    let within : n ≤ 0 + first.requests = omega arith in
    subst (λ (i : ℕ). In (room_at i n) (rooms_from investor (requests_of (first ∷ rows)))) number
    (in_left (room_at investor n) (rooms_behind investor 0 first.requests)
    (rooms_from (investor + 1) (requests_of rows))
    (in_behind investor 0 first.requests n some within))
in_from investor (first ∷ rows) (suc place) n row at least most =
    let number : investor + 1 + place ≡ investor + suc place = omega arith in
    subst (λ (i : ℕ). In (room_at i n) (rooms_from investor (requests_of (first ∷ rows)))) number
    (in_right (room_at (investor + 1 + place) n) (rooms_behind investor 0 first.requests)
    (rooms_from (investor + 1) (requests_of rows))
    (in_from (investor + 1) rows place n row at least most))

-- a room that the venue has
abbrev pub HasRoom : Configuration → RoomRef → Type 0
HasRoom config room = has_room config room.investor room.n ≡ true

in_venue : (config : Configuration) (room : RoomRef) → HasRoom config room
    → In room (rooms_of config)
in_venue config room has =
    by_number (nat_le (length config.dealers) room.investor) refl has
  where
    by_row : (found : Option InvestorRow)
        → slice_get config.investors (room.investor - length config.dealers) ≡ found
        → nat_le (length config.dealers) room.investor ≡ true
        → may_request found room.n ≡ true → In room (rooms_of config)
    by_row None at behind may = cc
    by_row (Some row) at behind may =
        let within : (nat_le 1 room.n && nat_le room.n row.requests) ≡ true = may in
        let least : 1 ≤ room.n = grind (arith, nat_tests) in
        let most : room.n ≤ row.requests = grind (arith, nat_tests) in
        let low : length config.dealers ≤ room.investor = grind (arith, nat_tests) in
        let number : length config.dealers + (room.investor - length config.dealers)
        ≡ room.investor = omega arith in
        subst (λ (i : ℕ). In (room_at i room.n) (rooms_of config)) number
        (in_from (length config.dealers) config.investors (room.investor - length config.dealers)
        room.n row at least most)

    by_number : (b : Bool) → nat_le (length config.dealers) room.investor ≡ b
        → may_request (if b
        then slice_get config.investors (room.investor - length config.dealers) else None) room.n
        ≡ true
        → In room (rooms_of config)
    by_number true behind may =
        by_row (slice_get config.investors (room.investor - length config.dealers)) refl behind may
    by_number false behind may = cc

-- How many there are.

many_behind : (investor first more : ℕ) → length (rooms_behind investor first more) ≡ more
many_behind investor first zero = refl
many_behind investor first (suc more) = ap suc (many_behind investor (first + 1) more)

many_from : (investor : ℕ) (rows : List InvestorRow)
    → length (rooms_from investor (requests_of rows))
    ≡ sum_by (λ (row : InvestorRow). row.requests) rows
many_from investor [] = refl
many_from investor (row ∷ rows) =
    length-append (rooms_behind investor 0 row.requests)
    (rooms_from (investor + 1) (requests_of rows))
    ∙ ap (λ (n : ℕ). n + length (rooms_from (investor + 1) (requests_of rows)))
    (many_behind investor 0 row.requests)
    ∙ ap (λ (n : ℕ). row.requests + n) (many_from (investor + 1) rows)
    ∙ sym (sum_by-cons (λ (r : InvestorRow). r.requests) row rows)

-- different rooms of the venue are few
pub few_rooms : (config : Configuration) → KeepsLimits config → (rooms : List RoomRef)
    → AreApart rooms → Every (HasRoom config) rooms → length rooms ≤ 4096
few_rooms config limits rooms apart has =
    let many : length (rooms_of config)
    ≡ sum_by (λ (row : InvestorRow). row.requests) config.investors =
    many_from (length config.dealers) config.investors in
    let most : sum_by (λ (row : InvestorRow). row.requests) config.investors ≤ 4096 =
    limits.requests_most in
    let fits : length rooms ≤ length (rooms_of config) =
    no_more rooms (rooms_of config) apart
    (every_weaker (HasRoom config) (λ (room : RoomRef). In room (rooms_of config))
    (in_venue config) rooms has) in
    omega arith

-- the number of a room is that of one of them
pub number_below : (first : ℕ) (rooms : List RoomRef) (room : RoomRef) (number : ℕ)
    → number_from first rooms room ≡ Some number → number < first + length rooms
number_below first [] room number is = cc
number_below first (shown ∷ rooms) room number is =
    by_test (is_same_room shown room) refl is
    (λ found. number_below (first + 1) rooms room number found)
  where
    by_test : (b : Bool) → is_same_room shown room ≡ b
        → (if b then Some first else number_from (first + 1) rooms room) ≡ Some number
        → (number_from (first + 1) rooms room ≡ Some number → number < first + 1 + length rooms)
        → number < first + length (shown ∷ rooms)
    by_test true test found later =
        let same : first ≡ number = same_Some first number found in
        omega arith
    by_test false test found later =
        let below : number < first + 1 + length rooms = later found in
        omega arith
