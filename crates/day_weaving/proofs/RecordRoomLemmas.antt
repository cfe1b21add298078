-- The firms and the rooms of a record.
use Rattle.std.proofs.Common.{◌≡◌, ◌<◌, ◌≤◌, ℕ, ◌+◌, ◌-◌, Bool, true, false, ◌&&◌, nat_lt, nat_le}
use Rattle.std.proofs.Common.{length, Option, Some, None, is_some, slice_get, arith, if◌then◌else◌}
use Rattle.std.proofs.Common.{refl, sym, ap, subst, ◌∙◌}
use Rattle.std.specs.Prelude.{option_and_then}
use borrow.Author.Count.{below_more}
use Rattle.std.proofs.lemmas.Bool.Decides.{nat_tests}
use Rattle.std.proofs.lemmas.List.{length-append, length-map}
use Rattle.std.proofs.lemmas.Option.{slice_get_past, slice_get_within}
use Rattle.market_terms.specs.declared.rooms.RoomRef.{RoomRef}
use Rattle.venue_rows.specs.Rows.{Configuration, has_room, investor_numbered, may_request}
use Rattle.venue_rows.specs.declared.investor_rows.InvestorRow.{InvestorRow}
use Rattle.step_replay.specs.StepFaults.{firms_of}
use Rattle.day_weaving.specs.DayForm.{HasFirmsOf, IsMalformed, OtherRoom}
use Rattle.recorded_days.specs.Records.{InvestorLists, RecordedDay, firm_in, firms_in, investor_in}
use Rattle.recorded_days.specs.Records.{room_in, room_numbered}
use Rattle.day_weaving.proofs.NumberedLemmas.{some_is, then_some, within_some, numbered_in}
use Rattle.day_weaving.proofs.NumberedLemmas.{numbered_some}

-- Firms.

pub length_firms : (day : RecordedDay)
    → length (firms_in day) ≡ length day.dealers + length day.investors
length_firms day = simp (length-append, length-map)

-- a record has no firm behind those of its venue
pub firm_beyond : (config : Configuration) (day : RecordedDay) → HasFirmsOf config day
    → (firm : ℕ) → firms_of config ≤ firm → firm_in day firm ≡ None
firm_beyond config day has firm beyond =
    let dealers : length day.dealers ≡ length config.dealers = has.dealers in
    let investors : length day.investors ≡ length config.investors = has.investors in
    let count : length (firms_in day) ≡ length day.dealers + length day.investors =
    length_firms day in
    let past : length (firms_in day) ≤ firm = omega arith in
    slice_get_past (firms_in day) firm past

pub firm_within : (config : Configuration) (day : RecordedDay) → HasFirmsOf config day
    → (firm : ℕ) → is_some (firm_in day firm) ≡ true → firm < firms_of config
firm_within config day has firm is =
    let dealers : length day.dealers ≡ length config.dealers = has.dealers in
    let investors : length day.investors ≡ length config.investors = has.investors in
    let count : length (firms_in day) ≡ length day.dealers + length day.investors =
    length_firms day in
    let there = some_is (firm_in day firm) is in
    let within : firm < length (firms_in day) =
    slice_get_within (firms_in day) firm there.0 there.1 in
    omega arith

-- Rooms.

investor_at : (day : RecordedDay) (at : ℕ) (investor : InvestorLists)
    → slice_get day.investors at ≡ Some investor
    → investor_in day (length day.dealers + at) ≡ Some investor
investor_at day at investor is =
    let test : nat_lt (length day.dealers + at) (length day.dealers) ≡ false =
    grind (arith, nat_tests) in
    let back : (length day.dealers + at) - length day.dealers ≡ at = omega arith in
    ap (λ (b : Bool). if b then None
    else slice_get day.investors ((length day.dealers + at) - length day.dealers)) test
    ∙ ap (slice_get day.investors) back ∙ is

investor_behind : (day : RecordedDay) (firm : ℕ) (investor : InvestorLists)
    → investor_in day firm ≡ Some investor
    → (length day.dealers ≤ firm)
    × (slice_get day.investors (firm - length day.dealers) ≡ Some investor)
investor_behind day firm investor is = by_test (nat_lt firm (length day.dealers)) refl is
  where
    by_test : (b : Bool) → nat_lt firm (length day.dealers) ≡ b
        → (if b then None else slice_get day.investors (firm - length day.dealers))
        ≡ Some investor
        → (length day.dealers ≤ firm)
        × (slice_get day.investors (firm - length day.dealers) ≡ Some investor)
    by_test true test found = cc
    by_test false test found =
        let behind : length day.dealers ≤ firm = grind (arith, nat_tests) in
        (behind, found)

row_at : (config : Configuration) (firm at : ℕ) (row : InvestorRow)
    → firm ≡ length config.dealers + at → slice_get config.investors at ≡ Some row
    → investor_numbered config firm ≡ Some row
row_at config firm at row is there =
    let test : nat_le (length config.dealers) firm ≡ true = grind (arith, nat_tests) in
    let back : firm - length config.dealers ≡ at = omega arith in
    ap (λ (b : Bool). if b then slice_get config.investors (firm - length config.dealers)
    else None) test
    ∙ ap (slice_get config.investors) back ∙ there

pub too_many_rooms : (config : Configuration) (day : RecordedDay)
    → length day.dealers ≡ length config.dealers → (at : ℕ) (investor : InvestorLists)
    (row : InvestorRow) → slice_get day.investors at ≡ Some investor
    → slice_get config.investors at ≡ Some row → row.requests < length investor.rooms
    → IsMalformed config day
too_many_rooms config day dealers at investor row is row_is many =
    let least : 0 < length investor.rooms = omega arith in
    let same : length investor.rooms ≤ length investor.rooms = omega arith in
    let firm_is : length day.dealers + at ≡ length config.dealers + at = omega arith in
    let above : nat_le (length investor.rooms) row.requests ≡ false = grind (arith, nat_tests) in
    OtherRoom (record { investor = length day.dealers + at; n = length investor.rooms })
    (ap (λ (found : Option InvestorLists). is_some
    (option_and_then (room_numbered (length investor.rooms)) found))
    (investor_at day at investor is)
    ∙ numbered_in investor.rooms (length investor.rooms) least same)
    (ap (λ (found : Option InvestorRow). may_request found (length investor.rooms))
    (row_at config (length day.dealers + at) at row firm_is row_is)
    ∙ ap (λ (b : Bool). nat_le 1 (length investor.rooms) && b) above
    ∙ and_false (nat_le 1 (length investor.rooms)))
  where
    and_false : (b : Bool) → (b && false) ≡ false
    and_false true = refl
    and_false false = refl

-- no investor up to one has more rooms than it may make requests
abbrev pub FewRooms : Configuration → RecordedDay → ℕ → Type 0
FewRooms config day up_to = (at : ℕ) (investor : InvestorLists) (row : InvestorRow) → at < up_to
    → slice_get day.investors at ≡ Some investor → slice_get config.investors at ≡ Some row
    → length investor.rooms ≤ row.requests

abbrev FewAt : Configuration → RecordedDay → ℕ → Type 0
FewAt config day at = (investor : InvestorLists) (row : InvestorRow)
    → slice_get day.investors at ≡ Some investor → slice_get config.investors at ≡ Some row
    → length investor.rooms ≤ row.requests

pub few_more : (config : Configuration) (day : RecordedDay) (at : ℕ) (now : InvestorRow)
    → slice_get config.investors at ≡ Some now
    → ((investor : InvestorLists) → slice_get day.investors at ≡ Some investor
    → length investor.rooms ≤ now.requests)
    → FewRooms config day at → FewRooms config day (at + 1)
few_more config day at now now_is few earlier place investor row below =
    below_more (FewAt config day) at
    (λ (one : ℕ) (under : one < at) (held : InvestorLists) (its : InvestorRow). earlier one held its under)
    here place below investor row
  where
    here : FewAt config day at
    here held its there row_there =
        let both : Some now ≡ Some its = sym now_is ∙ row_there in
        let same : now ≡ its = cc in
        subst (λ (one : InvestorRow). length held.rooms ≤ one.requests) same (few held there)

-- a room of the record is one of the venue, where no investor has too many
pub rooms_known : (config : Configuration) (day : RecordedDay)
    → length day.dealers ≡ length config.dealers → length day.investors ≡ length config.investors
    → ((at : ℕ) (investor : InvestorLists) (row : InvestorRow)
    → slice_get day.investors at ≡ Some investor → slice_get config.investors at ≡ Some row
    → length investor.rooms ≤ row.requests)
    → (room : RoomRef) → is_some (room_in day room) ≡ true
    → has_room config room.investor room.n ≡ true
rooms_known config day dealers investors few room is =
    let found = then_some (room_numbered room.n) (investor_in day room.investor) is in
    let number = numbered_some found.0.rooms room.n found.2 in
    let there = investor_behind day room.investor found.0 found.1 in
    let at : ℕ = room.investor - length day.dealers in
    let inside : at < length day.investors = slice_get_within day.investors at found.0 there.1 in
    let within : at < length config.investors = omega arith in
    let row = within_some config.investors at within in
    let most : length found.0.rooms ≤ row.0.requests = few at found.0 row.0 there.1 row.1 in
    let firm_is : room.investor ≡ length config.dealers + at = omega (arith, there.0) in
    let first : nat_le 1 room.n ≡ true = grind (arith, nat_tests, number.0) in
    let last : nat_le room.n row.0.requests ≡ true = grind (arith, nat_tests, number.1) in
    ap (λ (found_row : Option InvestorRow). may_request found_row room.n)
    (row_at config room.investor at row.0 firm_is row.1)
    ∙ ap (λ (b : Bool). b && nat_le room.n row.0.requests) first ∙ last

-- the investor of a room of the venue is a firm of it
pub room_of_firm : (config : Configuration) (firm n : ℕ) → has_room config firm n ≡ true
    → (row : InvestorRow) × (investor_numbered config firm ≡ Some row) × (firm < firms_of config)
    × (0 < n) × (n ≤ row.requests)
room_of_firm config firm n has = by_row (investor_numbered config firm) refl has
  where
    by_row : (found : Option InvestorRow) → investor_numbered config firm ≡ found
        → may_request found n ≡ true
        → (row : InvestorRow) × (investor_numbered config firm ≡ Some row)
        × (firm < firms_of config) × (0 < n) × (n ≤ row.requests)
    by_row None is may = cc
    by_row (Some row) is may =
        let first : 0 < n = low (nat_le 1 n) refl may in
        let last : n ≤ row.requests = high (nat_le 1 n) may in
        (row, is, below (nat_le (length config.dealers) firm) refl is, first, last)
      where
        low : (b : Bool) → nat_le 1 n ≡ b → (b && nat_le n row.requests) ≡ true → 0 < n
        low true test both = grind (arith, nat_tests)
        low false test both = cc

        high : (b : Bool) → (b && nat_le n row.requests) ≡ true → n ≤ row.requests
        high true both = grind (arith, nat_tests)
        high false both = cc

        below : (b : Bool) → nat_le (length config.dealers) firm ≡ b
            → (if b then slice_get config.investors (firm - length config.dealers) else None)
            ≡ Some row → firm < firms_of config
        below true test found =
            let behind : length config.dealers ≤ firm = grind (arith, nat_tests) in
            let within : firm - length config.dealers < length config.investors =
            slice_get_within config.investors (firm - length config.dealers) row found in
            omega arith
        below false test found = cc
