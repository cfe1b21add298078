-- Every room of a venue, as a sweep of the clock goes over them.
use Rattle.std.proofs.Common.{◌≡◌, ◌<◌, ℕ, zero, suc, ◌+◌, ◌-◌, true, List, [], ◌∷◌, ◌++◌, length, map, refl, ap, sym, ◌∙◌, arith}
use Rattle.std.proofs.Common.{Some, None, nat_le}
use Rattle.std.specs.Prelude.{slice_get}
use Rattle.std.proofs.lemmas.Bool.Decides.{nat_tests}
use Rattle.std.proofs.lemmas.List.{append_assoc, length-append, length-map, map-append}
use Rattle.market_terms.specs.declared.rooms.RoomRef.{RoomRef}
use Rattle.venue_rows.specs.Rows.{Configuration, InvestorValues, has_room, investor_numbered, investor_values, may_request, values_of}
use Rattle.venue_rows.specs.declared.investor_rows.InvestorRow.{InvestorRow}
use Rattle.step_replay.specs.StepFaults.{first_fault_from}
use Rattle.step_replay.specs.VenueRooms.{requests_of, rooms_behind, rooms_from, rooms_of}
use Rattle.step_replay.specs.declared.steps.Step.TheVariants as step
use Rattle.input_lines.specs.StepLines.{sweeps_at, venue_rooms}
use Rattle.input_lines.specs.StepFaultLemmas.{none_then}

-- the rooms by a configuration's values
requests_are : (rows : List InvestorRow)
    → map (λ (row : InvestorValues). row.requests) (map investor_values rows) ≡ requests_of rows
requests_are [] = refl
requests_are (row ∷ rows) = ap (λ l. row.requests ∷ l) (requests_are rows)

pub rooms_are : (config : Configuration) → venue_rooms (values_of config) ≡ rooms_of config
rooms_are config = rw (length-map config.dealers _, requests_are config.investors) refl

-- one room more of an investor
pub next_room : (moment investor first requests : ℕ) → first < requests
    → sweeps_at moment (rooms_behind investor first (requests - first))
    ≡ step.Expire (record { investor = investor; n = first + 1 }) moment
    ∷ sweeps_at moment (rooms_behind investor (first + 1) (requests - (first + 1)))
next_room moment investor first requests within =
    let left : requests - first ≡ suc (requests - (first + 1)) = omega arith in
    ap (λ n. sweeps_at moment (rooms_behind investor first n)) left

-- the element behind others
at_seam : {A : Type 0} (xs : List A) (y : A) (ys : List A) → slice_get (xs ++ y ∷ ys) (length xs) ≡ Some y
at_seam [] y ys = refl
at_seam (x ∷ xs) y ys = at_seam xs y ys

module _ (config : Configuration) (moment : ℕ) where
  -- the rooms of an investor that the venue has
  known_behind : (investor first more : ℕ) → ((i : ℕ) → i < more → has_room config investor (first + i + 1) ≡ true)
      → (k : ℕ) → first_fault_from config k (sweeps_at moment (rooms_behind investor first more)) ≡ None
  known_behind investor first zero has k = refl
  known_behind investor first (suc more) has k =
      let here : first + 0 + 1 ≡ first + 1 = omega arith in
      let this : has_room config investor (first + 1) ≡ true =
      ap (has_room config investor) (sym here) ∙ has zero (omega arith) in
      rw this (known_behind investor (first + 1) more (λ i below.
      let same : first + 1 + i + 1 ≡ first + suc i + 1 = omega arith in
      ap (has_room config investor) same ∙ has (suc i) (omega (arith, below))) (k + 1))

  has_its_rooms : (before rest : List InvestorRow) (row : InvestorRow) → config.investors ≡ before ++ row ∷ rest → (i : ℕ) → i < row.requests
      → has_room config (length config.dealers + length before) (0 + i + 1) ≡ true
  has_its_rooms before rest row is i below =
      let behind : nat_le (length config.dealers) (length config.dealers + length before) ≡ true = grind (arith, nat_tests) in
      let place : length config.dealers + length before - length config.dealers ≡ length before = omega arith in
      let found : investor_numbered config (length config.dealers + length before) ≡ Some row = rw (behind, place, is) (at_seam before row rest) in
      let first : nat_le 1 (0 + i + 1) ≡ true = grind (arith, nat_tests) in
      let within : nat_le (0 + i + 1) row.requests ≡ true = grind (arith, nat_tests, below) in
      ap (λ found. may_request found (0 + i + 1)) found ∙ rw (first, within) refl

  known_from : (before rows : List InvestorRow) → config.investors ≡ before ++ rows → (k : ℕ)
      → first_fault_from config k (sweeps_at moment (rooms_from (length config.dealers + length before) (requests_of rows))) ≡ None
  known_from before [] is k = refl
  known_from before (row ∷ rest) is k =
      let firm = length config.dealers + length before in
      let next : length config.dealers + length (before ++ row ∷ []) ≡ firm + 1 = rw (length-append before (row ∷ [])) (omega arith) in
      let later : (j : ℕ) → first_fault_from config j (sweeps_at moment (rooms_from (firm + 1) (requests_of rest))) ≡ None =
      λ j. rw (sym next) (known_from (before ++ row ∷ []) rest (is ∙ sym (append_assoc before (row ∷ []) rest)) j) in
      rw (map-append (λ (room : RoomRef). step.Expire room moment) (rooms_behind firm 0 row.requests) (rooms_from (firm + 1) (requests_of rest)))
      (none_then config k (sweeps_at moment (rooms_behind firm 0 row.requests)) (sweeps_at moment (rooms_from (firm + 1) (requests_of rest)))
      (known_behind firm 0 row.requests (has_its_rooms before rest row is) k) later)

  -- each room of the venue is one that it has
  pub known_sweeps : (k : ℕ) → first_fault_from config k (sweeps_at moment (venue_rooms (values_of config))) ≡ None
  known_sweeps k =
      let first : length config.dealers ≡ length config.dealers + 0 = omega arith in
      rw (rooms_are config, first) (known_from [] config.investors refl k)
