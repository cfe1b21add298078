-- Rooms one by one, and what came from them to their investors.
use Rattle.std.proofs.Common.{◌≡◌, refl, ◌∙◌, sym, ap, ℕ, ◌+◌, true, false, List, [], ◌∷◌, ◌++◌}
use Rattle.std.proofs.Common.{map, Some, if◌then◌else◌}
use Rattle.market_terms.specs.declared.rooms.RoomRef.{RoomRef}
use Rattle.recorded_days.specs.Records.{InvestorLists}
use Rattle.venue_rows.specs.Rows.{Configuration}
use Rattle.day_checks.specs.Arrivals.{arrivals_at, arrivals_from}
use Rattle.day_checks.specs.DayChecks.{DayRoom}
use Rattle.day_checks.specs.KeptDays.{without_rooms}
use Rattle.day_checks.specs.RelayedQuotes.{first_unrelayed, is_relayed}
use Rattle.day_checks.specs.declared.arrivals.Arrival.{Arrival}

-- Investors.

bare_arrivals : (room : RoomRef) (firm : ℕ) (investors : List InvestorLists)
    → arrivals_from room firm (map without_rooms investors) ≡ arrivals_from room firm investors
bare_arrivals room firm [] = refl
bare_arrivals room firm (day ∷ later) =
    ap (λ rest. arrivals_at room firm day.events ++ rest) (bare_arrivals room (firm + 1) later)

-- what came to investors does not depend on what is recorded of their rooms
pub arrivals_like : (room : RoomRef) (firm : ℕ) (xs ys : List InvestorLists)
    → map without_rooms xs ≡ map without_rooms ys
    → arrivals_from room firm xs ≡ arrivals_from room firm ys
arrivals_like room firm xs ys alike =
    sym (bare_arrivals room firm xs) ∙ ap (arrivals_from room firm) alike
    ∙ bare_arrivals room firm ys

-- and so not whether the quotes came
pub unrelayed_like : (config : Configuration) (first : ℕ) (xs ys : List InvestorLists)
    (rooms : List DayRoom) → map without_rooms xs ≡ map without_rooms ys
    → first_unrelayed config first xs rooms ≡ first_unrelayed config first ys rooms
unrelayed_like config first xs ys [] alike = refl
unrelayed_like config first xs ys (room ∷ later) alike =
    ap (λ own. if is_relayed config own room then first_unrelayed config first xs later
    else Some room.at) (arrivals_like room.at first xs ys alike)
    ∙ ap (λ rest. if is_relayed config (arrivals_from room.at first ys) room then rest
    else Some room.at) (unrelayed_like config first xs ys later alike)

-- Rooms.

module _ (config : Configuration) (first : ℕ) (investors : List InvestorLists)
    (rooms : List DayRoom) (room : DayRoom) (later : List DayRoom) (arrivals : List Arrival)
    (are_rooms : rooms ≡ room ∷ later)
    (came : arrivals ≡ arrivals_from room.at first investors) where
  -- the quotes of the first room did not come
  pub unrelayed_here : is_relayed config arrivals room ≡ false
      → first_unrelayed config first investors rooms ≡ Some room.at
  unrelayed_here unrelayed =
      let rest = first_unrelayed config first investors later in
      ap (first_unrelayed config first investors) are_rooms
      ∙ ap (λ own. if is_relayed config own room then rest else Some room.at) (sym came)
      ∙ ap (λ b. if b then rest else Some room.at) unrelayed

  -- they did
  pub unrelayed_behind : is_relayed config arrivals room ≡ true
      → first_unrelayed config first investors rooms
      ≡ first_unrelayed config first investors later
  unrelayed_behind relayed =
      let rest = first_unrelayed config first investors later in
      ap (first_unrelayed config first investors) are_rooms
      ∙ ap (λ own. if is_relayed config own room then rest else Some room.at) (sym came)
      ∙ ap (λ b. if b then rest else Some room.at) relayed
