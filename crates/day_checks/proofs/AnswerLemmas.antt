-- Rooms one by one, and the replies that came from them to their investors.
use Rattle.std.proofs.Common.{◌≡◌, refl, ◌∙◌, sym, ap, ℕ, true, false, List, [], ◌∷◌, map, Some}
use Rattle.std.proofs.Common.{if◌then◌else◌}
use Rattle.recorded_days.specs.Records.{InvestorLists}
use Rattle.day_checks.specs.AnsweredResponses.{first_unanswered, is_answered}
use Rattle.day_checks.specs.Arrivals.{arrivals_from}
use Rattle.day_checks.specs.DayChecks.{DayRoom}
use Rattle.day_checks.specs.KeptDays.{without_rooms}
use Rattle.day_checks.specs.declared.arrivals.Arrival.{Arrival}
use Rattle.day_checks.proofs.RelayLemmas.{arrivals_like}

-- whether the hits and passes were answered does not depend on what is recorded of the rooms of the
-- investors
pub unanswered_like : (first : ℕ) (xs ys : List InvestorLists) (rooms : List DayRoom)
    → map without_rooms xs ≡ map without_rooms ys
    → first_unanswered first xs rooms ≡ first_unanswered first ys rooms
unanswered_like first xs ys [] alike = refl
unanswered_like first xs ys (room ∷ later) alike =
    ap (λ own. if is_answered own room then first_unanswered first xs later else Some room.at)
    (arrivals_like room.at first xs ys alike)
    ∙ ap (λ rest. if is_answered (arrivals_from room.at first ys) room then rest
    else Some room.at) (unanswered_like first xs ys later alike)

module _ (first : ℕ) (investors : List InvestorLists) (rooms : List DayRoom) (room : DayRoom)
    (later : List DayRoom) (arrivals : List Arrival) (are_rooms : rooms ≡ room ∷ later)
    (came : arrivals ≡ arrivals_from room.at first investors) where
  -- the hits and passes of the first room were not answered
  pub unanswered_here : is_answered arrivals room ≡ false
      → first_unanswered first investors rooms ≡ Some room.at
  unanswered_here unanswered =
      let rest = first_unanswered first investors later in
      ap (first_unanswered first investors) are_rooms
      ∙ ap (λ own. if is_answered own room then rest else Some room.at) (sym came)
      ∙ ap (λ b. if b then rest else Some room.at) unanswered

  -- they were
  pub unanswered_behind : is_answered arrivals room ≡ true
      → first_unanswered first investors rooms ≡ first_unanswered first investors later
  unanswered_behind answered =
      let rest = first_unanswered first investors later in
      ap (first_unanswered first investors) are_rooms
      ∙ ap (λ own. if is_answered own room then rest else Some room.at) (sym came)
      ∙ ap (λ b. if b then rest else Some room.at) answered
