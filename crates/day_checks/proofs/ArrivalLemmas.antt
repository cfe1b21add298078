-- What came from rooms to the desks of investors, put under the rooms one after the other.
use Rattle.std.proofs.Common.{◌≡◌, refl, Bool, true, false, List, [], ◌∷◌, ◌++◌, Option, Some, None}
use Rattle.std.proofs.Common.{if◌then◌else◌, append_assoc}
use Rattle.std.specs.List.{cons_option}
use Rattle.day_checks.specs.NextItems.{with_next}
use Rattle.day_checks.specs.declared.arrivals.Arrival.{Arrival}

-- what came, where the room is its own
pub where_own : (before : List Arrival) (what : Arrival) (own : Bool)
    → (if own then before ++ what ∷ [] else before)
    ≡ with_next before (if own then Some what else None)
where_own before what true = refl
where_own before what false = refl

-- one event more
pub arrival_more : (before : List Arrival) (one : Option Arrival) (later : List Arrival)
    → with_next before one ++ later ≡ before ++ cons_option one later
arrival_more before None later = refl
arrival_more before (Some what) later = append_assoc before (what ∷ []) later
