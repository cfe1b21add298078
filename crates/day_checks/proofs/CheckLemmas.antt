-- Dealers one by one.
use Rattle.std.proofs.Common.{◌≡◌, ℕ, ◌+◌, true, false, List, ◌∷◌, Some, refl}
use Rattle.recorded_days.specs.Records.{DealerLists}
use Rattle.day_checks.specs.DayChecks.{DayRoom, is_told, untold_from}
use Rattle.day_checks.specs.ShownRequests.{is_shown, unshown_from}

module _ (rooms : List DayRoom) (number : ℕ) (dealers : List DealerLists) (dealer : DealerLists) (later : List DealerLists) where
  pub untold_here : dealers ≡ dealer ∷ later → is_told rooms number dealer.events ≡ false → untold_from rooms number dealers ≡ Some number
  untold_here is untold = rw (is, untold) refl

  pub untold_behind : dealers ≡ dealer ∷ later → is_told rooms number dealer.events ≡ true
      → untold_from rooms number dealers ≡ untold_from rooms (number + 1) later
  untold_behind is told = rw (is, told) refl

  pub unshown_here : dealers ≡ dealer ∷ later → is_shown rooms number dealer.events ≡ false
      → unshown_from rooms number dealers ≡ Some number
  unshown_here is unshown = rw (is, unshown) refl

  pub unshown_behind : dealers ≡ dealer ∷ later → is_shown rooms number dealer.events ≡ true
      → unshown_from rooms number dealers ≡ unshown_from rooms (number + 1) later
  unshown_behind is shown = rw (is, shown) refl
