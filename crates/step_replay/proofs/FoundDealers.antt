-- Looking a dealer of a replay up: one that stands has a place, a row and the book of its trail, and
-- what it does is done by it.
use Rattle.step_replay.proofs.Common.{◌≡◌, ◌<◌, ◌≤◌, ℕ, ◌+◌, List, [], length, get_or, Some, None}
use Rattle.step_replay.proofs.Common.{option_map, sym, ap, ◌∙◌, subst, arith, slice_get, append-nil}
use Rattle.step_replay.proofs.Common.{slice_get_past, Configuration, dealer_numbered, DealerRow}
use Rattle.step_replay.proofs.Common.{Duty, book_of, DeskState, desk_after, book_at, Fact}
use Rattle.step_replay.proofs.Common.{of_dealer, Effect, Dealer, dealer_of, dealer_at, done_by}
use Rattle.step_replay.proofs.Common.{nothing, lent, DealerIs, DealerStands, Stands, Does}
use Rattle.step_replay.proofs.Common.{DealerPlace, Floor, DealerEntry, book_by}
use Rattle.step_replay.proofs.MatchLemmas.{found, flipped, missing}

-- the book of a desk that stands is that of its trail
pub book_is : (config : Configuration) (number : ℕ) (row : DealerRow) (trail : List DealerEntry)
    (place : DealerPlace) → DealerStands config number row trail place
    → book_at place.desk ≡ book_by trail
book_is config number row trail place stands =
    ap (λ (d : List ℕ). book_of (desk_after d place.desk.row place.desk.events).facts) stands.date_is
    ∙ ap (λ (r : DealerRow). book_of (desk_after config.date r place.desk.events).facts) stands.row_is
    ∙ ap (λ (s : DeskState). book_of s.facts) stands.state_is

module _ (config : Configuration) (facts : List Fact) where
  -- a dealer that stands has a place and a row
  pub record Found (number : ℕ) (place : DealerPlace) : Type 0 where
    pub row : DealerRow
    pub row_is : dealer_numbered config number ≡ Some row
    pub stands : DealerStands config number row (of_dealer number facts) place

  pub dealer_found : (floor : Floor) (number : ℕ) (place : DealerPlace) → Stands config facts floor
      → slice_get floor.dealers.items number ≡ Some place → Found number place
  dealer_found floor number place stands is =
      let there = found (DealerIs config facts) 0 config.dealers floor.dealers.items number place
      stands.dealers_are is in
      let same : 0 + number ≡ number = omega arith in
      record {
        row = there.item;
        row_is = there.there;
        stands = subst (λ (n : ℕ). DealerIs config facts n there.item place) same there.so;
      }

  -- the same where the code has read the place of a list
  pub found_read : (floor : Floor) (number index : ℕ) (places : List DealerPlace)
      (place : DealerPlace) → Stands config facts floor → index ≡ number
      → places ≡ floor.dealers.items → index < length places → place ≡ get_or places index place
      → Found number place
  found_read floor number index places place stands index_is places_are within is =
      dealer_found floor number place stands
      (ap (slice_get floor.dealers.items) (sym index_is)
      ∙ ap (λ (l : List DealerPlace). slice_get l index) (sym places_are)
      ∙ lent places index place within is)

  -- the place of a dealer of the venue
  pub record PlaceOf (floor : Floor) (number : ℕ) (row : DealerRow) : Type 0 where
    pub place : DealerPlace
    pub there : slice_get floor.dealers.items number ≡ Some place
    pub stands : DealerStands config number row (of_dealer number facts) place

  pub place_of : (floor : Floor) (number : ℕ) (row : DealerRow) → Stands config facts floor
      → dealer_numbered config number ≡ Some row → PlaceOf floor number row
  place_of floor number row stands is =
      let there = found (λ (n : ℕ) (p : DealerPlace) (r : DealerRow). DealerIs config facts n r p) 0
      floor.dealers.items config.dealers number row
      (flipped (DealerIs config facts) 0 config.dealers floor.dealers.items stands.dealers_are) is in
      let same : 0 + number ≡ number = omega arith in
      record {
        place = there.item;
        there = there.there;
        stands = subst (λ (n : ℕ). DealerIs config facts n row there.item) same there.so;
      }

  -- an action of the dealer with this number, by its place in the list
  pub by_number : (index number : ℕ) (action : Dealer → Effect) (after : Floor)
      (duties : List Duty) → index ≡ number
      → Does config facts (done_by (dealer_at config index) action) after duties
      → Does config facts (done_by (dealer_at config number) action) after duties
  by_number index number action after duties same does =
      subst (λ (n : ℕ). Does config facts (done_by (dealer_at config n) action) after duties) same does

  -- an action of a dealer that was found
  pub by_found : (number : ℕ) (place : DealerPlace) (found : Found number place)
      (action : Dealer → Effect) (after : Floor) (duties : List Duty)
      → Does config facts (action (dealer_of number found.row)) after duties
      → Does config facts (done_by (dealer_at config number) action) after duties
  by_found number place found action after duties does = rw found.row_is does

  -- where nothing happens
  pub idle_does : (floor : Floor) (effect : Effect) (left : List Duty) → Stands config facts floor
      → left ≡ [] → effect ≡ nothing → Does config facts effect floor left
  idle_does floor effect left before leaves same =
      rw same (record { stands = rw (append-nil facts) before; leaves = leaves })

  -- there is no dealer where there is no place
  pub no_dealer : (floor : Floor) (number : ℕ) → Stands config facts floor
      → length floor.dealers.items ≤ number → dealer_numbered config number ≡ None
  no_dealer floor number before past =
      missing (DealerIs config facts) 0 config.dealers floor.dealers.items number
      before.dealers_are (slice_get_past floor.dealers.items number past)

  -- where there is no such dealer, by its place in the list
  pub no_dealer_does : (floor : Floor) (index number : ℕ) (action : Dealer → Effect)
      (duties : List Duty) → Stands config facts floor → length floor.dealers.items ≤ index
      → index ≡ number → duties ≡ []
      → Does config facts (done_by (dealer_at config number) action) floor duties
  no_dealer_does floor index number action duties before past same leaves =
      by_number index number action floor duties same
      (idle_does floor _ duties before leaves
      (ap (λ d. done_by (option_map (dealer_of index) d) action)
      (no_dealer floor index before past)))

  -- duties that are left
  pub leaving : (effect : Effect) (after : Floor) (duties left : List Duty) → duties ≡ left
      → Does config facts effect after left → Does config facts effect after duties
  leaving effect after duties left is does =
      record { stands = does.stands; leaves = is ∙ does.leaves }
