-- The places of a venue at the start of a day: names for private functions alone.
use Rattle.std.specs.Prelude.{◌≡◌, ℕ, ◌+◌, List, [], ◌∷◌, ◌++◌, length, take, replicate, None}
use Rattle.venue_rows.specs.Rows.{Configuration}
use Rattle.venue_rows.specs.declared.dealer_rows.DealerRow.{DealerRow}
use Rattle.venue_rows.specs.declared.investor_rows.InvestorRow.{InvestorRow}
use Rattle.investor_desk.specs.InvestorDesk.{market_of, no_events}
use Rattle.step_replay.specs.Actions.{dealer_of, first_word}
use Rattle.step_replay.specs.Matching.{Match}
use Rattle.step_replay.specs.declared.floor.DealerPlace.{DealerPlace}
use Rattle.step_replay.specs.declared.floor.InvestorPlace.{InvestorPlace}
use Rattle.step_replay.specs.declared.floor.Floor.{Floor}

-- a dealer's place at the start: no event came to its desk, and no quote of its was lifted
pub record DealerOpens (config : Configuration) (number : ℕ) (row : DealerRow) (place : DealerPlace)
    : Type 0 where
  pub desk_is : place.desk ≡ record { date = config.date; row = row; events = [] }
  pub first_is : place.first_word ≡ first_word config (dealer_of number row)
  pub liftings_are : place.liftings.items ≡ []

-- the places of the first so many dealers
pub record DealersOpen (config : Configuration) (many : ℕ) (places : List DealerPlace) : Type 0 where
  pub opened : Match (DealerOpens config) 0 (take many config.dealers) places

-- an investor's place at the start: no event came to its desk, and its rooms are vacant
pub record InvestorOpens (config : Configuration) (firm : ℕ) (row : InvestorRow)
    (place : InvestorPlace) : Type 0 where
  pub desk_is : place.desk ≡ no_events (market_of config firm row)
  pub rooms_are : place.rooms.items ≡ replicate row.requests []

-- the places of the first so many investors
pub record InvestorsOpen (config : Configuration) (many : ℕ) (places : List InvestorPlace) : Type 0 where
  pub opened : Match (InvestorOpens config) (length config.dealers) (take many config.investors)
      places

-- the owner of each word of these dealers' quotes, of which the first has this number
abbrev pub owners_from : ℕ → List DealerRow → List ℕ
owners_from number [] = []
owners_from number (row ∷ rows) = replicate row.quotes number ++ owners_from (number + 1) rows

-- the places at the start
pub record Opens (config : Configuration) (floor : Floor) : Type 0 where
  pub config_is : floor.config ≡ config
  pub dealers_open : DealersOpen config (length config.dealers) floor.dealers.items
  pub investors_open : InvestorsOpen config (length config.investors) floor.investors.items
  pub owners_are : floor.owners.items ≡ owners_from 0 config.dealers
  pub words_open : floor.words ≡ replicate (length floor.owners.items) None
