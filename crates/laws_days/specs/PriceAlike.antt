-- Days that are one but for the prices of other dealers: when two messages differ in their prices
-- alone, when two days do so for a dealer, and when two due lists differ in the cover alone.
use Rattle.std.specs.Prelude.{◌≡◌, ℕ, ◌==◌, ◌||◌, ◌⊎◌, Bool, true, false, List, Option}
use Rattle.std.specs.Prelude.{Some, None, Ok, option_and_then}
use Rattle.std.specs.List.{AllZip}
use Rattle.bond_prices.specs.Band.{in_band}
use Rattle.bond_prices.specs.Grid.{on_grid}
use Rattle.bond_prices.specs.Price.{price_of}
use Rattle.fix_fields.specs.Frame.{Field, IsFrame, value_of}
use Rattle.market_terms.specs.declared.closes.Close.TheVariants.{Cover, DoneAway}
use Rattle.venue_rows.specs.Rows.{Configuration, dealer_numbered, bond_with_id}
use Rattle.venue_rows.specs.declared.bond_rows.BondRow.{BondRow}
use Rattle.venue_rows.specs.declared.dealer_rows.DealerRow.{DealerRow}
use Rattle.step_replay.specs.declared.dues.Due.{Due}
use Rattle.step_replay.specs.declared.dues.Due.TheVariants as due
use Rattle.step_replay.specs.declared.steps.Step.{Step}
use Rattle.step_replay.specs.declared.steps.Step.TheVariants as step

-- Messages.

-- whether a tag bears a price: BidPx (132) or OfferPx (133)
abbrev pub is_price_tag : ℕ → Bool
is_price_tag tag = (tag == 132) || (tag == 133)

-- whether a price in 256ths is on the grid of a bond, where one is known
abbrev pub is_on_grid_of : Option BondRow → ℕ → Bool
is_on_grid_of None price = true
is_on_grid_of (Some bond) price = on_grid price bond.grid

-- whether it is in the band of the bond, where one is known
abbrev pub is_in_band_of : Option BondRow → ℕ → Bool
is_in_band_of None price = true
is_in_band_of (Some bond) price = in_band price bond.band

-- A text is a lawful price of a bond: it is read as whole 256ths, and is on the grid and in the band
-- of the bond, where one is known.
pub record IsPriceOf (bond : Option BondRow) (text : List ℕ) : Type 0 where
  pub price : ℕ
  pub is_read : price_of text ≡ Ok price
  pub is_on_grid : is_on_grid_of bond price ≡ true
  pub is_in_band : is_in_band_of bond price ≡ true

-- two fields are lawful prices of a bond, both bids or both offers
pub record ArePricesOf (bond : Option BondRow) (one other : Field) : Type 0 where
  pub is_price : is_price_tag one.0 ≡ true
  pub tag : one.0 ≡ other.0
  pub one_price : IsPriceOf bond one.1
  pub other_price : IsPriceOf bond other.1

-- two fields are one, or differ in the price alone
abbrev pub IsOneOrPriced : Option BondRow → Field → Field → Type 0
IsOneOrPriced bond one other = (one ≡ other) ⊎ ArePricesOf bond one other

-- the bond that a message means: that of the venue which SecurityID (48) names, where it names one
abbrev pub bond_meant : Configuration → List Field → Option BondRow
bond_meant config fields = option_and_then (bond_with_id config) (value_of 48 fields)

-- Two messages differ in their prices alone: both are frames, and field by field they are one, but
-- that lawful prices of the bond that is meant may stand against each other. BodyLength (9) and
-- CheckSum (10), which are no fields of a body, may differ.
pub record DiffersInPrices (config : Configuration) (one other : List ℕ) : Type 0 where
  pub fields : List Field
  pub others : List Field
  pub one_is : IsFrame one fields
  pub other_is : IsFrame other others
  pub fields_are : AllZip (IsOneOrPriced (bond_meant config fields)) fields others

-- Days.

-- Two steps are one message of a dealer that is not this one, at one moment, in which the prices
-- alone differ.
pub record IsPricedByAnother (config : Configuration) (dealer : ℕ) (one other : Step) : Type 0 where
  pub firm : ℕ
  pub row : DealerRow
  pub is_dealer : dealer_numbered config firm ≡ Some row
  pub is_another : (firm == dealer) ≡ false
  pub moment : ℕ
  pub message : List ℕ
  pub priced : List ℕ
  pub one_is : one ≡ step.In firm moment message
  pub other_is : other ≡ step.In firm moment priced
  pub prices : DiffersInPrices config message priced

-- Two days of one venue are alike for a dealer but for prices: step by step they are one, but that
-- the prices of other dealers may differ.
abbrev pub IsPriceAlike : Configuration → ℕ → List Step → List Step → Type 0
IsPriceAlike config dealer steps others =
    AllZip (λ one other. (one ≡ other) ⊎ IsPricedByAnother config dealer one other) steps others

-- Due lists.

-- two items are one closing notice, but that Cover (694=4) stands against Done Away (694=5)
abbrev pub IsCoverAgainstDoneAway : Due → Due → Type 0
IsCoverAgainstDoneAway (due.Closed request Cover moment) (due.Closed again DoneAway later) =
    (request ≡ again) × (moment ≡ later)
IsCoverAgainstDoneAway one other = ⊥

-- Two due lists are one but for the cover: item by item they are one, but that Cover may stand
-- against Done Away.
abbrev pub IsOneButForCover : List Due → List Due → Type 0
IsOneButForCover dues others =
    AllZip
    (λ one other. (one ≡ other) ⊎ IsCoverAgainstDoneAway one other
    ⊎ IsCoverAgainstDoneAway other one)
    dues others
