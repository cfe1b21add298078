-- The keys of a configuration, as a table of data: where each stands, of which kind its value is,
-- of which form and within which limits. Keys that stand in no line here are ignored.
use Rattle.std.specs.Prelude.{ℕ, Bool, List, codes, nat_le}
use Rattle.fix_fields.specs.UtcTimestamp.{is_date}
use Rattle.bond_prices.specs.Grid.{is_grid}
use Rattle.venue_rows.specs.Texts.{is_firm_name, is_bond_id}
use Rattle.venue_rows.specs.declared.config.TheConstants.VenueConfig.{LAST_VERSION, GRIDS_SINCE}
use Rattle.venue_rows.specs.declared.config.TheConstants.VenueConfig.{BANDS_SINCE}
use Rattle.venue_rows.specs.declared.config.TheConstants.VenueConfig.{MOST_BONDS, MOST_DEALERS}
use Rattle.venue_rows.specs.declared.config.TheConstants.VenueConfig.{MOST_INVESTORS}
use Rattle.venue_rows.specs.declared.traders.TheConstants.Traders.{MOST}
use Rattle.venue_rows.specs.declared.dealer_rows.TheConstants.DealerRow.{MOST_QUOTES}
use Rattle.venue_rows.specs.declared.dealer_rows.TheConstants.DealerRow.{MOST_EXPOSURE}
use Rattle.venue_rows.specs.declared.investor_rows.TheConstants.InvestorRow.{MOST_REQUESTS}
use Rattle.venue_rows.specs.declared.investor_rows.TheConstants.InvestorRow.{MOST_OPEN}
use Rattle.venue_rows.specs.declared.investor_rows.TheConstants.InvestorRow.{MOST_QUANTITY}

-- a key whose value is an integer, from 1 to a greatest
pub record NumberKey : Type 0 where
  pub key : List ℕ
  pub most : ℕ

-- a key whose value is one of some integers
pub record ChoiceKey : Type 0 where
  pub key : List ℕ
  pub is_choice : ℕ → Bool

-- a key whose value is a text of some form
pub record TextKey : Type 0 where
  pub key : List ℕ
  pub form : List ℕ → Bool

-- a key whose value is an array, with no fewer and no more elements than these
pub record ArrayKey : Type 0 where
  pub key : List ℕ
  pub least : ℕ
  pub most : ℕ

-- Keys of the document.

-- the version of the format: 1, 2 or 3
abbrev pub version_key : NumberKey
version_key = record { key = codes "version"; most = LAST_VERSION }

-- whether the bonds of a version have their grids
abbrev pub has_grids : ℕ → Bool
has_grids version = nat_le GRIDS_SINCE version

-- whether the bonds of a version may have bands
abbrev pub has_bands : ℕ → Bool
has_bands version = nat_le BANDS_SINCE version

-- the trading day
abbrev pub date_key : TextKey
date_key = record { key = codes "date"; form = is_date }

-- the bonds
abbrev pub bonds_key : ArrayKey
bonds_key = record { key = codes "bond"; least = 0; most = MOST_BONDS }

-- the dealers
abbrev pub dealers_key : ArrayKey
dealers_key = record { key = codes "dealer"; least = 0; most = MOST_DEALERS }

-- the investors
abbrev pub investors_key : ArrayKey
investors_key = record { key = codes "investor"; least = 0; most = MOST_INVESTORS }

-- Keys of a bond.

-- its identifier
abbrev pub id_key : TextKey
id_key = record { key = codes "id"; form = is_bond_id }

-- its grid, from version 2 on: in version 1 the key is ignored
abbrev pub grid_key : ChoiceKey
grid_key = record { key = codes "grid"; is_choice = is_grid }

-- the lowest and the highest of its prices, from version 3 on: before, the keys are ignored
abbrev pub low_key : List ℕ
low_key = codes "low"

abbrev pub high_key : List ℕ
high_key = codes "high"

-- Keys of a dealer and of an investor.

-- the name of the firm
abbrev pub name_key : TextKey
name_key = record { key = codes "name"; form = is_firm_name }

-- its traders
abbrev pub traders_key : ArrayKey
traders_key = record { key = codes "traders"; least = 1; most = MOST }

-- Keys of a dealer.

-- the most quotes that it may have accepted in the day
abbrev pub quotes_key : NumberKey
quotes_key = record { key = codes "quotes"; most = MOST_QUOTES }

-- the most that its live quotes may come to
abbrev pub exposure_key : NumberKey
exposure_key = record { key = codes "exposure"; most = MOST_EXPOSURE }

-- Keys of an investor.

-- the most requests that it may have accepted in the day
abbrev pub requests_key : NumberKey
requests_key = record { key = codes "requests"; most = MOST_REQUESTS }

-- the most requests that may be open at once
abbrev pub open_key : NumberKey
open_key = record { key = codes "open"; most = MOST_OPEN }

-- the greatest quantity of a request
abbrev pub quantity_key : NumberKey
quantity_key = record { key = codes "quantity"; most = MOST_QUANTITY }
