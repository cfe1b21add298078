-- Which configuration a text spells, or its first fault: the keys in their order, row by row, and
-- the sums last.
use Rattle.std.specs.Prelude.{ℕ, Bool, ◌&&◌, List, [], ◌++◌, map, nat_le, sum_by, Option, Some}
use Rattle.std.specs.Prelude.{None, Result, Ok, Err, if◌then◌else◌}
use Rattle.toml.specs.Data.{Data, Members, table, as_integer, get}
use Rattle.toml.specs.Parse.{parse_document}
use Rattle.venue_config.specs.Keys.{version_key, has_bands, has_grids, date_key, bonds_key, id_key}
use Rattle.venue_config.specs.Keys.{grid_key, high_key, low_key}
use Rattle.venue_config.specs.Keys.{dealers_key, investors_key}
use Rattle.venue_config.specs.Keys.{name_key, quotes_key, exposure_key, requests_key, open_key}
use Rattle.venue_config.specs.Keys.{quantity_key}
use Rattle.bond_prices.specs.Band.{whole_band}
use Rattle.bond_prices.specs.Grid.{finest_grid}
use Rattle.bond_prices.specs.declared.band.Band.{Band}
use Rattle.venue_rows.specs.declared.config.TheConstants.VenueConfig.{MOST_QUOTES_IN_ALL}
use Rattle.venue_rows.specs.declared.config.TheConstants.VenueConfig.{MOST_REQUESTS_IN_ALL}
use Rattle.venue_rows.specs.declared.bond_rows.BondRow.{BondRow}
use Rattle.venue_config.specs.Values.{◌>>=◌, number_at, choice_in, text_at, unnamed, rows_at}
use Rattle.venue_config.specs.Values.{price_at, read_all, traders_at}
use Rattle.venue_rows.specs.Rows.{DealerValues, InvestorValues, ConfigValues, bond_ids}
use Rattle.venue_config.specs.declared.faults.ConfigFault.{ConfigFault}
use Rattle.venue_config.specs.declared.faults.ConfigFault.TheVariants.{Toml, Missing, Limit}

-- the identifier of a bond, of which no two have one
unfoldable pub bond_id_of : List (List ℕ) → Data → Result (List ℕ) ConfigFault
bond_id_of bonds row = text_at id_key row >>= unnamed bonds

-- the fault of a bond that has no grid: where bonds may have bands, the document is of no version
abbrev pub fault_without_grid : ℕ → ConfigFault
fault_without_grid version = if has_bands version then Limit else Missing

-- the grid that stands in a bond's row
abbrev pub grid_in : ℕ → Option Data → Result ℕ ConfigFault
grid_in version None = Err (fault_without_grid version)
grid_in version (Some value) = choice_in grid_key.is_choice (as_integer value)

-- the grid of a bond: in a version without grids the finest, whatever stands in its row
unfoldable pub grid_of : ℕ → Data → Result ℕ ConfigFault
grid_of version row =
    if has_grids version then grid_in version (get grid_key.key row) else Ok finest_grid

-- the band between two ends, both of which stand or neither: where neither does, every price is in
-- it
abbrev pub band_between : Option ℕ → Option ℕ → Result Band ConfigFault
band_between None None = Ok whole_band
band_between (Some low) (Some high) =
    if nat_le low high then Ok (record { low = low; high = high }) else Err Limit
band_between (Some low) None = Err Limit
band_between None (Some high) = Err Limit

-- the band of a bond on a grid
unfoldable pub band_in : ℕ → Data → Result Band ConfigFault
band_in grid row = do
  low ← price_at low_key grid row
  high ← price_at high_key grid row
  band_between low high

-- the same in a version: in one without bands every price is in it, whatever stands in the row
unfoldable pub band_of : ℕ → ℕ → Data → Result Band ConfigFault
band_of version grid row = if has_bands version then band_in grid row else Ok whole_band

-- a bond, behind the bonds before it
unfoldable pub bond_of : ℕ → List BondRow → Data → Result BondRow ConfigFault
bond_of version bonds row = do
  id ← bond_id_of (bond_ids bonds) row
  grid ← grid_of version row
  band ← band_of version grid row
  Ok (record { id = id; grid = grid; band = band })

-- the names of dealers
abbrev pub dealer_names : List DealerValues → List (List ℕ)
dealer_names dealers = map (λ (row : DealerValues). row.name) dealers

-- the names of investors
abbrev pub investor_names : List InvestorValues → List (List ℕ)
investor_names investors = map (λ (row : InvestorValues). row.name) investors

-- the name of a firm, of which no two have one name, be they dealers or investors
unfoldable pub firm_name_of : List (List ℕ) → Data → Result (List ℕ) ConfigFault
firm_name_of firms row = text_at name_key row >>= unnamed firms

-- a dealer, behind the dealers before it
unfoldable pub dealer_of : List DealerValues → Data → Result DealerValues ConfigFault
dealer_of dealers row = do
  name ← firm_name_of (dealer_names dealers) row
  traders ← traders_at row
  quotes ← number_at quotes_key row
  exposure ← number_at exposure_key row
  Ok (record { name = name; traders = traders; quotes = quotes; exposure = exposure })

-- an investor, behind all dealers and the investors before it
unfoldable pub investor_of : List DealerValues → List InvestorValues → Data
    → Result InvestorValues ConfigFault
investor_of dealers investors row = do
  name ← firm_name_of (dealer_names dealers ++ investor_names investors) row
  traders ← traders_at row
  requests ← number_at requests_key row
  open_limit ← number_at open_key row
  quantity ← number_at quantity_key row
  Ok (record {
    name = name;
    traders = traders;
    requests = requests;
    open_limit = open_limit;
    quantity = quantity;
  })

-- the bonds of a document, in their order
unfoldable pub bonds_in : ℕ → Data → Result (List BondRow) ConfigFault
bonds_in version document = rows_at bonds_key document >>= read_all (bond_of version) []

-- the dealers of a document, in their order
unfoldable pub dealers_in : Data → Result (List DealerValues) ConfigFault
dealers_in document = rows_at dealers_key document >>= read_all dealer_of []

-- the investors of a document, behind all dealers
unfoldable pub investors_in : List DealerValues → Data → Result (List InvestorValues) ConfigFault
investors_in dealers document = rows_at investors_key document >>= read_all (investor_of dealers) []

-- how many quotes a day may have in all
abbrev pub quotes_in_all : List DealerValues → ℕ
quotes_in_all dealers = sum_by (λ row. row.quotes) dealers

-- how many requests a day may have in all
abbrev pub requests_in_all : List InvestorValues → ℕ
requests_in_all investors = sum_by (λ row. row.requests) investors

-- whether both sums are within their limits
abbrev pub sums_fit : List DealerValues → List InvestorValues → Bool
sums_fit dealers investors =
    nat_le (quotes_in_all dealers) MOST_QUOTES_IN_ALL
    && nat_le (requests_in_all investors) MOST_REQUESTS_IN_ALL

-- a configuration whose sums are within their limits
abbrev pub with_sums : ConfigValues → Result ConfigValues ConfigFault
with_sums config = if sums_fit config.dealers config.investors then Ok config else Err Limit

-- the configuration of a document
unfoldable pub config_in : Data → Result ConfigValues ConfigFault
config_in document = do
  version ← number_at version_key document
  date ← text_at date_key document
  bonds ← bonds_in version document
  dealers ← dealers_in document
  investors ← investors_in dealers document
  with_sums (record { date = date; bonds = bonds; dealers = dealers; investors = investors })

-- the document that a text of TOML spells
abbrev pub document_from : Option Members → Result Data ConfigFault
document_from None = Err Toml
document_from (Some members) = Ok (table members)

-- the document of a text
unfoldable pub document_of : List ℕ → Result Data ConfigFault
document_of text = document_from (parse_document text)

-- the configuration that a text spells
unfoldable pub config_of : List ℕ → Result ConfigValues ConfigFault
config_of text = document_of text >>= config_in
