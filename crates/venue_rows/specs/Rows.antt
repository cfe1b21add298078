-- What a configuration holds, and the limits that it keeps.
use Rattle.std.specs.Prelude.{◌≢◌, ℕ, ◌-◌, ◌≤◌, Bool, false, ◌&&◌, IsTrue, List, ◌++◌, length, map}
use Rattle.std.specs.Prelude.{nat_le, position, slice_get, sum_by, All, AllPairs, Option, Some}
use Rattle.std.specs.Prelude.{None, if◌then◌else◌}
use Rattle.std.specs.List.{find}
use Rattle.bond_prices.specs.Grid.{is_grid}
use Rattle.venue_rows.specs.Texts.{is_bond_id, is_firm_name, same_text}
use Rattle.venue_rows.specs.declared.config.TheConstants.VenueConfig.{MOST_BONDS, MOST_DEALERS}
use Rattle.venue_rows.specs.declared.config.TheConstants.VenueConfig.{MOST_INVESTORS}
use Rattle.venue_rows.specs.declared.config.TheConstants.VenueConfig.{MOST_QUOTES_IN_ALL}
use Rattle.venue_rows.specs.declared.config.TheConstants.VenueConfig.{MOST_REQUESTS_IN_ALL}
use Rattle.venue_rows.specs.declared.traders.TheConstants.Traders.{MOST}
use Rattle.venue_rows.specs.declared.bond_rows.BondRow.{BondRow}
use Rattle.venue_rows.specs.declared.dealer_rows.DealerRow.{DealerRow}
use Rattle.venue_rows.specs.declared.investor_rows.InvestorRow.{InvestorRow}

-- the values of a dealer's row
pub record DealerValues : Type 0 where
  pub name : List ℕ
  pub traders : List (List ℕ)
  pub quotes : ℕ
  pub exposure : ℕ

-- the values of an investor's row
pub record InvestorValues : Type 0 where
  pub name : List ℕ
  pub traders : List (List ℕ)
  pub requests : ℕ
  pub open_limit : ℕ
  pub quantity : ℕ

-- the values of a configuration
pub record ConfigValues : Type 0 where
  pub date : List ℕ
  pub bonds : List BondRow
  pub dealers : List DealerValues
  pub investors : List InvestorValues

-- a configuration, whose rows keep their limits beside their values
pub record Configuration : Type 0 where
  pub date : List ℕ
  pub bonds : List BondRow
  pub dealers : List DealerRow
  pub investors : List InvestorRow

-- the values of a dealer
abbrev pub dealer_values : DealerRow → DealerValues
dealer_values row = record {
  name = row.name;
  traders = row.traders;
  quotes = row.quotes;
  exposure = row.exposure;
}

-- the values of an investor
abbrev pub investor_values : InvestorRow → InvestorValues
investor_values row = record {
  name = row.name;
  traders = row.traders;
  requests = row.requests;
  open_limit = row.open_limit;
  quantity = row.quantity;
}

-- the values of a configuration
abbrev pub values_of : Configuration → ConfigValues
values_of config = record {
  date = config.date;
  bonds = config.bonds;
  dealers = map dealer_values config.dealers;
  investors = map investor_values config.investors;
}

-- the identifiers of bonds
abbrev pub bond_ids : List BondRow → List (List ℕ)
bond_ids bonds = map (λ (row : BondRow). row.id) bonds

-- the bond with an identifier
abbrev pub bond_with_id : Configuration → List ℕ → Option BondRow
bond_with_id config id = find (λ row. same_text row.id id) config.bonds

-- The names of the firms, each at its number: the dealers in their order, and behind them the
-- investors.
abbrev pub firm_names : Configuration → List (List ℕ)
firm_names config =
    map (λ (row : DealerRow). row.name) config.dealers
    ++ map (λ (row : InvestorRow). row.name) config.investors

-- the number of the firm with a name
abbrev pub firm_number : Configuration → List ℕ → Option ℕ
firm_number config name = position (λ own. same_text own name) (firm_names config)

-- the number of the dealer with a name
abbrev pub dealer_named : Configuration → List ℕ → Option ℕ
dealer_named config name = position (λ row. same_text row.name name) config.dealers

-- the dealer with a number
abbrev pub dealer_numbered : Configuration → ℕ → Option DealerRow
dealer_numbered config firm = slice_get config.dealers firm

-- the investor with a number
abbrev pub investor_numbered : Configuration → ℕ → Option InvestorRow
investor_numbered config firm =
    if nat_le (length config.dealers) firm
    then slice_get config.investors (firm - length config.dealers)
    else None

-- whether a number is that of one of the investor's requests in a day
abbrev pub may_request : Option InvestorRow → ℕ → Bool
may_request None number = false
may_request (Some row) number = nat_le 1 number && nat_le number row.requests

-- whether there is a room for the request with this number of the firm with that number
abbrev pub has_room : Configuration → ℕ → ℕ → Bool
has_room config firm number = may_request (investor_numbered config firm) number

-- the traders of a firm: 1 to 16, none named twice
pub record AreTraders (traders : List (List ℕ)) : Type 0 where
  pub least : 1 ≤ length traders
  pub most : length traders ≤ MOST
  pub distinct : AllPairs (λ a b. a ≢ b) traders

-- The limits of a configuration, beside those that each row keeps by itself.
pub record KeepsLimits (config : Configuration) : Type 0 where
  pub bonds_most : length config.bonds ≤ MOST_BONDS
  pub dealers_most : length config.dealers ≤ MOST_DEALERS
  pub investors_most : length config.investors ≤ MOST_INVESTORS
  pub bonds_distinct : AllPairs (λ a b. a ≢ b) (bond_ids config.bonds)
  pub bonds_named : All (λ id. IsTrue (is_bond_id id)) (bond_ids config.bonds)
  pub bonds_on_grids : All (λ (row : BondRow). IsTrue (is_grid row.grid)) config.bonds
  pub bonds_banded : All (λ (row : BondRow). IsTrue (nat_le row.band.low row.band.high)) config.bonds
  pub firms_distinct : AllPairs (λ a b. a ≢ b) (firm_names config)
  pub firms_named : All (λ name. IsTrue (is_firm_name name)) (firm_names config)
  pub dealer_traders : All (λ (row : DealerRow). AreTraders row.traders) config.dealers
  pub investor_traders : All (λ (row : InvestorRow). AreTraders row.traders) config.investors
  pub quotes_most : sum_by (λ (row : DealerRow). row.quotes) config.dealers ≤ MOST_QUOTES_IN_ALL
  pub requests_most :
      sum_by (λ (row : InvestorRow). row.requests) config.investors ≤ MOST_REQUESTS_IN_ALL
