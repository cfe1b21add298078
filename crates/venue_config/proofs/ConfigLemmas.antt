-- A configuration as a whole: its values from those of its rows, its sums, its limits, its firms'
-- numbers.
use Rattle.std.proofs.Common.{◌≡◌, ◌≤◌, ◌+◌, ℕ, true, nat_le, List, [], ◌∷◌, length, map, All, Some}
use Rattle.std.proofs.Common.{Ok, refl, sym, ap, ◌∙◌, arith, sum_by, String, BTreeMap, Global}
use Rattle.std.proofs.lemmas.Bool.Decides.{nat_tests}
use Rattle.std.proofs.lemmas.List.{get_or-map, length-map}
use Rattle.std.proofs.lemmas.List.Sums.{sum_by-cons}
use Rattle.toml.specs.Data.{Data}
use Rattle.toml.specs.Parse.{parse_document}
use Rattle.toml.specs.View.{view, table_view}
use Rattle.toml.specs.declared.value.Value.{Value, Table}
use Rattle.toml.proofs.Views.{view-Table}
use Rattle.venue_rows.specs.declared.config.TheConstants.VenueConfig.{MOST_BONDS, MOST_DEALERS}
use Rattle.venue_rows.specs.declared.config.TheConstants.VenueConfig.{MOST_INVESTORS}
use Rattle.venue_rows.specs.declared.config.TheConstants.VenueConfig.{MOST_QUOTES_IN_ALL}
use Rattle.venue_rows.specs.declared.config.TheConstants.VenueConfig.{MOST_REQUESTS_IN_ALL}
use Rattle.venue_rows.specs.Rows.{Configuration, DealerValues, InvestorValues, dealer_values}
use Rattle.venue_rows.specs.Rows.{investor_values, KeepsLimits, AreTraders}
use Rattle.venue_config.specs.Config.{bonds_in, dealers_in, investors_in, dealer_names}
use Rattle.venue_config.specs.Config.{investor_names, quotes_in_all, requests_in_all, sums_fit}
use Rattle.venue_config.specs.Config.{document_of}
use Rattle.venue_rows.specs.declared.dealer_rows.DealerRow.{DealerRow}
use Rattle.venue_rows.specs.declared.investor_rows.InvestorRow.{InvestorRow}
use Rattle.std.proofs.lemmas.Bool.{and_parts}
use Rattle.venue_config.proofs.LimitLemmas.{bonds_kept, dealers_kept, investors_kept}

-- a table that was read is the document of its text
pub document_read : (text : List ℕ) (own : BTreeMap (String Global) Value) → parse_document text ≡ Some (table_view own) → document_of text ≡ Ok (view (Table own))
unfolding document_of
document_read text own was = rw (was, view-Table own)

-- the sums over rows are those over their values
pub quotes_of_values : (rows : List DealerRow) → quotes_in_all (map dealer_values rows) ≡ sum_by (λ (row : DealerRow). row.quotes) rows
quotes_of_values [] = refl
quotes_of_values (row ∷ rows) =
    sum_by-cons (λ (values : DealerValues). values.quotes) (dealer_values row) (map dealer_values rows)
    ∙ ap (λ n. row.quotes + n) (quotes_of_values rows)
    ∙ sym (sum_by-cons (λ (own : DealerRow). own.quotes) row rows)

pub requests_of_values : (rows : List InvestorRow) → requests_in_all (map investor_values rows) ≡ sum_by (λ (row : InvestorRow). row.requests) rows
requests_of_values [] = refl
requests_of_values (row ∷ rows) =
    sum_by-cons (λ (values : InvestorValues). values.requests) (investor_values row) (map investor_values rows)
    ∙ ap (λ n. row.requests + n) (requests_of_values rows)
    ∙ sym (sum_by-cons (λ (own : InvestorRow). own.requests) row rows)

-- the names of rows are those of their values
pub dealer_names-values : (rows : List DealerRow) → dealer_names (map dealer_values rows) ≡ map (λ (row : DealerRow). row.name) rows
dealer_names-values [] = refl
dealer_names-values (row ∷ rows) = ap (λ names. row.name ∷ names) (dealer_names-values rows)

pub investor_names-values : (rows : List InvestorRow) → investor_names (map investor_values rows) ≡ map (λ (row : InvestorRow). row.name) rows
investor_names-values [] = refl
investor_names-values (row ∷ rows) = ap (λ names. row.name ∷ names) (investor_names-values rows)

-- the limits of a configuration that was read
unmapped_traders : (rows : List DealerRow) → All (λ (row : DealerValues). AreTraders row.traders) (map dealer_values rows) → All (λ (row : DealerRow). AreTraders row.traders) rows
unmapped_traders rows all = λ k d within.
    let kept = all k (dealer_values d) (rw length-map within) in
    rw (get_or-map dealer_values rows k d (dealer_values d) within) at kept

unmapped_investor_traders : (rows : List InvestorRow) → All (λ (row : InvestorValues). AreTraders row.traders) (map investor_values rows) → All (λ (row : InvestorRow). AreTraders row.traders) rows
unmapped_investor_traders rows all = λ k d within.
    let kept = all k (investor_values d) (rw length-map within) in
    rw (get_or-map investor_values rows k d (investor_values d) within) at kept

pub limits_read : (version : ℕ) (document : Data) (config : Configuration)
    → bonds_in version document ≡ Ok config.bonds
    → dealers_in document ≡ Ok (map dealer_values config.dealers)
    → investors_in (map dealer_values config.dealers) document ≡ Ok (map investor_values config.investors)
    → length config.bonds ≤ MOST_BONDS → length config.dealers ≤ MOST_DEALERS → length config.investors ≤ MOST_INVESTORS
    → sums_fit (map dealer_values config.dealers) (map investor_values config.investors) ≡ true
    → KeepsLimits config
limits_read version document config bonds_are dealers_are investors_are bonds dealers investors fit =
    let sums = and_parts (nat_le (quotes_in_all (map dealer_values config.dealers)) MOST_QUOTES_IN_ALL) (nat_le (requests_in_all (map investor_values config.investors)) MOST_REQUESTS_IN_ALL) fit in
    let quotes = rw (quotes_of_values config.dealers) at sums.0 in
    let requests = rw (requests_of_values config.investors) at sums.1 in
    let own_bonds = bonds_kept version document config.bonds bonds_are in
    let own_dealers = dealers_kept document (map dealer_values config.dealers) dealers_are in
    let own_investors = investors_kept document (map dealer_values config.dealers) (map investor_values config.investors) own_dealers.firms investors_are in
    let firms = rw (dealer_names-values config.dealers, investor_names-values config.investors) at own_investors.firms in
    record {
      bonds_most = bonds;
      dealers_most = dealers;
      investors_most = investors;
      bonds_distinct = own_bonds.distinct;
      bonds_named = own_bonds.named;
      bonds_on_grids = own_bonds.on_grids;
      bonds_banded = own_bonds.banded;
      firms_distinct = firms.distinct;
      firms_named = firms.named;
      dealer_traders = unmapped_traders config.dealers own_dealers.traders;
      investor_traders = unmapped_investor_traders config.investors own_investors.traders;
      quotes_most = grind (arith, nat_tests);
      requests_most = grind (arith, nat_tests);
    }
