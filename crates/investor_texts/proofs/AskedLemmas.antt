-- What an input spells, where its parts spell it, and the investor that an argument names.
use Rattle.std.proofs.Common.{◌≡◌, ◌<◌, ◌≤◌, ℕ, ◌-◌, true, length, nat_le, nat_lt, Option, Some}
use Rattle.std.proofs.Common.{None, is_some, refl, arith}
use Rattle.std.proofs.lemmas.Bool.Decides.{nat_tests}
use Rattle.std.proofs.lemmas.List.{length-map}
use Rattle.step_replay.specs.StepFaults.{firms_of}
use Rattle.venue_rows.specs.Rows.{Configuration, dealer_values, investor_numbered, values_of}
use Rattle.venue_rows.specs.declared.investor_rows.InvestorRow.{InvestorRow}
use Rattle.input_lines.specs.ResultSteps.{◌>>=◌}
use Rattle.step_replay.specs.PlaceLemmas.{has_item}

-- how many dealers a configuration has, by its values
pub dealers_count : (config : Configuration)
    → length (values_of config).dealers ≡ length config.dealers
dealers_count config = length-map config.dealers dealer_values

-- a firm behind the dealers is an investor

pub investor_there : (config : Configuration) (firm : ℕ) → nat_lt firm (firms_of config) ≡ true
    → length config.dealers ≤ firm → is_some (investor_numbered config firm) ≡ true
investor_there config firm known behind =
    let test : nat_le (length config.dealers) firm ≡ true = grind (arith, nat_tests) in
    let within : firm < firms_of config = grind (arith, nat_tests) in
    let place : firm - length config.dealers < length config.investors = omega arith in
    rw test (has_item config.investors (firm - length config.dealers) place)

-- the row of an investor that is has_item
pub row_there : (config : Configuration) (investor : ℕ)
    → is_some (investor_numbered config investor) ≡ true
    → (row : InvestorRow) × (investor_numbered config investor ≡ Some row)
row_there config investor is = by_found (investor_numbered config investor) refl is
  where
    by_found : (found : Option InvestorRow) → investor_numbered config investor ≡ found
        → is_some found ≡ true → (row : InvestorRow) × (investor_numbered config investor ≡ Some row)
    by_found None at none = cc
    by_found (Some row) at some = (row, at)
